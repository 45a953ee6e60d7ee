-- When a pass may take a step on the stage or on a reply, and what that leaves.
use Rattle.std.proofs.Common.{◌≡◌, ◌≢◌, ◌<◌, ◌+◌, ◌^◌, ◌&&◌, ◌==◌, ◌++◌, ◌≤◌, ◌%◌, ◌⊎◌, ℕ, Bool, true, false, not, Option, Some, None, Result, IfSome, IsNone, ◌*◌, ⊎_elim, if◌then◌else◌, refl, sym, ap, ◌∙◌, subst, append-nil, arith, eq-eqb, ne_eqb}
use Rattle.hm_shape.specs.declared.reply.Reply.{Reply}
use Rattle.hm_shape.specs.declared.reply.ReplyKind.{ReplyKind}
use Rattle.hm_shape.specs.declared.reply.ReplyKind.TheVariants.{Joined, Clean, Dirty}
use Rattle.hm_shape.specs.declared.stage.Phase.{Phase}
use Rattle.hm_shape.specs.declared.stage.Phase.TheVariants.{Idle, Join, First, Second}
use Rattle.hm_shape.specs.contracts.stage.Phase.{the_type}
use denote.Enum.Bare.{sameb}
use Rattle.hm_shape.specs.declared.stage.Stage.{Stage}
use Rattle.hm_shape.specs.Words.{kind_number, reply_at, reply_word, stage_word}
use Rattle.hm_moves.specs.declared.part.Seen.{Seen}
use Rattle.hm_moves.specs.declared.moving.Tick.{Tick}
use Rattle.hm_moves.specs.declared.moving.Tick.TheVariants.{LoadStage, MoveStage, LoadReply, StoreReply}
use Rattle.hm_moves.specs.Allowed.{IsPast, MayMoveStage, MayReply, MayTick}
use Rattle.hm_moves.specs.Cycles.{is_first}
use Rattle.hm_moves.specs.Decoding.{seen_of, seen_word, stage_in}
use Rattle.hm_moves.specs.Showing.{word_of_reply}
use Rattle.hm_moves.specs.Told.{IsReplyWord, TickFound}
use Rattle.hm_moves.proofs.Decoded.{stage_back}
use Rattle.hm_model.specs.declared.object.Name.{Name}
use Rattle.hm_cells.proofs.Words.{Seat, Entry, PlainStore, Known, Part, IsKnownName, MayMake, Ticks, Knowledge, Gripped, Facts, move_in, IsReady, IsSeated, Learns, Loads, Exchanges, Stores, Own, facts_of, MayReplySo, Steps, replying, scanned_after, stage_found, taken}
use Rattle.hm_cells.proofs.Listed.{listed_tick}
use Rattle.hm_cells.proofs.Moved.{moved}
use Rattle.hm_cells.proofs.OwnedTicks.{replied, scanned_ticked, seeing, ticked_own, ticking}
use Rattle.hm_cells.proofs.Ready.{ready}

-- no tick finds a version
tick_none : (t : Tick) (x : ℕ) (found : Option Known) → TickFound t x found → found ≡ None
tick_none LoadStage x found h = h
tick_none (MoveStage from to) x found h = h
tick_none (LoadReply of) x found h = h.0
tick_none (StoreReply reply) x found h = h

-- a phase is First
pub first_tells : (phase : Phase) (t : Bool) → t ≡ sameb the_type phase First
    → t ≡ is_first phase
first_tells Idle t e = e
first_tells Join t e = e
first_tells First t e = e
first_tells Second t e = e

-- where it is, a reply leaves no mark, and else the one that was
pub marked : (phase : Phase) (mark t : Bool) → t ≡ sameb the_type phase First
    → (if t then false else mark) ≡ mark && not (is_first phase)
marked phase mark true e =
    sym (ap (λ (t : Bool). mark && not t) (sym (first_tells phase true e)) ∙ none mark)
  where
    none : (t : Bool) → t && false ≡ false
    none true = refl
    none false = refl
marked phase mark false e =
    sym (ap (λ (t : Bool). mark && not t) (sym (first_tells phase false e)) ∙ all mark)
  where
    all : (t : Bool) → t && true ≡ t
    all true = refl
    all false = refl

-- the stage of a word is the one whose word it is
pub stage_is : (stage : Stage) (w : ℕ) → stage_word stage ≡ w → seen_of stage ≡ stage_in w
stage_is stage w e = sym (stage_back (seen_of stage) stage.done_fits) ∙ ap stage_in e

-- the word of the stage after an exchange, where that went, and where it found another
pub put_there : (x from next seen : ℕ) → x ≡ from → seen ≡ next
    → seen ≡ (if x == from then next else x)
put_there x from next seen e h = h ∙ ap (λ (t : Bool). if t then next else x) (sym (eq-eqb x from e))

pub kept_there : (x from next seen : ℕ) → x ≢ from → seen ≡ x
    → seen ≡ (if x == from then next else x)
kept_there x from next seen e h = h ∙ ap (λ (t : Bool). if t then next else x) (sym (ne_eqb x from e))

-- a caller that may reply may do so whatever it may enter
reply_may : {U : Type 0} (p : Part U) (known : Name → Type 0) (make make' : Entry → Type 0)
    (clean : Type 0) (later : Known → ℕ → Known → Type 0) (phase : Phase) (kind : ReplyKind)
    → MayReply known make clean later p phase kind → MayReply known make' clean later p phase kind
reply_may p known make make' clean later Idle kind h = h
reply_may p known make make' clean later Join Joined h = h
reply_may p known make make' clean later Join Clean h = h
reply_may p known make make' clean later Join Dirty h = h
reply_may p known make make' clean later First Joined h = h
reply_may p known make make' clean later First Clean h = h
reply_may p known make make' clean later First Dirty h = h
reply_may p known make make' clean later Second Joined h = h
reply_may p known make make' clean later Second Clean h = h
reply_may p known make make' clean later Second Dirty h = h

-- the kind of a reply is not 0
kind_some : (n : ℕ) (kind : ReplyKind) → (4 * n + kind_number kind) % 4 ≡ 0 → ⊥
kind_some n Joined e = absurd (omega (arith, e))
kind_some n Clean e = absurd (omega (arith, e))
kind_some n Dirty e = absurd (omega (arith, e))

-- the word of a reply, or 0, is that of the reply that it was unpacked to
pub reply_is : (x : ℕ) (result : Option Reply) → IsReplyWord x → x < 2 ^ 34
    → IfSome result (λ reply. reply_word reply ≡ x)
    → (IsNone result → (x % 4 ≡ 0) ⊎ (2 ^ 34 ≤ x)) → word_of_reply result ≡ x
reply_is x (Some reply) is low packs none = packs
reply_is x None is low packs none = ⊎_elim
    (λ (e : x ≡ 0). sym e)
    (λ (r : (reply : Reply) × (x ≡ reply_word reply)). absurd (⊎_elim
    (λ (e : x % 4 ≡ 0). kind_some r.0.number r.0.kind (ap (λ (w : ℕ). w % 4) (sym r.1) ∙ e))
    (λ (e : 2 ^ 34 ≤ x). omega (arith, low, e))
    (none refl))) is

module _ {U : Type 0} (lawful : U → PlainStore → Type 0)
    (allowed : U → PlainStore → Entry → Type 0)
    (seat : Seat (Unit {0}) (Knowledge U)) (grip : Gripped U) (own : Own)
    (seated : IsSeated lawful allowed seat (facts_of seat grip) own) (o : Facts U)
    (is : facts_of seat grip ≡ o) where
  abbrev s : Facts U
  s = facts_of seat grip

  -- what its pass may do to the stage or a reply it is ready for
  tick_ready : (t : Tick) (P : Part U → Type 0)
      → MayTick (IsKnownName s.part)
      (MayMake (lawful s.part.site.usage) (allowed s.part.site.usage) s.seen s.part.number)
      (s.part.cycle.scan.bare ≡ true) (IsPast s.part) s.part t
      → P s.part → IsReady lawful allowed seat.me.0 (move_in s false (Ticks t)) 0 P
  tick_ready t P may here =
      ready lawful allowed seat grip own seated false (Ticks t) P may tt here

  -- a load of the stage
  pub stage_ready : IsReady lawful allowed seat.me.0 (move_in s false (Ticks LoadStage)) 0
      (Loads (move_in s false (Ticks LoadStage)) 0)
  stage_ready = tick_ready LoadStage (Loads (move_in s false (Ticks LoadStage)) 0) tt
      record { place = refl; stays = λ x. refl }

  -- a load of a reply
  pub reply_ready : (q at : ℕ) → at ≡ reply_at q → q < o.part.site.shape.callers
      → IsReady lawful allowed seat.me.0 (move_in s false (Ticks (LoadReply q))) 0
      (Loads (move_in s false (Ticks (LoadReply q))) at)
  reply_ready q at e low =
      tick_ready (LoadReply q) (Loads (move_in s false (Ticks (LoadReply q))) at)
      (subst (λ (f : Facts U). q < f.part.site.shape.callers) (sym is) low)
      record { place = sym e; stays = λ x. refl }

  -- an exchange of the stage
  module _ (to : Stage) where
    abbrev going : Facts U → Tick
    going f = MoveStage f.part.cycle.clock.stage (seen_of to)

    pub move_ready : (seen : Stage) → seen_of seen ≡ o.part.cycle.clock.stage → (from next : ℕ)
        → from ≡ stage_word seen → next ≡ stage_word to
        → MayMoveStage o.part o.part.cycle.clock.stage (seen_of to)
        → IsReady lawful allowed seat.me.0 (move_in s false (Ticks (going s))) 0
        (Exchanges (move_in s false (Ticks (going s))) 0 from next)
    move_ready seen e from next f n may =
        tick_ready (going s) (Exchanges (move_in s false (Ticks (going s))) 0 from next)
        (subst (λ (f : Facts U). MayMoveStage f.part f.part.cycle.clock.stage (seen_of to))
        (sym is) may)
        record {
          place = refl;
          turns = λ x j. if x == (sym (from_is seen e from f)) j then sym n j
              else x;
        }
      where
        from_is : (seen : Stage) → seen_of seen ≡ o.part.cycle.clock.stage → (from : ℕ)
            → from ≡ stage_word seen → from ≡ seen_word s.part.cycle.clock.stage
        from_is seen e from f = f ∙ (ap seen_word e
            ∙ ap (λ (f : Facts U). seen_word f.part.cycle.clock.stage) (sym is))

  -- a store of a reply
  module _ (kind : ReplyKind) where
    abbrev replies : Facts U → Tick
    replies f = StoreReply (replying f kind)

    pub answer_ready : (at word : ℕ) → at ≡ reply_at own.number
        → word ≡ reply_word record { number = own.watch.stage.number; kind = kind }
        → MayReplySo o kind
        → IsReady lawful allowed seat.me.0 (move_in s false (Ticks (replies s))) 0
        (Stores lawful allowed (move_in s false (Ticks (replies s))) at word)
    answer_ready at word e w may =
        let here : MayReplySo s kind = subst (λ (f : Facts U). MayReplySo f kind) (sym is) may in
        tick_ready (replies s)
        (Stores lawful allowed (move_in s false (Ticks (replies s))) at word)
        record {
          number = refl;
          open_yet = here.open_yet;
          kind = reply_may s.part (IsKnownName s.part) (λ z. Unit {0})
              (MayMake (lawful s.part.site.usage) (allowed s.part.site.usage) s.seen s.part.number)
              (s.part.cycle.scan.bare ≡ true) (IsPast s.part) s.part.cycle.clock.stage.phase kind
              here.kind;
        }
        record {
          place = ap (λ (w : Own). reply_at w.number) (sym seated.is) ∙ sym e;
          value_is = λ x. ap (λ (w : Own). reply_word record {
            number = w.watch.stage.number;
            kind = kind;
          }) (sym seated.is) ∙ sym w;
          blind = λ k l at x y t. record {
            between = t.between;
            found = t.found;
            others = t.others;
            what = t.what;
            short = t.short;
            by = t.by;
            is = t.is;
            sure = t.sure;
            later = t.later;
            counted = t.counted;
            scanned = t.scanned;
            holds = t.holds;
            next = t.next;
          };
        }

  -- a tick leaves hand and scan, and what its pass knows changes by it
  module _ (seat' : Seat (Unit {0}) (Knowledge U)) (own' : Own)
      (table : seat'.table_id ≡ seat.table_id) (slots : seat'.me.1 ≡ seat.me.1) where
    module _ (tick : Facts U → Tick) (x : ℕ)
        (learns : Learns lawful allowed (move_in s false (Ticks (tick s))) 0 seat.me.0 x seat'.me.0)
      where
        abbrev found : Option Known
        found = (learns s.part seated.own).found

        none : found ≡ None
        none = tick_none (tick s) x found (learns s.part seated.own).what

        grip_now : grip ≡ record grip {
          hand = grip.hand ++ taken (Ticks (tick s)) x found;
          scanned = scanned_after s.part (move_in s false (Ticks (tick s))) found grip.scanned;
        }
        grip_now = λ j. record grip {
          hand = (sym (append-nil grip.hand)
              ∙ ap (λ (f : Option Known). grip.hand ++ taken (Ticks (tick s)) x f) (sym none)) j;
          scanned = scanned_ticked s.part seated.sound.old false
              (move_in s false (Ticks (tick s))).let_go (tick s) found grip.scanned j;
        }

        tick_now : own' ≡ ticking own (tick s) x
            → IsSeated lawful allowed seat' (facts_of seat' grip) own'
            × Steps lawful allowed o false (Ticks (tick o)) x (facts_of seat' grip)
        tick_now made =
            moved lawful allowed seat seat' grip grip own own' seated o is (λ f. Ticks (tick f)) false
            x learns table slots seated.sound.old
            (listed_tick s.part false (move_in s false (Ticks (tick s))).let_go x found
            seated.sound.old (tick s) seated.sound.listed)
            (made ∙ (ap (λ (w : Own). ticking w (tick s) x) seated.is
            ∙ sym (ticked_own s.part seated.sound.old false
            (move_in s false (Ticks (tick s))).let_go (tick s) x found none)))
            grip_now

    -- the stage that was loaded is seen
    pub stage_now : (x : ℕ)
        → (learns : Learns lawful allowed (move_in s false (Ticks LoadStage)) 0 seat.me.0 x
        seat'.me.0)
        → (stage : Stage) (seen : Seen) → stage_word stage ≡ x → seen ≡ seen_of stage
        → own' ≡ seeing own seen
        → IsSeated lawful allowed seat' (facts_of seat' grip) own'
        × Steps lawful allowed o false (Ticks LoadStage) (stage_word stage) (facts_of seat' grip)
    stage_now x learns stage seen word e made =
        let both = tick_now (λ f. LoadStage) x learns
        (made ∙ ap (seeing own) (e ∙ stage_is stage x word)) in (
          both.0,
          subst (λ (w : ℕ). Steps lawful allowed o false (Ticks LoadStage) w (facts_of seat' grip))
              (sym word) both.1,
        )

    -- and so is the one that was found, or put there
    pub move_now : (to : Stage) (x : ℕ)
        → (learns : Learns lawful allowed (move_in s false (Ticks (going to s))) 0 seat.me.0 x
        seat'.me.0)
        → (seen : Stage) → seen_of seen ≡ o.part.cycle.clock.stage → (from next : ℕ)
        → from ≡ stage_word seen → next ≡ stage_word to
        → (stage : Stage) (sees : Seen) → stage_word stage ≡ (if x == from then next else x)
        → sees ≡ seen_of stage → own' ≡ seeing own sees
        → (result : Result (Unit {0}) ℕ) → stage_found o result ≡ x
        → IsSeated lawful allowed seat' (facts_of seat' grip) own'
        × Steps lawful allowed o false (Ticks (going to o)) (stage_found o result)
        (facts_of seat' grip)
    move_now to x learns seen e from next f n stage sees word h made result found_is =
        let from_here : from ≡ seen_word s.part.cycle.clock.stage =
        f ∙ (ap seen_word e ∙ ap (λ (f : Facts U). seen_word f.part.cycle.clock.stage) (sym is)) in
        let both = tick_now (going to) x learns (made ∙ ap (seeing own) (h ∙ (stage_is stage
        (if x == from then next else x) word
        ∙ λ j. stage_in (if x == from_here j then n j else x)))) in (
          both.0,
          subst (λ (w : ℕ). Steps lawful allowed o false (Ticks (going to o)) w
              (facts_of seat' grip)) (sym found_is) both.1,
        )

    -- a reply that was loaded changes nothing in running words
    pub reply_now : (q x : ℕ)
        → (learns : Learns lawful allowed (move_in s false (Ticks (LoadReply q))) 0 seat.me.0 x
        seat'.me.0)
        → (result : Option Reply) → IfSome result (λ reply. reply_word reply ≡ x)
        → (IsNone result → (x % 4 ≡ 0) ⊎ (2 ^ 34 ≤ x)) → own' ≡ own
        → IsSeated lawful allowed seat' (facts_of seat' grip) own'
        × Steps lawful allowed o false (Ticks (LoadReply q)) (word_of_reply result)
        (facts_of seat' grip)
    reply_now q x learns result packs none made =
        let both = tick_now (λ f. LoadReply q) x learns made in (
          both.0,
          subst (λ (w : ℕ). Steps lawful allowed o false (Ticks (LoadReply q)) w
              (facts_of seat' grip))
              (sym (reply_is x result (learns s.part seated.own).what.1
              (learns s.part seated.own).short packs none)) both.1,
        )

    -- and one that was stored is the caller's last
    pub answer_now : (kind : ReplyKind) (x : ℕ)
        → (learns : Learns lawful allowed (move_in s false (Ticks (replies kind s))) 0 seat.me.0 x
        seat'.me.0)
        → x ≡ reply_word record { number = own.watch.stage.number; kind = kind } → (mark : Bool)
        → mark ≡ own.watch.mark && not (is_first own.watch.stage.phase)
        → own' ≡ replied own record { number = own.watch.stage.number; kind = kind } mark
        → IsSeated lawful allowed seat' (facts_of seat' grip) own'
        × Steps lawful allowed o false (Ticks (replies kind o)) (reply_word (replying o kind))
        (facts_of seat' grip)
    answer_now kind x learns word mark m made =
        let here : (w : Own) → Reply = λ w. record { number = w.watch.stage.number; kind = kind } in
        let both = tick_now (replies kind) x learns
        (made ∙ λ j. replied own (here (seated.is j)) (m j)) in (
          both.0,
          subst (λ (w : ℕ). Steps lawful allowed o false (Ticks (replies kind o)) w
              (facts_of seat' grip))
              (word ∙ (ap (λ (w : Own). reply_word (here w)) seated.is
              ∙ ap (λ (f : Facts U). reply_word (replying f kind)) is)) both.1,
        )
