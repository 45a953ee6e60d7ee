-- A tick of a caller is a step of the rules of use again.
use Rattle.std.proofs.Common.{◌≡◌, ◌≢◌, ℕ, ◌+◌, ◌==◌, ◌&&◌, ◌<◌, ◌^◌, true, false, List, slice_index, if◌then◌else◌, refl, sym, ap, ◌∙◌, subst, arith, ⊎_elim, inr, eq-eqb, ltb-true}
use Rattle.hm_shape.specs.declared.reply.Reply.{Reply}
use Rattle.hm_shape.specs.declared.reply.ReplyKind.{ReplyKind}
use Rattle.hm_shape.specs.declared.reply.ReplyKind.TheVariants.{Joined, Clean, Dirty}
use Rattle.hm_shape.specs.declared.stage.Phase.{Phase}
use Rattle.hm_shape.specs.declared.stage.Phase.TheVariants.{Idle, Join, First, Second}
use Rattle.hm_shape.specs.Words.{stage_at}
use Rattle.hm_moves.proofs.Words.{reply_at, Known, Part, Heap, raised, ArePlaced, Core, Good, Carries, PlainStore, View, Entry, Name, eqb_tells, heap_after}
use Rattle.hm_moves.specs.declared.part.Seen.{Seen}
use Rattle.hm_moves.specs.declared.moving.Tick.{Tick}
use Rattle.hm_moves.specs.declared.moving.Tick.TheVariants.{LoadStage, MoveStage, LoadReply, StoreReply}
use Rattle.hm_moves.specs.declared.moving.Act.TheVariants.{Ticks}
use Rattle.hm_moves.specs.Acts.{tick_word}
use Rattle.hm_moves.specs.Allowed.{MayMoveStage, MayReply, MayTick, HoldsClean}
use Rattle.hm_moves.specs.Cycles.{is_idle, is_open}
use Rattle.hm_moves.specs.Decoding.{seen_word}
use Rattle.hm_moves.specs.Shifts.{readied}
use Rattle.hm_moves.specs.Showing.{phase_shown, reply_shown, join_shown, ShowsHeap, ShowsPart}
use Rattle.hm_moves.specs.Good.{AreIndexed, Collects}
use Rattle.hm_moves.proofs.Barely.{clean_bare, held_clean, masks_shown}
use Rattle.hm_moves.proofs.Collected.{collected, replaced}
use Rattle.hm_moves.proofs.Placed.{raised_else}
use Rattle.hm_rounds.specs.State.{State}
use Rattle.hm_rounds.specs.Steps as steps
use Rattle.hm_rounds.specs.Clocks.{moved_done}
use Rattle.hm_rounds.specs.After.{after}
use Rattle.hm_rounds.specs.Bareness.{MayBeBare}
use Rattle.hm_rounds.specs.Runs.{MayTake}
use Rattle.hm_rounds.proofs.Steps.{good_step}
use Rattle.hm_rounds.proofs.Parting.{part_else}
use Rattle.hm_rounds.specs.Allowed as may
use Rattle.hm_rounds.specs.Rule as rounds
use Rattle.hm_moves.proofs.TickFacts.{done_less, done_shown, heap_still, open_shown}
use Rattle.hm_moves.proofs.TickHeaps.{heap_heard, heap_moved, heap_replied, heap_seen, stage_met}
use Rattle.hm_moves.proofs.TickParts.{clock_heard, clock_missed, clock_moved, clock_replied, clock_seen, go_shown, hands_ticked, scan_heard, scan_missed, scan_moved, scan_replied, scan_seen, ties_ticked}

module _ {U : Type 0} (known : Name → Type 0) (make : Entry → Type 0)
    (later : Known → ℕ → Known → Type 0)
    (h : Heap) (moves : ℕ → ℕ) (x : State) (p : Part U) (shows : ShowsHeap p.site.shape h moves x)
    (rule : rounds.Good x) (placed : ArePlaced p.site.shape h.index h.places.dead h.places.used)
    (mine : ShowsPart p.site.shape moves x p)
    (hands : AreIndexed p.site.shape p.number h.index h.places p.hands)
    (low : p.number < p.site.shape.callers) where
  -- a caller may reply in the state where it may reply
  reply_may : (f : Phase) (k : ReplyKind) → MayReply known make (HoldsClean h.words p) later p f k
      → may.MayReply x p.number (phase_shown f) (reply_shown k)
  reply_may Idle k go = absurd go
  reply_may Join Joined go = mine.ties.join
      ∙ (ap join_shown go ∙ sym (mine.clock.seen.number_is ∙ omega arith))
  reply_may Join Clean go = absurd go
  reply_may Join Dirty go = absurd go
  reply_may First Joined go = absurd go
  reply_may First Clean go = record {
    masks = masks_shown p.site.shape h moves x shows p mine go.0;
    bare = clean_bare p.site.shape h moves x shows rule placed p mine hands low go.1;
  }
  reply_may First Dirty go = absurd go
  reply_may Second Joined go = absurd go
  reply_may Second Clean go = mine.scan.mark ∙ go
  reply_may Second Dirty go = tt

  -- it has not replied there to what it has seen
  open_there : is_open p ≡ true → x.clock.replied p.number < x.clock.seen p.number
  open_there yet = ltb-true (x.clock.replied p.number) (x.clock.seen p.number)
      (open_shown p.cycle.clock.reply p.cycle.clock.stage.number (x.clock.replied p.number)
      (x.clock.seen p.number)
      (x.clock.reply p.number) mine.clock.reply mine.clock.seen.number_is ∙ yet)

  -- a caller that is bare stays so over a tick
  stays_bare : (t : steps.Tick) → MayBeBare x p.number p.cycle.scan.bare (steps.Ticks t)
  stays_bare t is = inr record {
    was = mine.scan.bare is;
    stays = refl;
    held = held_clean p.site.shape h moves x shows rule placed p mine hands low
        (mine.scan.holds is);
  }

  -- so it may take the step
  takes : (t : steps.Tick) → may.TickAllowed x p.number t
      → MayTake x p.number p.cycle.scan.bare (steps.Ticks t)
  takes t go = record {
    below = let a = ap (λ z. z.callers) shows.shape in omega arith;
    allowed = go;
    truly = stays_bare t;
  }

  -- with what it leaves
  steps_on : (t : steps.Tick) → may.TickAllowed x p.number t
      → rounds.Good (after x p.number p.cycle.scan.bare (steps.Ticks t))
  steps_on t go = good_step x p.number p.cycle.scan.bare (steps.Ticks t) (takes t go) rule

module _ {U : Type 0} (lawful : U → PlainStore → Type 0) (allowed : U → PlainStore → Entry → Type 0)
    (known : Name → Type 0) (make : Entry → Type 0) (later : Known → ℕ → Known → Type 0)
    (c : Core U) (id place : ℕ) (v : View U) (p : Part U) (good : Good lawful allowed p.site c)
    (at : Carries c.views id place v p) (seen : List Entry) where
  abbrev x : State
  x = good.collects.state

  abbrev heap : ShowsHeap p.site.shape c.heap good.collects.moves x
  heap = good.collects.heap

  abbrev mine : ShowsPart p.site.shape good.collects.moves x p
  mine = good.collects.parts id place v p at

  low : p.number < p.site.shape.callers
  low = (good.parts id place v p at).number

  -- the machine after a tick, where nothing was let go yet
  abbrev pub tick_made : Tick → Core U
  tick_made t = replaced lawful allowed c id place v p
      (readied p (Ticks t) (slice_index c.heap.words (tick_word p.number t))) seen
      (heap_after c.heap p (Ticks t) (slice_index c.heap.words (tick_word p.number t))) good at refl

  abbrev y : steps.Tick → State
  y t = after x p.number p.cycle.scan.bare (steps.Ticks t)

  -- a tick leaves a machine that shows what the step leaves
  made_of : (t : Tick) (step : steps.Tick) (now : ℕ → ℕ) → may.TickAllowed x p.number step
      → ShowsHeap p.site.shape
      (heap_after c.heap p (Ticks t) (slice_index c.heap.words (tick_word p.number t))) now (y step)
      → ShowsPart p.site.shape now (y step)
      (readied p (Ticks t) (slice_index c.heap.words (tick_word p.number t)))
      → ((r : ℕ) → r ≢ p.number → now r ≡ good.collects.moves r)
      → Collects p.site (tick_made t)
  made_of t step now go shown own moved =
      collected lawful allowed c id place v p
      (readied p (Ticks t) (slice_index c.heap.words (tick_word p.number t))) seen
      (heap_after c.heap p (Ticks t) (slice_index c.heap.words (tick_word p.number t))) good at refl
      (y step) now
      (steps_on known make later c.heap good.collects.moves x p heap good.collects.rule
      good.heap.placed
      mine
      (good.parts id place v p at).hands low step go)
      shown own
      (λ r ne. part_else x p.number p.cycle.scan.bare (steps.Ticks step) r ne)
      (λ r g ne little narrow. refl)
      moved

  -- a load of the stage
  collects_seen : Collects p.site (tick_made LoadStage)
  collects_seen =
      let w : ℕ = slice_index c.heap.words stage_at in
      made_of LoadStage steps.LoadStage good.collects.moves tt
      (subst (λ z. ShowsHeap p.site.shape z good.collects.moves (y steps.LoadStage))
      (sym (heap_still c.heap p LoadStage w refl refl refl))
      (heap_seen p.site.shape c.heap good.collects.moves x heap p.number p.cycle.scan.bare))
      record {
        shape = refl;
        clock = clock_seen good.collects.moves x p mine w heap.stage;
        ties = ties_ticked good.collects.moves x p mine steps.LoadStage LoadStage w;
        scan = scan_seen good.collects.moves x p mine w;
        hands = hands_ticked good.collects.moves x p mine steps.LoadStage LoadStage w;
      }
      (λ r ne. refl)

  -- a load of a reply
  collects_heard : (of : ℕ) → of < p.site.shape.callers → Collects p.site (tick_made (LoadReply of))
  collects_heard of little =
      let w : ℕ = slice_index c.heap.words (reply_at of) in
      made_of (LoadReply of) (steps.LoadReply of) good.collects.moves tt
      (subst (λ z. ShowsHeap p.site.shape z good.collects.moves (y (steps.LoadReply of)))
      (sym (heap_still c.heap p (LoadReply of) w refl refl refl))
      (heap_heard p.site.shape c.heap good.collects.moves x heap p.number p.cycle.scan.bare of))
      record {
        shape = refl;
        clock = clock_heard good.collects.moves x p mine of w (heap.replies of little) little;
        ties = ties_ticked good.collects.moves x p mine (steps.LoadReply of) (LoadReply of) w;
        scan = scan_heard good.collects.moves x p mine of w;
        hands = hands_ticked good.collects.moves x p mine (steps.LoadReply of) (LoadReply of) w;
      }
      (λ r ne. refl)

  -- a store of a reply
  collects_replied : (reply : Reply)
      → MayTick known make (HoldsClean c.heap.words p) later p (StoreReply reply)
      → Collects p.site (tick_made (StoreReply reply))
  collects_replied reply go =
      let w : ℕ = slice_index c.heap.words (reply_at p.number) in
      let step : steps.Tick = steps.StoreReply (reply_shown reply.kind) in
      made_of (StoreReply reply) step good.collects.moves (
        open_there known make later c.heap good.collects.moves x p heap good.collects.rule
            good.heap.placed
            mine
            (good.parts id place v p at).hands low go.open_yet,
        subst (λ f. may.MayReply x p.number f (reply_shown reply.kind))
            (sym mine.clock.seen.phase_is)
            (reply_may known make later c.heap good.collects.moves x p heap good.collects.rule
            good.heap.placed mine
            (good.parts id place v p at).hands low p.cycle.clock.stage.phase reply.kind go.kind),
      )
      (heap_replied c.heap good.collects.moves x p heap low good.heap.wide p.cycle.scan.bare reply
      (mine.clock.seen.number_is ∙ ap (λ n. n + 1) (sym go.number)))
      record {
        shape = refl;
        clock = clock_replied good.collects.moves x p mine reply w go.number;
        ties = ties_ticked good.collects.moves x p mine step (StoreReply reply) w;
        scan = scan_replied good.collects.moves x p mine reply w;
        hands = hands_ticked good.collects.moves x p mine step (StoreReply reply) w;
      }
      (λ r ne. refl)

  module _ (from to : Seen) (go : MayMoveStage p from to) where
    abbrev w : ℕ
    w = slice_index c.heap.words stage_at

    -- a move of the stage that fails
    collects_missed : (w == seen_word from) ≡ false → Collects p.site
        (tick_made (MoveStage from to))
    collects_missed miss =
        made_of (MoveStage from to) steps.LoadStage good.collects.moves tt
        (subst (λ z. ShowsHeap p.site.shape z good.collects.moves (y steps.LoadStage))
        (sym (heap_still c.heap p (MoveStage from to) w refl
        (ap (λ e. if e then seen_word to else w) miss)
        (ap (λ e. e && is_idle to.phase) miss)))
        (heap_seen p.site.shape c.heap good.collects.moves x heap p.number p.cycle.scan.bare))
        record {
          shape = refl;
          clock = clock_missed good.collects.moves x p mine from to w miss heap.stage;
          ties = ties_ticked good.collects.moves x p mine steps.LoadStage (MoveStage from to) w;
          scan = scan_missed good.collects.moves x p mine from to w;
          hands = hands_ticked good.collects.moves x p mine steps.LoadStage (MoveStage from to) w;
        }
        (λ r ne. refl)

    -- and one that succeeds
    collects_moved : w ≡ seen_word from → Collects p.site (tick_made (MoveStage from to))
    collects_moved same =
        let fits : from.done < 2 ^ 30 = let a = done_less from.done to.phase in
        let b = go.done in let d = go.fits in omega arith in
        let met = stage_met c.heap good.collects.moves x p heap low good.heap.wide p.cycle.scan.bare
        from
        go.seen fits
        mine.clock.seen same in
        let step : steps.Tick = steps.MoveStage (phase_shown to.phase) in
        let number : x.clock.number ≡ from.number + 1 = sym met.0 ∙ (mine.clock.seen.number_is
        ∙ ap (λ (z : Seen). z.number + 1) (sym go.seen)) in
        made_of (MoveStage from to) step (raised good.collects.moves p.number) (
          met.0,
          subst (λ f. may.MayMove x p.number f (phase_shown to.phase))
              (sym (mine.clock.seen.phase_is ∙ ap (λ (z : Seen). phase_shown z.phase)
              (sym go.seen)))
              (go_shown good.collects.moves x p mine (ap (λ z. z.callers) heap.shape) from.phase
              to.phase
              go.goes),
        )
        (heap_moved c.heap good.collects.moves x p heap low good.heap.wide p.cycle.scan.bare from to
        go same
        number met.1
        met.2 met.3 good.collects.rule)
        record {
          shape = refl;
          clock = clock_moved good.collects.moves x p mine from to w
              (eq-eqb w (seen_word from) same)
              go.fits record {
                number_is = let a = go.number in omega arith;
                done_is = ap (λ n. moved_done n (phase_shown to.phase)) met.1
                    ∙ (done_shown from.done to.phase ∙ sym go.done);
                phase_is = refl;
              };
          ties = ties_ticked good.collects.moves x p mine step (MoveStage from to) w;
          scan = scan_moved good.collects.moves x p mine from to w;
          hands = hands_ticked good.collects.moves x p mine step (MoveStage from to) w;
        }
        (λ r ne. raised_else good.collects.moves p.number r ne)

  -- the machine after a tick shows a state that the rules lead to
  pub collects_ticked : (t : Tick) → MayTick known make (HoldsClean c.heap.words p) later p t
      → Collects p.site (tick_made t)
  collects_ticked LoadStage go = collects_seen
  collects_ticked (MoveStage from to) go = ⊎_elim
      (λ (e : ((slice_index c.heap.words stage_at == seen_word from) ≡ true)
      × (slice_index c.heap.words stage_at ≡ seen_word from)). collects_moved from to go e.1)
      (λ (e : ((slice_index c.heap.words stage_at == seen_word from) ≡ false)
      × (slice_index c.heap.words stage_at ≢ seen_word from)). collects_missed from to go e.0)
      (eqb_tells (slice_index c.heap.words stage_at) (seen_word from))
  collects_ticked (LoadReply of) go = collects_heard of go
  collects_ticked (StoreReply reply) go = collects_replied reply go
