-- What is enabled by what a caller has seen and knows is lawful by the whole history.
use Rattle.std.proofs.Common.{ℕ, get_or, List, Option, Some, None, IfSome, sym, subst}
use Rattle.hm_moves.proofs.Words.{Name, Contents, Field, Number, Refer, Stored, Changed, Entry, Create, Fetch, Store, StoreIf, PlainStore, IsThere, Stands, store_of, Known, Part, View, Site, Act, Looks, Builds, StoreOwn, Publish}
use Rattle.hm_moves.proofs.Words.{LinkStore, Move, AreKnown, IsKnownField, IsGiven, IsKnownName, Reads, Turns, IsFirst, MayTake, Enabled, IsLawfulMove, TurnsBy, MayMake, Core, Good, Carries, looked_at, want_of}
use Rattle.hm_moves.proofs.Histories.{come_now}
use Rattle.hm_moves.proofs.Heaps.{known_there}
use Rattle.hm_moves.proofs.Held.{some_more}
use Rattle.std.proofs.Common.{◌≡◌, ◌∙◌, ◌&&◌, slice_index, true, ap, refl}
use Rattle.hm_shape.specs.declared.reply.ReplyKind.{ReplyKind}
use Rattle.hm_shape.specs.declared.reply.ReplyKind.TheVariants.{Joined, Clean, Dirty}
use Rattle.hm_shape.specs.declared.stage.Phase.{Phase}
use Rattle.hm_shape.specs.declared.stage.Phase.TheVariants.{Idle, Join, First, Second}
use Rattle.hm_moves.specs.declared.moving.Tick.{Tick}
use Rattle.hm_moves.specs.declared.moving.Tick.TheVariants.{LoadStage, MoveStage, LoadReply, StoreReply}
use Rattle.hm_moves.specs.Cycles.{is_first, is_open, is_scanning}
use Rattle.hm_moves.specs.Allowed.{IsPast, MayReply, MayTick}
use Rattle.hm_moves.proofs.Words.{HoldsClean, IsLaterThan, Shorten, Ticks, Shifts}
use Rattle.hm_moves.proofs.Clean.{bare_clean}
use Rattle.hm_moves.proofs.Meeting.{at_cursor, cursor_word, word_same}

-- what is known by one reading is known by a wider one
module _ (known wider : Name → Type 0) (f : (n : Name) → known n → wider n) where
  one_wider : (r : Option Name) → IfSome r known → IfSome r wider
  one_wider None h = tt
  one_wider (Some n) h = f n h

  refs_wider : (refs : List (Option Name)) → AreKnown known refs → AreKnown wider refs
  refs_wider refs h k d low = one_wider (get_or refs k d) (h k d low)

  field_wider : (field : Field) → IsKnownField known field → IsKnownField wider field
  field_wider (Number i value) h = h
  field_wider (Refer i value) h = (h.0, one_wider value h.1)

  given_wider : (refs : List (Option Name)) (numbers : List ℕ) → IsGiven known refs numbers
      → IsGiven wider refs numbers
  given_wider refs numbers h = record { names = refs_wider refs h.names; sized = h.sized }

  module _ {U : Type 0} (p : Part U) where
    reads_wider : (k : Known) (e : Entry) → Reads known p k e → Reads wider p k e
    reads_wider k (Create q n refs numbers) h = h
    reads_wider k (Fetch q n answer) h = h
    reads_wider k (Store q n field) h = h
    reads_wider k (StoreIf q n stamp refs numbers Stored) h = h
    reads_wider k (StoreIf q n stamp refs numbers (Changed now)) h =
        (h.0, given_wider refs numbers h.1, h.2, h.3)

    turns_wider : (k : Known) (x : Contents) (e : Entry) → Turns known p k x e → Turns wider p k x e
    turns_wider k x (Create q n refs numbers) h = h
    turns_wider k x (Fetch q n answer) h = h
    turns_wider k x (Store q n field) h = (h.0, field_wider field h.1, h.2)
    turns_wider k x (StoreIf q n stamp refs numbers Stored) h =
        (h.0, given_wider refs numbers h.1, h.2, h.3)
    turns_wider k x (StoreIf q n stamp refs numbers (Changed now)) h = h

    turns_by_wider : (k : Known) (x : Contents) (o : Option Entry) → TurnsBy known p k x o
        → TurnsBy wider p k x o
    turns_by_wider k x None h = h
    turns_by_wider k x (Some e) h = turns_wider k x e h

    first_wider : (k : Known) → IsFirst known p k → IsFirst wider p k
    first_wider k h = record {
      room = h.room;
      version = h.version;
      name = h.name;
      rank = h.rank;
      stamp = h.stamp;
      names = refs_wider k.contents.refs h.names;
      built = h.built;
    }

    module _ (make may : Entry → Type 0) (g : (e : Entry) → make e → may e) (clean truly : Type 0)
        (c : is_scanning p ≡ true → clean → truly) (past later : Known → ℕ → Known → Type 0)
        (l : (at : Known) (i : ℕ) (target : Known) → past at i target → later at i target) where
      reply_wider : (phase : Phase) (kind : ReplyKind) → p.cycle.clock.stage.phase ≡ phase
          → is_open p ≡ true
          → MayReply known make clean past p phase kind
          → MayReply wider may truly later p phase kind
      reply_wider Idle kind at opened h = absurd h
      reply_wider Join Joined at opened h = h
      reply_wider Join Clean at opened h = absurd h
      reply_wider Join Dirty at opened h = absurd h
      reply_wider First Joined at opened h = absurd h
      reply_wider First Clean at opened h =
          (h.0, c (ap (λ (f : Phase). is_first f && is_open p) at ∙ opened) h.1)
      reply_wider First Dirty at opened h = absurd h
      reply_wider Second Joined at opened h = absurd h
      reply_wider Second Clean at opened h = h
      reply_wider Second Dirty at opened h = h

      tick_wider : (t : Tick) → MayTick known make clean past p t
          → MayTick wider may truly later p t
      tick_wider LoadStage h = h
      tick_wider (MoveStage from to) h = h
      tick_wider (LoadReply of) h = h
      tick_wider (StoreReply reply) h = record {
        number = h.number;
        open_yet = h.open_yet;
        kind = reply_wider p.cycle.clock.stage.phase reply.kind refl h.open_yet h.kind;
      }

      pub take_wider : (act : Act) → MayTake known make clean past p act
          → MayTake wider may truly later p act
      take_wider (Looks l) h = record {
        look = h.look;
        word = h.word;
        reads = some_more (Reads known p (looked_at l)) (Reads wider p (looked_at l))
            (reads_wider (looked_at l)) (want_of l) h.reads;
        may = some_more make may g (want_of l) h.may;
      }
      take_wider (Builds (StoreOwn i word)) h = h
      take_wider (Builds (Publish k)) h = record {
        first = first_wider k h.first;
        may = g (Create p.number k.name k.contents.refs k.contents.numbers) h.may;
      }
      take_wider (Builds (LinkStore at k o)) h = record {
        look = h.look;
        later = h.later;
        copies = h.copies;
        turns = turns_by_wider at k.contents o h.turns;
        may = some_more make may g o h.may;
      }
      take_wider (Builds (Shorten at i target)) h = record {
        own = h.own;
        word = h.word;
        held = h.held;
        kept = h.kept;
        later = l at i target h.later;
      }
      take_wider (Ticks t) h = tick_wider t h
      take_wider (Shifts f) h = h

module _ {U : Type 0} (lawful : U → PlainStore → Type 0)
    (allowed : U → PlainStore → Entry → Type 0) where
  -- what a caller knows to be later than what a word of its own names is later
  past_later : (c : Core U) (id place : ℕ) (v : View U) (p : Part U) → Good lawful allowed p.site c
      → Carries c.views id place v p → (k : Known) (i : ℕ) (target : Known) → IsPast p k i target
      → IsLaterThan p.site.shape c.heap k i target
  past_later c id place v p good at k i target past =
      let met = good.met id place v p at past.was past.met in
      let here = at_cursor p k i past.cursor in
      let one : Some met.at ≡ Some here.0 = sym met.there ∙ here.1 in
      let same : met.at ≡ here.0 = cc in
      record {
        was = past.was;
        published = met.published;
        named = ap (slice_index c.heap.words)
            (word_same p.site.shape k.version met.at.version i (cursor_word p)
            (sym (ap (λ (z : Known). z.version.0) same ∙ here.2)) here.3) ∙ met.named;
        same = past.same;
        rank = past.rank;
      }

  own_lawful : (c : Core U) (id place : ℕ) (v : View U) (p : Part U) (m : Move)
      → Good lawful allowed p.site c → Carries c.views id place v p → Enabled lawful allowed v.seen
      p m
      → IsLawfulMove lawful allowed c.heap p m
  own_lawful c id place v p m good at may =
      let mine = good.parts id place v p at in
      let store : PlainStore = store_of c.heap.history in
      let make : Entry → Type 0 = MayMake (lawful p.site.usage) (allowed p.site.usage) v.seen
      p.number in
      let now : Entry → Type 0 = λ e. Stands store e → allowed p.site.usage store e in
      let g : (e : Entry) → make e → now e = λ e made stands.
      (come_now (lawful p.site.usage) (allowed p.site.usage) p.site.start p.number p.calls.mine
      c.heap.history
      v.seen e
      (good.seen id v at.seat) mine.calls good.heap.history made stands).entry in
      record {
        act = take_wider (IsKnownName p) (IsThere store)
            (known_there lawful allowed c.heap v.seen p good.heap mine) p make now g
            (p.cycle.scan.bare ≡ true)
            (HoldsClean c.heap.words p)
            (bare_clean lawful allowed c id place v p good at) (IsPast p)
            (IsLaterThan p.site.shape c.heap) (past_later c id place v p good at) m.act may.act;
        holds = may.holds;
        let_go = may.let_go;
      }

  -- an enabled move is a lawful one
  pub enabled_lawful : (g : Site U) (c : Core U) (id place : ℕ) (v : View U) (p : Part U) (m : Move)
      → Good lawful allowed g c → Carries c.views id place v p → Enabled lawful allowed v.seen p m
      → IsLawfulMove lawful allowed c.heap p m
  enabled_lawful g c id place v p m good at may =
      own_lawful c id place v p m
      (subst (λ (z : Site U). Good lawful allowed z c) (sym (good.parts id place v p at).site) good)
      at may
