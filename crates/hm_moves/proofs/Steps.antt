-- A move of a seat's caller leaves a good machine, and what it tells the caller is so.
use Rattle.std.proofs.Common.{◌≡◌, ◌+◌, ◌||◌, ℕ, Bool, true, false, List, [], ◌++◌, slice_index, slice_set, Option, None, refl, sym, ap, ◌∙◌, subst, arith, append-nil}
use Rattle.hm_moves.proofs.Words.{some, get_elem?, Entry, Name, PlainStore, IsThere, Stands, store_of, UsageLaws, Known, Site, Part, View, Act, Looks, Builds, Ticks, Shifts, Move, Heap, word_of, entry_of, finds, heap_after, view_after, seen_after, IsLawfulMove, Begins, PartIsGood, Core, Good, Carries, applied, letting, Told}
use Rattle.hm_moves.specs.After.{worked, view, unnamed, without}
use Rattle.hm_moves.specs.declared.moving.Tick.{Tick}
use Rattle.hm_moves.specs.declared.moving.Shift.{Shift}
use Rattle.hm_moves.specs.Shifts.{readied}
use Rattle.hm_moves.specs.Cycles.{bared}
use Rattle.hm_moves.proofs.Histories.{begins_more}
use Rattle.std.proofs.lemmas.List.{set-set}
use Rattle.hm_moves.proofs.Places.{set_here}
use Rattle.hm_moves.proofs.Released.{good_released}
use Rattle.hm_moves.proofs.Replaced.{apart_now, by_part, by_seat, views_now}
use Rattle.hm_moves.proofs.Words.{HoldsClean, IsLaterThan, MayTake}
use Rattle.hm_moves.specs.Allowed.{MayShift}
use Rattle.hm_moves.specs.Good.{Collects, HasMet}
use Rattle.hm_moves.specs.Showing.{ShowsPart}
use Rattle.hm_moves.proofs.ShownTicks.{collects_ticked}
use Rattle.hm_moves.proofs.ShownShifts.{collects_shifted}
use Rattle.hm_moves.proofs.ShownLooks.{collects_looked}
use Rattle.hm_moves.proofs.ShownBuilds.{collects_built}
use Rattle.hm_moves.proofs.Meeting.{cursor_word, met_after_shift, met_after_tick, met_stays}
use Rattle.hm_moves.proofs.Telling.{told_own}
use Rattle.hm_moves.proofs.Ticked.{heap_ticked, met_ticked, own_ticked, other_ticked}
use Rattle.hm_moves.proofs.Shifted.{beside, heap_shifted, other_shifted}
use Rattle.hm_moves.proofs.OwnShifted.{own_shifted}
use Rattle.hm_moves.proofs.Worked.{own_after, worked_heap, worked_met, worked_seen, worked_parts, worked_apart}

plus_none : (n : ℕ) → n + 0 ≡ n
plus_none n = omega arith

or_false : (b : Bool) → (b || false) ≡ b
or_false true = refl
or_false false = refl

module _ {U : Type 0} (q : Part U) (scan : Bool) (o : Option Known) (x : ℕ) where
  -- a caller that finds and publishes nothing lets go at most
  pub quiet_tick : (t : Tick) → worked q record { act = Ticks t; scan = scan; let_go = o } x None
      ≡ letting q o
  quiet_tick t i = bared q.cycle.scan.bare record q {
    draft = record q.draft {
      used = plus_none q.draft.used i;
      written = unnamed o q.draft.written;
    };
    hands = record q.hands {
      held = without q.hands.held o;
      own = append-nil q.hands.own i;
    };
    calls = record { mine = append-nil q.calls.mine i };
    cycle = record q.cycle {
      scan = record q.cycle.scan {
        mark = or_false q.cycle.scan.mark i;
        ends = append-nil q.cycle.scan.ends i;
      };
    };
  }

  pub quiet_shift : (f : Shift) → worked q record { act = Shifts f; scan = scan; let_go = o } x None
      ≡ letting q o
  quiet_shift f i = bared q.cycle.scan.bare record q {
    draft = record q.draft {
      used = plus_none q.draft.used i;
      written = unnamed o q.draft.written;
    };
    hands = record q.hands {
      held = without q.hands.held o;
      own = append-nil q.hands.own i;
    };
    calls = record { mine = append-nil q.calls.mine i };
    cycle = record q.cycle {
      scan = record q.cycle.scan {
        mark = or_false q.cycle.scan.mark i;
        ends = append-nil q.cycle.scan.ends i;
      };
    };
  }

-- a machine in which one caller has become another, over another heap, is good where that is kept
module _ {U : Type 0} (lawful : U → PlainStore → Type 0) (allowed : U → PlainStore → Entry → Type 0)
    (c : Core U) (id place : ℕ) (v : View U) (p : Part U) (at : Carries c.views id place v p)
    (h : Heap)
    (q : Part U) (g : Site U) where
  -- its seat
  abbrev quiet_view : View U
  quiet_view = view v.seen (slice_set v.parts place q)

  -- and the machine
  abbrev pub quiet_core : Core U
  quiet_core = record { heap = h; views = slice_set c.views id quiet_view }

  quiet_carries : Carries quiet_core.views id place quiet_view q
  quiet_carries = record {
    seat = set_here c.views id v quiet_view at.seat;
    place = set_here v.parts place p q at.place;
  }

  -- letting go keeps it so
  pub quiet_good : (o : Option Known) (new : Part U) → letting q o ≡ new → Good lawful allowed g
      quiet_core
      → Good lawful allowed g
      record { heap = h; views = slice_set c.views id (view v.seen (slice_set v.parts place new)) }
  quiet_good o new same good =
      let twice : slice_set (slice_set v.parts place q) place (letting q o)
      ≡ slice_set v.parts place new =
      set-set v.parts place q (letting q o) ∙ ap (slice_set v.parts place) same in
      let views : slice_set (slice_set c.views id quiet_view) id
      (view v.seen (slice_set (slice_set v.parts place q) place (letting q o)))
      ≡ slice_set c.views id (view v.seen (slice_set v.parts place new)) =
      set-set c.views id quiet_view
      (view v.seen (slice_set (slice_set v.parts place q) place (letting q o)))
      ∙ ap (λ (l : List (Part U)). slice_set c.views id (view v.seen l)) twice in
      subst (λ (vs : List (View U)). Good lawful allowed g record { heap = h; views = vs }) views
      (good_released lawful allowed g quiet_core id place quiet_view q o good quiet_carries)

module _ {U : Type 0} (lawful : U → PlainStore → Type 0) (allowed : U → PlainStore → Entry → Type 0)
    (c : Core U) (id place : ℕ) (v : View U) (p : Part U) (good : Good lawful allowed p.site c)
    (at : Carries c.views id place v p) where
  abbrev names : Name → Type 0
  names = IsThere (store_of c.heap.history)

  abbrev make : Entry → Type 0
  make e = Stands (store_of c.heap.history) e → allowed p.site.usage (store_of c.heap.history) e

  abbrev clean : Type 0
  clean = HoldsClean c.heap.words p

  abbrev later : Known → ℕ → Known → Type 0
  later = IsLaterThan p.site.shape c.heap

  mine : PartIsGood p.site c.heap v.seen p
  mine = good.parts id place v p at

  -- each seat has seen a beginning of the same history
  quiet_seen : (q : Part U) (number : q.number ≡ p.number) (j : ℕ) (u : View U)
      → get_elem? (views_now c.views id place v p q v.seen at number) j ≡ some u
      → Begins u.seen (c.heap.history ++ [])
  quiet_seen q number = by_seat c.views id place v p q v.seen at number
      (λ l. Begins l (c.heap.history ++ []))
      (begins_more v.seen c.heap.history [] (good.seen id v at.seat))
      (λ j u there. begins_more u.seen c.heap.history [] (good.seen j u there))

  -- the machine before a tick
  module _ (t : Tick) (may : MayTake names make clean later p (Ticks t)) where
    abbrev ticked : Core U
    ticked =
        let x : ℕ = slice_index c.heap.words (word_of p (Ticks t)) in
        quiet_core lawful allowed c id place v p at (heap_after c.heap p (Ticks t) x)
        (readied p (Ticks t) x) p.site

    tick_collects : Collects p.site ticked
    tick_collects = collects_ticked lawful allowed names make later c id place v p good at v.seen t
        may

    tick_good : Good lawful allowed p.site ticked
    tick_good =
        let x : ℕ = slice_index c.heap.words (word_of p (Ticks t)) in
        let h : Heap = heap_after c.heap p (Ticks t) x in
        let q : Part U = readied p (Ticks t) x in
        let after = tick_collects in
        record {
          heap = heap_ticked lawful allowed c.heap v.seen p good.heap mine names make clean later t
              may x
              after.moves after.state after.heap after.rule;
          seen = quiet_seen q refl;
          parts = λ j k u r s. by_part c.views id place v p q v.seen at refl
              (λ l z. ShowsPart p.site.shape after.moves after.state z → PartIsGood p.site h l z)
              (own_ticked lawful allowed c.heap v.seen p good.heap mine names make clean later t may
              x
              after.moves after.state after.heap after.rule)
              (λ n z ne there. other_ticked lawful allowed c.heap v.seen p good.heap mine names make
              clean later t
              may x after.moves after.state after.heap after.rule v.seen z
              (good.parts id n v z record { seat = at.seat; place = there }))
              (λ i n w z ne was. other_ticked lawful allowed c.heap v.seen p good.heap mine names
              make clean later t
              may x after.moves after.state after.heap after.rule w.seen z (good.parts i n w z was))
              j k u r s (after.parts j k u r s);
          apart = apart_now c.views id place v p q v.seen at refl good.apart;
          collects = after;
          met = by_part c.views id place v p q v.seen at refl (λ l z. HasMet p.site.shape h z)
              (met_after_tick p.site.shape h p t x (still v.seen p mine (good.met id place v p at)))
              (λ n z ne there.
              let was : Carries c.views id n v z = record { seat = at.seat; place = there } in
              still v.seen z (good.parts id n v z was) (good.met id n v z was))
              (λ i n w z ne was. still w.seen z (good.parts i n w z was) (good.met i n w z was));
        }
      where
        -- what a caller has met stays met
        still : (known : List Entry) (z : Part U) → PartIsGood p.site c.heap known z
            → HasMet p.site.shape c.heap z → HasMet p.site.shape ticked.heap z
        still = let after = tick_collects in
            met_ticked lawful allowed c.heap v.seen p good.heap mine names make clean later t may
            (slice_index c.heap.words (word_of p (Ticks t))) after.moves after.state after.heap
            after.rule

    -- a tick leaves a good machine
    tick_step : (scan : Bool) (o : Option Known)
        → Good lawful allowed p.site
        (applied c id place v p record { act = Ticks t; scan = scan; let_go = o })
    tick_step scan o =
        let x : ℕ = slice_index c.heap.words (word_of p (Ticks t)) in
        let q : Part U = readied p (Ticks t) x in
        quiet_good lawful allowed c id place v p at (heap_after c.heap p (Ticks t) x) q p.site o
        (worked q record { act = Ticks t; scan = scan; let_go = o } x None)
        (sym (quiet_tick q scan o x t)) tick_good

  -- and before a step on roles
  module _ (f : Shift) (may : MayShift p f) where
    abbrev shifted : Core U
    shifted =
        let x : ℕ = slice_index c.heap.words (word_of p (Shifts f)) in
        quiet_core lawful allowed c id place v p at (heap_after c.heap p (Shifts f) x)
        (readied p (Shifts f) x) p.site

    shift_good : Collects p.site shifted → Good lawful allowed p.site shifted
    shift_good after =
        let x : ℕ = slice_index c.heap.words (word_of p (Shifts f)) in
        let h : Heap = heap_after c.heap p (Shifts f) x in
        let q : Part U = readied p (Shifts f) x in
        let old = good.collects in
        let shown = old.parts id place v p at in
        record {
          heap = heap_shifted lawful allowed c.heap v.seen p good.heap mine old.moves old.state
              old.heap old.rule
              shown f may x;
          seen = quiet_seen q refl;
          parts = by_part c.views id place v p q v.seen at refl (PartIsGood p.site h)
              (own_shifted lawful allowed c.heap v.seen p good.heap mine old.moves old.state
              old.heap old.rule shown f
              may x)
              (λ n z ne there. other_shifted lawful allowed c.heap v.seen p good.heap mine old.moves
              old.state
              old.heap old.rule shown f may x v.seen z
              (λ e. ne (good.apart id n id place v v z p record { seat = at.seat; place = there } at
              e).1)
              (good.parts id n v z record { seat = at.seat; place = there }))
              (λ i n w z ne was. other_shifted lawful allowed c.heap v.seen p good.heap mine
              old.moves old.state
              old.heap old.rule shown f may x w.seen z
              (λ e. ne (good.apart i n id place w v z p was at e).0) (good.parts i n w z was));
          apart = apart_now c.views id place v p q v.seen at refl good.apart;
          collects = after;
          met = by_part c.views id place v p q v.seen at refl (λ l z. HasMet p.site.shape h z)
              (met_after_shift p.site.shape h p f x (still p (good.met id place v p at)))
              (λ n z ne there. still z (good.met id n v z record { seat = at.seat; place = there }))
              (λ i n w z ne was. still z (good.met i n w z was));
        }
      where
        -- the words of versions stay, and so what a caller has met
        still : (z : Part U) → HasMet p.site.shape c.heap z → HasMet p.site.shape shifted.heap z
        still z =
            let old = good.collects in
            met_stays p.site.shape c.heap shifted.heap z (λ k was own there named. (
              beside lawful allowed c.heap v.seen p good.heap mine old.moves old.state old.heap
                  old.rule (old.parts id place v p at) f may
                  (slice_index c.heap.words (word_of p (Shifts f))) k.version (cursor_word z),
              there,
            ))

    -- a step on roles leaves a good machine
    shift_step : Collects p.site shifted → (scan : Bool) (o : Option Known)
        → Good lawful allowed p.site
        (applied c id place v p record { act = Shifts f; scan = scan; let_go = o })
    shift_step after scan o =
        let x : ℕ = slice_index c.heap.words (word_of p (Shifts f)) in
        let q : Part U = readied p (Shifts f) x in
        quiet_good lawful allowed c id place v p at (heap_after c.heap p (Shifts f) x) q p.site o
        (worked q record { act = Shifts f; scan = scan; let_go = o } x None)
        (sym (quiet_shift q scan o x f))
        (shift_good after)

module _ {U : Type 0} (lawful : U → PlainStore → Type 0) (allowed : U → PlainStore → Entry → Type 0)
    (laws : (u : U) → UsageLaws (lawful u) (allowed u)) (c : Core U) (id place : ℕ) (v : View U)
    (p : Part U)
    (good : Good lawful allowed p.site c) (at : Carries c.views id place v p) where
  -- each act leaves a good machine
  step_by : (act : Act) (scan : Bool) (o : Option Known)
      → IsLawfulMove lawful allowed c.heap p record { act = act; scan = scan; let_go = o }
      → Good lawful allowed p.site
      (applied c id place v p record { act = act; scan = scan; let_go = o })
  step_by (Looks l) scan o may =
      let m : Move = record { act = Looks l; scan = scan; let_go = o } in
      record {
        heap = worked_heap lawful allowed laws c id place v p m good at may tt;
        seen = worked_seen lawful allowed laws c id place v p m good at may tt;
        parts = worked_parts lawful allowed laws c id place v p m good at may tt;
        apart = worked_apart lawful allowed laws c id place v p m good at may tt;
        collects = collects_looked lawful allowed c id place v p l scan o good at may;
        met = worked_met lawful allowed laws c id place v p m good at may tt;
      }
  step_by (Builds b) scan o may =
      let m : Move = record { act = Builds b; scan = scan; let_go = o } in
      let heap = worked_heap lawful allowed laws c id place v p m good at may tt in
      let parts = worked_parts lawful allowed laws c id place v p m good at may tt in
      record {
        heap = heap;
        seen = worked_seen lawful allowed laws c id place v p m good at may tt;
        parts = parts;
        apart = worked_apart lawful allowed laws c id place v p m good at may tt;
        collects = collects_built lawful allowed c id place v p b scan o good at may
            (seen_after v.seen c.heap.history
            (entry_of p.number (Builds b) (slice_index c.heap.words (word_of p (Builds b)))))
            heap (own_after lawful allowed laws c id place v p m good at may tt);
        met = worked_met lawful allowed laws c id place v p m good at may tt;
      }
  step_by (Ticks t) scan o may = tick_step lawful allowed c id place v p good at t may.act scan o
  step_by (Shifts f) scan o may =
      shift_step lawful allowed c id place v p good at f may.act
      (collects_shifted lawful allowed c id place v p good at v.seen f may.act) scan o

module _ {U : Type 0} (lawful : U → PlainStore → Type 0) (allowed : U → PlainStore → Entry → Type 0)
    (laws : (u : U) → UsageLaws (lawful u) (allowed u)) (g : Site U) (c : Core U) (id place : ℕ)
    (v : View U)
    (p : Part U) (m : Move) (good : Good lawful allowed g c) (at : Carries c.views id place v p)
    (may : IsLawfulMove lawful allowed c.heap p m) where
  site : p.site ≡ g
  site = (good.parts id place v p at).site

  good_own : Good lawful allowed p.site c
  good_own = subst (λ (z : Site U). Good lawful allowed z c) (sym site) good

  own_step : Good lawful allowed p.site (applied c id place v p m)
  own_step = step_by lawful allowed laws c id place v p good_own at m.act m.scan m.let_go may

  -- a move leaves a good machine
  pub good_step : Good lawful allowed g (applied c id place v p m)
  good_step = subst (λ (z : Site U). Good lawful allowed z (applied c id place v p m)) site own_step

  -- what it tells is so
  pub told_step : Told lawful allowed g m v place p (slice_index c.heap.words (word_of p m.act))
      (view_after v place c.heap.history p m (slice_index c.heap.words (word_of p m.act))
      (finds c.heap.index m.act (slice_index c.heap.words (word_of p m.act))))
  told_step = subst
      (λ (z : Site U). Told lawful allowed z m v place p
      (slice_index c.heap.words (word_of p m.act))
      (view_after v place c.heap.history p m (slice_index c.heap.words (word_of p m.act))
      (finds c.heap.index m.act (slice_index c.heap.words (word_of p m.act)))))
      site (told_own lawful allowed laws c id place v p good_own at m may own_step)
