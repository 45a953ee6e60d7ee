-- A caller lets go of a version, or of none: in a step of its own, or at the end of another.
use Rattle.std.proofs.Common.{◌≡◌, ◌<◌, ◌+◌, ◌&&◌, ◌||◌, ◌==◌, not, ℕ, zero, suc, Bool, true, false, List, [], ◌++◌, Option, None, refl, sym, subst, arith, append-nil, ◌/◌, ◌%◌, slice_get, if◌then◌else◌}
use Rattle.std.proofs.lemmas.Bool.{and_from, not_from_false, or_right}
use Rattle.std.proofs.lemmas.Bool.Decides.{nat_tests}
use Rattle.std.proofs.lemmas.Nat.{mod_below}
use Rattle.hm_shape.specs.declared.shape.Shape.{Shape}
use Rattle.hm_model.specs.declared.entry.Entry.{Entry}
use Rattle.hm_model.specs.Store.{PlainStore}
use Rattle.hm_moves.specs.declared.part.Known.{Known}
use Rattle.hm_moves.specs.declared.part.Part.{Part}
use Rattle.hm_moves.specs.declared.part.Site.{Site}
use Rattle.hm_moves.specs.declared.part.View.{View}
use Rattle.hm_moves.specs.declared.moving.Act.{Act}
use Rattle.hm_moves.specs.declared.moving.Act.TheVariants.{Looks, Shifts, Ticks}
use Rattle.hm_moves.specs.declared.moving.Look.TheVariants.{LoadStamp, LoadNumber}
use Rattle.hm_moves.specs.declared.moving.Move.{Move}
use Rattle.hm_moves.specs.declared.moving.Shift.{Shift}
use Rattle.hm_moves.specs.declared.moving.Tick.{Tick}
use Rattle.hm_moves.specs.declared.part.End.{End}
use Rattle.hm_moves.specs.Acts.{publishes}
use Rattle.hm_moves.specs.After.{draft_after, hands_after, letting, unnamed, without, worked}
use Rattle.hm_moves.specs.Cycles.{bared, cursor_after, field_count, field_word, has_masks, holds_from, is_at_cursor, is_cleared, is_next, is_scanning, known_from, met_after, passes, stops}
use Rattle.hm_moves.specs.Good.{AreIndexed, Carries, Collects, Core, Good, IsDrafting, PartIsGood, released}
use Rattle.hm_moves.specs.Places.{Heap, ArePlaced}
use Rattle.hm_moves.specs.Showing.{ShowsHeap, ShowsPart}
use Rattle.hm_moves.proofs.Held.{without_held}
use Rattle.hm_moves.proofs.Taking.{Stepped, collects_now}
use Rattle.hm_rounds.specs.State.{State}
use Rattle.hm_rounds.specs.Rule as rules
use Rattle.hm_moves.proofs.LettingGo.{indexed_held, let_go, none_before}

-- a caller whose act is done, and which has let go of nothing yet, lets go of a version, or of
-- none: for any act, where p is the caller that was readied
module _ {U : Type 0} (s : Shape) (h : Heap) (moves : ℕ → ℕ) (y : State) (p : Part U) (act : Act)
    (b : Bool)
    (x : ℕ)
    (found : Option Known) (shows : ShowsHeap s h moves y) (rule : rules.Good y)
    (mine : ShowsPart s moves y (worked p (record { act = act; scan = b; let_go = None }) x found))
    (placed : ArePlaced s h.index h.places.dead h.places.used) (low : p.number < s.callers)
    (clean : p.cycle.scan.bare ≡ true → holds_from p ≡ false) where
  -- where it is said what is written, and what is held in the end
  pub let_worked : (kept : List Known)
      → IsDrafting s p.number (draft_after p.draft (record { act = act; scan = b; let_go = None })
      x) kept h
      → (o : Option Known)
      → AreIndexed s p.number h.index h.places
      (hands_after p.hands (record { act = act; scan = b; let_go = o }) x found)
      → Stepped s h moves moves y (worked p (record { act = act; scan = b; let_go = o }) x found)
  let_worked kept drafting o hands =
      let m : Move = record { act = act; scan = b; let_go = None } in
      let a : Part U = worked p m x found in
      let_go s h moves y a shows rule mine placed low p.cycle.scan.bare p.hands.held found
      (publishes act x)
      refl kept
      drafting o hands
      (λ is none.
      let before : holds_from a ≡ false = none_before (known_from p) p.hands.held
      (without p.hands.held o)
      found
      (publishes act x) (clean is) none in
      or_right (is_cleared a) (p.cycle.scan.bare && not (holds_from a))
      (and_from p.cycle.scan.bare (not (holds_from a)) is (not_from_false (holds_from a) before)))

-- what an act without entry, without a version and without a field leaves of its caller is what
-- letting go does
quiet : {U : Type 0} (p : Part U) (o : Option Known) (used : ℕ) (own : List Known)
    (mine : List Entry)
    (mark : Bool) (cursor : ℕ) (ends : List End) (met : Option Known) → used ≡ p.draft.used
    → own ≡ p.hands.own → mine ≡ p.calls.mine → mark ≡ p.cycle.scan.mark
    → cursor ≡ p.cycle.scan.cursor → ends ≡ p.cycle.scan.ends → met ≡ p.cycle.scan.met
    → bared p.cycle.scan.bare (record p {
      draft = record p.draft { used = used; written = unnamed o p.draft.written };
      hands = record p.hands { held = without p.hands.held o; own = own };
      calls = record { mine = mine };
      cycle = record p.cycle {
        scan = record p.cycle.scan { mark = mark; cursor = cursor; ends = ends; met = met };
      };
    }) ≡ letting p o
quiet p o used own mine mark cursor ends met a b d e f g n = λ i.
    bared p.cycle.scan.bare (record p {
      draft = record p.draft { used = a i; written = unnamed o p.draft.written };
      hands = record p.hands { held = without p.hands.held o; own = b i };
      calls = record { mine = d i };
      cycle = record p.cycle {
        scan = record p.cycle.scan { mark = e i; cursor = f i; ends = g i; met = n i };
      };
    })

no_mark : (a b : Bool) → (a || (not b && false)) ≡ a
no_mark a b = grind arith

-- a tick and a shift leave their caller, once readied, as letting go does
pub quiet_tick : {U : Type 0} (p : Part U) (t : Tick) (b : Bool) (o : Option Known) (x : ℕ)
    → worked p (record { act = Ticks t; scan = b; let_go = o }) x None ≡ letting p o
quiet_tick p t b o x = quiet p o (p.draft.used + 0) (p.hands.own ++ []) (p.calls.mine ++ [])
    (p.cycle.scan.mark || (not false && false)) p.cycle.scan.cursor (p.cycle.scan.ends ++ [])
    p.cycle.scan.met (omega arith) (append-nil p.hands.own) (append-nil p.calls.mine)
    (no_mark p.cycle.scan.mark false) refl (append-nil p.cycle.scan.ends) refl

-- a shift
pub quiet_shift : {U : Type 0} (p : Part U) (f : Shift) (b : Bool) (o : Option Known) (x : ℕ)
    → worked p (record { act = Shifts f; scan = b; let_go = o }) x None ≡ letting p o
quiet_shift p f b o x = quiet p o (p.draft.used + 0) (p.hands.own ++ []) (p.calls.mine ++ [])
    (p.cycle.scan.mark || (not false && false)) p.cycle.scan.cursor (p.cycle.scan.ends ++ [])
    p.cycle.scan.met (omega arith) (append-nil p.hands.own) (append-nil p.calls.mine)
    (no_mark p.cycle.scan.mark false) refl (append-nil p.cycle.scan.ends) refl

-- no field is the stamp or a number, so a load of these passes nothing
stamp_else : (f : ℕ) → (1 == field_word f) ≡ false
stamp_else zero = refl
stamp_else (suc f) = grind (arith, nat_tests)

number_else : (i f : ℕ) → f < field_count → (6 + i == field_word f) ≡ false
number_else i zero low = grind (arith, nat_tests)
number_else i (suc f) low = grind (arith, nat_tests)

no_pass : (a b c d : Bool) → d ≡ false → (a && b && (c && d) && not false) ≡ false
no_pass a b c d e = grind (arith, e)

-- the cursor stays where nothing is passed
pub stays_there : (t : Bool) (n : ℕ) → t ≡ false → (if t then n + 1 else n) ≡ n
stays_there t n e = rw e refl

-- and it stops nowhere, since it finds nothing
no_stop : (a : Bool) → (a && false) ≡ false
no_stop true = refl
no_stop false = refl

-- so what was met stays
stays_met : (t u : Bool) (o : Option Known) → t ≡ false → u ≡ false
    → (if t then None else if u then None else o) ≡ o
stays_met t u o e f = rw e (rw f refl)

-- so does such a load
pub quiet_stamp : {U : Type 0} (p : Part U) (at : Known) (b : Bool) (o : Option Known) (x : ℕ)
    → worked p (record { act = Looks (LoadStamp at); scan = b; let_go = o }) x None ≡ letting p o
quiet_stamp p at b o x =
    let m : Move = record { act = Looks (LoadStamp at); scan = b; let_go = o } in
    let none : passes p m None m.act ≡ false = no_pass (b && is_scanning p) (has_masks p)
    (is_next (slice_get p.hands.own (p.cycle.scan.cursor / field_count)) at)
    (1 == field_word (p.cycle.scan.cursor % field_count))
    (stamp_else (p.cycle.scan.cursor % field_count)) in
    quiet p o (p.draft.used + 0) (p.hands.own ++ []) (p.calls.mine ++ [])
    (p.cycle.scan.mark || (not (b && is_scanning p) && false)) (cursor_after p m None)
    (p.cycle.scan.ends ++ []) (met_after p m None)
    (omega arith) (append-nil p.hands.own) (append-nil p.calls.mine)
    (no_mark p.cycle.scan.mark (b && is_scanning p))
    (stays_there (passes p m None m.act) p.cycle.scan.cursor none) (append-nil p.cycle.scan.ends)
    (stays_met (passes p m None m.act) (stops p m None m.act) p.cycle.scan.met none
    (no_stop ((b && is_scanning p) && has_masks p && is_at_cursor p at 1)))

-- and a load of a number
pub quiet_number : {U : Type 0} (p : Part U) (at : Known) (i : ℕ) (b : Bool) (o : Option Known)
    (x : ℕ)
    → worked p (record { act = Looks (LoadNumber at i); scan = b; let_go = o }) x None ≡ letting p o
quiet_number p at i b o x =
    let m : Move = record { act = Looks (LoadNumber at i); scan = b; let_go = o } in
    let none : passes p m None m.act ≡ false = no_pass (b && is_scanning p) (has_masks p)
    (is_next (slice_get p.hands.own (p.cycle.scan.cursor / field_count)) at)
    (6 + i == field_word (p.cycle.scan.cursor % field_count))
    (number_else i (p.cycle.scan.cursor % field_count)
    (mod_below p.cycle.scan.cursor 5 (omega arith))) in
    quiet p o (p.draft.used + 0) (p.hands.own ++ []) (p.calls.mine ++ [])
    (p.cycle.scan.mark || (not (b && is_scanning p) && false)) (cursor_after p m None)
    (p.cycle.scan.ends ++ []) (met_after p m None)
    (omega arith) (append-nil p.hands.own) (append-nil p.calls.mine)
    (no_mark p.cycle.scan.mark (b && is_scanning p))
    (stays_there (passes p m None m.act) p.cycle.scan.cursor none) (append-nil p.cycle.scan.ends)
    (stays_met (passes p m None m.act) (stops p m None m.act) p.cycle.scan.met none
    (no_stop ((b && is_scanning p) && has_masks p && is_at_cursor p at (6 + i))))

module _ {U : Type 0} (s : Shape) (h : Heap) (moves : ℕ → ℕ) (y : State) (p : Part U)
    (shows : ShowsHeap s h moves y) (rule : rules.Good y) (mine : ShowsPart s moves y p)
    (placed : ArePlaced s h.index h.places.dead h.places.used) (low : p.number < s.callers)
    (hands : AreIndexed s p.number h.index h.places p.hands) (kept : List Known)
    (drafting : IsDrafting s p.number p.draft kept h) where
  -- a caller that does nothing else lets go of a version, or of none
  pub let_quiet : (o : Option Known) → Stepped s h moves moves y (letting p o)
  let_quiet o = let_go s h moves y p shows rule mine placed low p.cycle.scan.bare p.hands.held None
      None refl
      kept
      drafting o
      (indexed_held s p.number h.index h.places p.hands (without p.hands.held o) hands
      (λ k there. hands.held k (without_held p.hands.held o k there)))
      (λ is none. is)

  -- so it does at the end of a tick
  pub let_tick : (t : Tick) (b : Bool) (o : Option Known) (x : ℕ)
      → Stepped s h moves moves y (worked p (record { act = Ticks t; scan = b; let_go = o }) x None)
  let_tick t b o x = subst (Stepped s h moves moves y) (sym (quiet_tick p t b o x)) (let_quiet o)

  -- of a shift
  pub let_shift : (f : Shift) (b : Bool) (o : Option Known) (x : ℕ)
      → Stepped s h moves moves y
      (worked p (record { act = Shifts f; scan = b; let_go = o }) x None)
  let_shift f b o x = subst (Stepped s h moves moves y) (sym (quiet_shift p f b o x)) (let_quiet o)

  -- of a load of a stamp
  pub let_stamp : (at : Known) (b : Bool) (o : Option Known) (x : ℕ)
      → Stepped s h moves moves y
      (worked p (record { act = Looks (LoadStamp at); scan = b; let_go = o }) x
      None)
  let_stamp at b o x = subst (Stepped s h moves moves y) (sym (quiet_stamp p at b o x))
      (let_quiet o)

  -- and of a load of a number
  pub let_number : (at : Known) (i : ℕ) (b : Bool) (o : Option Known) (x : ℕ)
      → Stepped s h moves moves y
      (worked p (record { act = Looks (LoadNumber at i); scan = b; let_go = o }) x
      None)
  let_number at i b o x = subst (Stepped s h moves moves y) (sym (quiet_number p at i b o x))
      (let_quiet o)

module _ {U : Type 0} (lawful : U → PlainStore → Type 0) (allowed : U → PlainStore → Entry → Type 0)
    (g : Site U) (c : Core U) (id place : ℕ) (v : View U) (p : Part U) (o : Option Known)
    (good : Good lawful allowed g c) (at : Carries c.views id place v p) where
  mine : PartIsGood g c.heap v.seen p
  mine = good.parts id place v p at

  old : Collects g c
  old = good.collects

  shown : ShowsPart g.shape old.moves old.state p
  shown = old.parts id place v p at

  step : Stepped g.shape c.heap old.moves old.moves old.state (letting p o)
  step = let_go g.shape c.heap old.moves old.state p old.heap old.rule shown good.heap.placed
      mine.number
      p.cycle.scan.bare p.hands.held None None refl p.hands.held mine.draft o
      (indexed_held g.shape p.number c.heap.index c.heap.places p.hands (without p.hands.held o)
      mine.hands
      (λ k there. mine.hands.held k (without_held p.hands.held o k there)))
      (λ is none. is)

  -- a machine collects after a caller let go of a version, or of none
  pub collects_released : Collects g (released c id place v p o)
  collects_released = collects_now g c id place v p (letting p o) v.seen c.heap old.moves at refl
      (λ j k w r is e. good.apart j k id place w v r p is at e) old step
