-- A look or a build leaves good heaps and callers.
use Rattle.std.proofs.Common.{◌≡◌, ◌≢◌, ℕ, List, slice_index, slice_set, Option, IfSome, refl}
use Rattle.hm_moves.proofs.Words.{some, get_elem?, Entry, Name, PlainStore, IsThere, Stands, store_of, UsageLaws, Known, Part, View, Move, IsPublished, word_of, entry_of, finds, listed, seen_after, IsLawfulMove, HoldsClean, IsLaterThan, Begins, HeapIsGood, PartIsGood, Core, Good, Carries, Found}
use Rattle.hm_moves.specs.After.{worked}
use Rattle.hm_moves.specs.Good.{HasMet}
use Rattle.hm_moves.proofs.Histories.{IsBy, begins_more}
use Rattle.hm_moves.proofs.Heaps.{IsWork, heap_worked}
use Rattle.hm_moves.proofs.HeapSteps.{heap_step}
use Rattle.hm_moves.proofs.Finding.{entry_by, found_now}
use Rattle.hm_moves.proofs.Parts.{own_part, begins_after}
use Rattle.hm_moves.proofs.OtherParts.{other_part, calls_known, calls_along}
use Rattle.hm_moves.proofs.Meeting.{met_other, met_own}
use Rattle.hm_moves.proofs.Replaced.{apart_now, by_part, by_seat, seat_now}

module _ {U : Type 0} (lawful : U → PlainStore → Type 0) (allowed : U → PlainStore → Entry → Type 0)
    (laws : (u : U) → UsageLaws (lawful u) (allowed u)) (c : Core U) (id place : ℕ) (v : View U)
    (p : Part U)
    (m : Move) (good : Good lawful allowed p.site c) (at : Carries c.views id place v p)
    (may : IsLawfulMove lawful allowed c.heap p m) where
  abbrev names : Name → Type 0
  names = IsThere (store_of c.heap.history)

  abbrev make : Entry → Type 0
  make e = Stands (store_of c.heap.history) e → allowed p.site.usage (store_of c.heap.history) e

  abbrev clean : Type 0
  clean = HoldsClean c.heap.words p

  abbrev later : Known → ℕ → Known → Type 0
  later = IsLaterThan p.site.shape c.heap

  mine : PartIsGood p.site c.heap v.seen p
  mine = good.parts id place v p at

  begins : Begins v.seen c.heap.history
  begins = good.seen id v at.seat

  abbrev x : ℕ
  x = slice_index c.heap.words (word_of p m.act)

  abbrev new : Part U
  new = worked p m x (finds c.heap.index m.act x)

  abbrev made : Option Entry
  made = entry_of p.number m.act x

  -- what the seat has seen afterwards
  abbrev seen_now : List Entry
  seen_now = seen_after v.seen c.heap.history made

  by : IsBy p.number made
  by = entry_by lawful allowed c.heap v.seen p good.heap mine names make clean later m.act may.act x

  module _ (work : IsWork m.act) where
    -- the caller is good
    pub own_after : PartIsGood p.site (heap_worked c.heap p m.act x) seen_now new
    own_after = own_part lawful allowed c.heap v.seen p good.heap mine names make clean later begins
        m work may.act x refl

    -- another caller of the same seat
    along : (k : ℕ) (q : Part U) → k ≢ place → get_elem? v.parts k ≡ some q
        → PartIsGood p.site (heap_worked c.heap p m.act x) seen_now q
    along k q ne there =
        let was : Carries c.views id k v q = record { seat = at.seat; place = there } in
        let theirs = good.parts id k v q was in
        let apart : q.number ≢ p.number = λ e. ne (good.apart id k id place v v q p was at e).1 in
        other_part lawful allowed c.heap v.seen p good.heap mine names make clean later v.seen q
        apart theirs m.act work may.act
        x seen_now
        (calls_along lawful allowed c.heap v.seen p good.heap mine names make clean later v.seen q
        apart theirs made by
        begins)

    -- a caller of another seat
    beside : (j k : ℕ) (u : View U) (q : Part U) → j ≢ id → Carries c.views j k u q
        → PartIsGood p.site (heap_worked c.heap p m.act x) u.seen q
    beside j k u q ne was =
        let theirs = good.parts j k u q was in
        let apart : q.number ≢ p.number = λ e. ne (good.apart j k id place u v q p was at e).0 in
        other_part lawful allowed c.heap v.seen p good.heap mine names make clean later u.seen q
        apart theirs m.act work may.act
        x u.seen
        (calls_known lawful allowed c.heap v.seen p good.heap mine names make clean later u.seen q
        apart theirs made by)

    -- the heap is good
    pub worked_heap : HeapIsGood lawful allowed p.site (heap_worked c.heap p m.act x)
    worked_heap = heap_step lawful allowed laws c.heap v.seen p good.heap mine m.act work may.act x
        refl

    -- each seat has seen a beginning of the history
    pub worked_seen : (j : ℕ) (u : View U)
        → get_elem? (slice_set c.views id (seat_now c.views id place v p new seen_now at refl)) j
        ≡ some u
        → Begins u.seen (heap_worked c.heap p m.act x).history
    worked_seen = by_seat c.views id place v p new seen_now at refl
        (λ l. Begins l (heap_worked c.heap p m.act x).history)
        (begins_after lawful allowed c.heap v.seen p good.heap mine names make clean later begins
        made)
        (λ j u there. begins_more u.seen c.heap.history (listed made) (good.seen j u there))

    -- each caller is good
    pub worked_parts : (j k : ℕ) (u : View U) (q : Part U)
        → Carries (slice_set c.views id (seat_now c.views id place v p new seen_now at refl)) j k u
        q
        → PartIsGood p.site (heap_worked c.heap p m.act x) u.seen q
    worked_parts = by_part c.views id place v p new seen_now at refl
        (PartIsGood p.site (heap_worked c.heap p m.act x)) own_after along beside

    -- and no caller is carried twice
    pub worked_apart : (j k n l : ℕ) (u w : View U) (q r : Part U)
        → Carries (slice_set c.views id (seat_now c.views id place v p new seen_now at refl)) j k u
        q
        → Carries (slice_set c.views id (seat_now c.views id place v p new seen_now at refl)) n l w
        r
        → q.number ≡ r.number → (j ≡ n) × (k ≡ l)
    worked_apart = apart_now c.views id place v p new seen_now at refl good.apart

    -- what each caller's scan has met is so
    pub worked_met : (j k : ℕ) (u : View U) (q : Part U)
        → Carries (slice_set c.views id (seat_now c.views id place v p new seen_now at refl)) j k u
        q → HasMet p.site.shape (heap_worked c.heap p m.act x) q
    worked_met = by_part c.views id place v p new seen_now at refl
        (λ l z. HasMet p.site.shape (heap_worked c.heap p m.act x) z)
        (met_own lawful allowed c.heap v.seen p good.heap mine names make clean later m work
        may.act x refl (good.met id place v p at))
        (λ k q ne there.
        let was : Carries c.views id k v q = record { seat = at.seat; place = there } in
        met_else id k v q was (λ e. ne (good.apart id k id place v v q p was at e).1))
        (λ j k u q ne was.
        met_else j k u q was (λ e. ne (good.apart j k id place u v q p was at e).0))
      where
        -- so for another caller
        met_else : (j k : ℕ) (u : View U) (q : Part U) → Carries c.views j k u q
            → q.number ≢ p.number → HasMet p.site.shape (heap_worked c.heap p m.act x) q
        met_else j k u q was apart =
            met_other lawful allowed c.heap v.seen p good.heap mine names make clean later m work
            may.act x refl u.seen q apart (good.parts j k u q was) (good.met j k u q was)

    -- what is found is so
    pub worked_found : Found m.act x (finds c.heap.index m.act x)
        × IfSome (finds c.heap.index m.act x) (IsPublished c.heap.index)
    worked_found = found_now lawful allowed c.heap v.seen p good.heap mine names make clean later
        m.act work may.act x refl
