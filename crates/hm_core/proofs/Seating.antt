-- Which seats are there, and whom they carry.
use Rattle.std.proofs.Common.{◌≡◌, ◌≢◌, ◌↔◌, ◌<◌, ◌+◌, ℕ, zero, suc, Bool, true, List, [], ◌∷◌, length, map, take, Some, None, refl, sym, ap, ◌∙◌, arith}
use Rattle.std.specs.Prelude.{slice_get, nat_lt}
use Rattle.std.proofs.lemmas.Bool.{ltb-true, lt-ltb}
use Rattle.hm_core.proofs.Words.{Entry, AnyUsage, Create, common_name, opening_of, side_entries, side_names, Part, View, Note, IsAwake, MayMeet, SeatState, Moment, core_of, own_part, own_view, IsSound, length-map, length-append, IsAlone}
use Rattle.hm_core.proofs.Moments.{awake_seated, awake_below, seated_awake, own_seat, view_at, view_from, only_one}

lone : (xs : List ℕ) (q : ℕ) → slice_get xs 0 ≡ Some q → length xs ≡ 1 → xs ≡ q ∷ []
lone [] q a b = absurd (omega arith)
lone (x ∷ []) q a b = cc
lone (x ∷ y ∷ ys) q a b = absurd (omega arith)

taken : (n : ℕ) (l : List Entry) → 0 < length l → (0 < n) ↔ (take n l ≢ [])
taken zero l some = (λ low. absurd (omega arith), λ none. absurd (none refl))
taken (suc n) [] some = absurd (omega arith)
taken (suc n) (e ∷ l) some = (λ low z. cc, λ none. omega arith)

-- a number that was read is positive where the one that it is is so
pub positive : (n s : ℕ) → n ≡ s → (nat_lt 0 n ≡ true) ↔ (0 < s)
positive n s e = (λ h. let low = ltb-true 0 n h in omega arith, λ h. lt-ltb 0 n (omega arith))

module _ (m : Moment) where
  pub awake_iff : (q : ℕ) (s : SeatState) (b : Bool) → Some s ≡ slice_get m.seats q
      → (b ≡ true) ↔ (slice_get s.parts 0 ≡ Some q)
      → (b ≡ true) ↔ IsAwake (core_of m) q (own_view m q) (own_part m q)
  awake_iff q s b e h = (
    λ t. awake_seated m q s record { seat = sym e; first = h.0 t },
    λ a.
        let w = seated_awake m q (own_view m q) (own_part m q) a in
        h.1 (rw (only_one s w.state (slice_get m.seats q) (sym e) w.seated.seat) w.seated.first),
  )

  pub none_awake : (q : ℕ) (v : View AnyUsage) (p : Part AnyUsage) → None ≡ slice_get m.seats q
      → IsAwake (core_of m) q v p → ⊥
  none_awake q v p e a =
      let w = seated_awake m q v p a in let both = e ∙ w.seated.seat in cc

  module _ (sound : IsSound m) where
    pub seated_alone : (q : ℕ) (s : SeatState) → Some s ≡ slice_get m.seats q
        → slice_get s.parts 0 ≡ Some q
        → length s.parts ≡ 1 → (q < m.shape.callers) × IsAlone (core_of m) q
    seated_alone q s e first one =
        let awake = awake_seated m q s record { seat = sym e; first = first } in
        let view = ap (λ (v : View AnyUsage). v.parts) (sym (own_seat m q s (sym e)))
        ∙ ap (map (own_part m)) (lone s.parts q first one) in
        (awake_below m sound q awake, (own_view m q, own_part m q, awake, view))

    pub alone_seated : (q : ℕ) (s : SeatState) → Some s ≡ slice_get m.seats q
        → IsAlone (core_of m) q
        → (slice_get s.parts 0 ≡ Some q) × (length s.parts ≡ 1)
    alone_seated q s e (v, p, awake, one) =
        let w = seated_awake m q v p awake in
        let parts : map (own_part m) s.parts ≡ p ∷ [] =
        ap (λ (x : View AnyUsage). x.parts) (own_seat m q s (sym e) ∙ sym w.view_is) ∙ one in (
          rw (only_one s w.state (slice_get m.seats q) (sym e) w.seated.seat) w.seated.first,
          sym (length-map s.parts (own_part m)) ∙ ap length parts,
        )

    pub none_alone : (q : ℕ) → None ≡ slice_get m.seats q → IsAlone (core_of m) q → ⊥
    none_alone q e (v, p, awake, one) = none_awake q v p e awake

    begun : 0 < length m.history
    begun =
        let legal = (sound.good tt).heap.history.legal in
        let long = ap length legal.begins ∙ length-append (opening_of m.start) legal.rest in
        let last = length-append (side_entries 0 m.start.sides)
        (Create 0 (common_name m.start) (side_names 0 m.start.sides) m.start.numbers ∷ []) in
        omega arith

    pub note_iff : (i : ℕ) (s : SeatState) → Some s ≡ slice_get m.seats (m.shape.callers + i)
        → (0 < s.seen) ↔ MayMeet (core_of m) m.shape.callers 0 (Note i)
    note_iff i s e =
        let j : ℕ = m.shape.callers + i in
        let some = taken s.seen m.history begun in
        let same = ap (λ (v : View AnyUsage). v.seen) (own_seat m j s (sym e)) in (
          λ low. (own_view m j, view_at m j s (sym e), λ none. some.0 low (same ∙ none)),
          λ (w, there, some_seen). let t = view_from m j w there in
              some.1 (λ none.
              some_seen (ap (λ (v : View AnyUsage). v.seen) t.2 ∙ (sym same ∙ none))),
        )

    pub none_note : (i : ℕ) → None ≡ slice_get m.seats (m.shape.callers + i)
        → MayMeet (core_of m) m.shape.callers 0 (Note i) → ⊥
    none_note i e (w, there, some_seen) =
        let t = view_from m (m.shape.callers + i) w there in let both = e ∙ t.1 in cc
