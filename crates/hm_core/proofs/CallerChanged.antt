-- The seats after the hand of one caller changed, and an entry of it was made: all else stays.
use Rattle.std.proofs.Common.{◌≡◌, ◌≢◌, ◌<◌, ◌≤◌, ℕ, zero, suc, List, [], ◌∷◌, ◌++◌, length, map, take, set, Option, Some, refl, sym, ap, ◌∙◌, arith, get_or-set_other, get_or-set_same}
use Rattle.std.specs.Prelude.{slice_get, slice_index_or, slice_set, ◌/◌, ◌%◌}
use Rattle.hm_shape.specs.declared.roles.Roles.{Roles}
use Rattle.hm_shape.specs.declared.shape.Shape.{Shape}
use Rattle.hm_moves.specs.Cycles.{role_at}
use Rattle.hm_core.specs.Running.{role_in}
use Rattle.hm_core.proofs.Words.{fun_ext, take-append-le, get_or_from_slice_get, ℕ_discrete, dite, Entry, AnyUsage, calls_of, Part, listed, view, Carries, IsBy, HandState, no_hand, SeatState, no_seat, IsAwake, Moment, core_of, hand_at, own_part, own_view, seat_at, seat_view, site_of, IsSound, calls_beside}
use Rattle.hm_core.proofs.Moments.{Awakes, seated_awake, map_at}

-- a list is replaced at a place, and seen alike elsewhere
map_agree : {A B : Type 0} (f g : A → B) (xs : List A)
    → ((j : ℕ) (a : A) → slice_get xs j ≡ Some a → f a ≡ g a) → map f xs ≡ map g xs
map_agree f g [] h = refl
map_agree f g (x ∷ xs) h =
    let first = h 0 x refl in let rest = map_agree f g xs (λ j a e. h (suc j) a e) in cc

map_set_agree : {A B : Type 0} (f g : A → B) (xs : List A) (q : ℕ) (y : A) (b : B) → f y ≡ b
    → ((j : ℕ) (a : A) → slice_get xs j ≡ Some a → j ≢ q → f a ≡ g a)
    → map f (set xs q y) ≡ set (map g xs) q b
map_set_agree f g [] q y b e h = refl
map_set_agree f g (x ∷ xs) zero y b e h =
    let rest = map_agree f g xs (λ j a is. h (suc j) a is (λ z. omega arith)) in cc
map_set_agree f g (x ∷ xs) (suc q) y b e h =
    let first = h 0 x refl (λ z. omega arith) in
    let rest = map_set_agree f g xs q y b e
    (λ j a is ne. h (suc j) a is (λ z. ne (omega arith))) in cc

abbrev roles_of : List HandState → ℕ → Roles
roles_of hands r = (slice_index_or hands r no_hand).cycle.ties.roles

-- each caller's regions have the roles that they had
each_same : (hands : List HandState) (q : ℕ) (h : HandState) → q < length hands
    → h.cycle.ties.roles ≡ roles_of hands q → (r : ℕ)
    → roles_of (set hands q h) r ≡ roles_of hands r
each_same hands q h low same r = dite (ℕ_discrete r q)
    (λ e. let there = get_or-set_same hands q h no_hand low in cc)
    (λ ne. let there = get_or-set_other hands q r h no_hand ne in cc)

-- and so each row
pub roles_same : (s : Shape) (hands : List HandState) (q : ℕ) (h : HandState) → q < length hands
    → h.cycle.ties.roles ≡ roles_of hands q → role_in s (set hands q h) ≡ role_in s hands
roles_same s hands q h low same = fun_ext (λ row.
    ap (λ (z : Roles). role_at z (row % s.regions))
    (each_same hands q h low same (row / s.regions)))

module _ (m : Moment) (sound : IsSound m) (q : ℕ)
    (awake : IsAwake (core_of m) q (own_view m q) (own_part m q)) where
  abbrev own : SeatState
  own = seat_at m q

  pub seen_low : (j : ℕ) (s : SeatState) → slice_get m.seats j ≡ Some s → s.seen ≤ length m.history
  seen_low j s there =
      let is = get_or_from_slice_get m.seats j s no_seat there in
      let low = sound.seen j in grind arith

  seated : Awakes m q (own_view m q) (own_part m q)
  seated = seated_awake m q (own_view m q) (own_part m q) awake

  own_is : own ≡ seated.state
  own_is = get_or_from_slice_get m.seats q seated.state no_seat seated.seated.seat

  pub own_there : slice_get m.seats q ≡ Some own
  own_there = seated.seated.seat ∙ ap (λ (z : SeatState). Some z) (sym own_is)

  own_first : slice_get own.parts 0 ≡ Some q
  own_first = ap (λ (z : SeatState). slice_get z.parts 0) own_is ∙ seated.seated.first

  -- a caller that another place carries is another caller
  carried : (j k r : ℕ) (s : SeatState) → slice_get m.seats j ≡ Some s
      → slice_get s.parts k ≡ Some r
      → r ≡ q → (j ≡ q) × (k ≡ 0)
  carried j k r s there here same =
      let c : Carries (core_of m).views j k (seat_view m s) (own_part m r) = record {
        seat = map_at (seat_view m) m.seats j s there;
        place = map_at (own_part m) s.parts k r here;
      } in
      (sound.good tt).apart j k q 0 (seat_view m s) (own_view m q) (own_part m r) (own_part m q)
      c awake.carries same

  module _ (n : Moment) (o : Option Entry) (by : IsBy q o) (site : site_of n ≡ site_of m)
      (history : n.history ≡ m.history ++ listed o)
      (hands : (r : ℕ) → r ≢ q → hand_at n r ≡ hand_at m r) where
    other_part : (r : ℕ) → r ≢ q → own_part n r ≡ own_part m r
    other_part r ne =
        let calls = calls_beside q r m.history (calls_of r m.history) o by (λ z. ne (sym z)) refl in
        let h = hands r ne in cc

    -- the view of another seat is as it was
    pub other_view : (j : ℕ) (s : SeatState) → slice_get m.seats j ≡ Some s → j ≢ q
        → seat_view n s ≡ seat_view m s
    other_view j s there ne =
        let seen = take-append-le s.seen m.history (listed o) (seen_low j s there) in
        let parts = map_agree (own_part n) (own_part m) s.parts (λ k r here.
        other_part r (λ same. ne (carried j k r s there here same).0)) in cc

    module _ (new : Part AnyUsage) (is : own_part n q ≡ new) where
      pub own_parts : map (own_part n) own.parts ≡ slice_set (map (own_part m) own.parts) 0 new
      own_parts = go own.parts own_first (λ k r here. carried q k r own own_there here)
        where
          go : (l : List ℕ) → slice_get l 0 ≡ Some q
              → ((k r : ℕ) → slice_get l k ≡ Some r → r ≡ q → (q ≡ q) × (k ≡ 0))
              → map (own_part n) l ≡ slice_set (map (own_part m) l) 0 new
          go [] h each = absurd (cc)
          go (r ∷ rs) h each =
              let rest = map_agree (own_part n) (own_part m) rs (λ k t here.
              other_part t (λ e. let z = (each (suc k) t here e).1 in absurd (omega arith))) in cc

      -- all seats, with another one in place of the caller's own that carries the same callers
      pub views_set : (s : SeatState) → s.parts ≡ own.parts
          → map (seat_view n) (set m.seats q s) ≡ set (map (seat_view m) m.seats) q
          (view (take s.seen n.history) (slice_set (map (own_part m) own.parts) 0 new))
      views_set s parts = map_set_agree (seat_view n) (seat_view m) m.seats q s
          (view (take s.seen n.history) (slice_set (map (own_part m) own.parts) 0 new))
          (let own = own_parts in cc) other_view
