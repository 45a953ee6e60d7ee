-- What code reads of the fields is what the moment has that they tell.
use Rattle.std.proofs.Common.{◌≡◌, ◌<◌, ℕ, List, length, get_or, ap, ◌∙◌, arith}
use Rattle.hm_core.proofs.Words.{HandState, no_hand, SeatState, no_seat, IsAwake, Moment, core_of, hand_at, own_part, own_view, seat_at, IsSound, get_or_default}
use Rattle.hm_core.proofs.Moments.{awake_below}

-- an element that was read is the one at any default
pub read_at : {A : Type 0} (xs ys : List A) (i : ℕ) (y d : A) → xs ≡ ys → i < length ys
    → y ≡ get_or xs i y
    → y ≡ get_or ys i d
read_at xs ys i y d same low e = (rw same at e) ∙ get_or_default ys i y d low

module _ (a m : Moment) (same : a ≡ m) (sound : IsSound m) (q : ℕ)
    (awake : IsAwake (core_of m) q (own_view m q) (own_part m q)) where
  hand_there : q < length m.hands
  hand_there = let size = sound.hands_size in let low = awake_below m sound q awake in omega arith

  pub hand_below : q < length a.hands
  hand_below = rw same hand_there

  pub hand_read : (h : HandState) → h ≡ get_or a.hands q h → h ≡ hand_at m q
  hand_read h e =
      read_at a.hands m.hands q h no_hand (ap (λ (z : Moment). z.hands) same) hand_there e

  -- another seat, where it is there
  pub other_read : (j : ℕ) (s : SeatState) → j < length m.seats → s ≡ get_or a.seats j s
      → s ≡ seat_at m j
  other_read j s l e = read_at a.seats m.seats j s no_seat (ap (λ (z : Moment). z.seats) same) l e

  pub seat_read : (s : SeatState) → s ≡ get_or a.seats q s → s ≡ seat_at m q
  seat_read s e =
      other_read q s
      (let size = sound.seats_size in let low = awake_below m sound q awake in omega arith) e
