-- No two names have one number in the state of the rules of use again.
use Rattle.std.proofs.Common.{◌≡◌, ◌≢◌, ◌<◌, ◌≤◌, ◌+◌, ◌*◌, ℕ, suc, arith, suc-mul, mul-suc, mul-le-mul_right, mul-le-mul_left}
use Rattle.hm_moves.proofs.Words.{Name}
use Rattle.hm_moves.specs.Showing.{name_shown}

-- a square and no more than its side is less than a greater square
square_less : (s t m : ℕ) → s < t → m ≤ s → s * s + m < t * t
square_less s t m less low =
    let a : suc s * suc s ≤ t * suc s = mul-le-mul_right (suc s) less in
    let b : t * suc s ≤ t * t = mul-le-mul_left t less in
    omega (arith, suc-mul s (suc s), mul-suc s s)

-- so the side is found again
same_side : (s t m n : ℕ) → s * s + m ≡ t * t + n → m ≤ s → n ≤ t → s ≡ t
same_side s t m n e a b =
    let x : s < t → s * s + m < t * t = λ h. square_less s t m h a in
    let y : t < s → t * t + n < s * s = λ h. square_less t s n h b in
    grind (arith, x, y)

-- two names with one number are one name
pub name_once : (n m : Name) → name_shown n ≡ name_shown m → n ≡ m
name_once n m e =
    let side : n.maker + n.count ≡ m.maker + m.count =
    same_side (n.maker + n.count) (m.maker + m.count) n.maker m.maker (omega (arith, e))
    (omega arith)
    (omega arith) in
    let square : (n.maker + n.count) * (n.maker + n.count)
    ≡ (m.maker + m.count) * (m.maker + m.count) =
    λ i. side i * side i in
    let maker : n.maker ≡ m.maker = omega (arith, e, square) in
    let count : n.count ≡ m.count = omega (arith, side, maker) in
    λ i. record { maker = maker i; count = count i }

-- a name has a number that is not 0
pub name_some : (n : Name) → name_shown n ≢ 0
name_some n e = omega (arith, e)
