-- What rows are used for, once a caller has other roles.
use Rattle.std.proofs.Common.{◌≡◌, ◌≢◌, ◌<◌, ◌+◌, ◌-◌, ◌*◌, ◌/◌, ◌%◌, ◌&&◌, ℕ, true, false, nat_le, nat_lt, if◌then◌else◌, List, length, get_or, set, sym, ap, ◌∙◌, arith}
use Rattle.std.proofs.lemmas.Bool.Decides.{nat_tests}
use Rattle.hm_core.proofs.Words.{dite, ℕ_discrete, get_or-set_other, get_or-set_same, Shape, HandState, no_hand}
use Rattle.hm_moves.specs.After.{is_row_of}
use Rattle.hm_moves.specs.Cycles.{role_at}
use Rattle.hm_core.specs.Running.{role_in}

-- a row of a caller lies behind those of the callers before it
row_inside : (regions q row : ℕ) → regions ≡ 4 → row / regions ≡ q
    → (nat_le (q * regions) row && nat_lt row (q * regions + regions)) ≡ true
row_inside regions q row is at =
    let here : row / 4 ≡ q = ap (λ (n : ℕ). row / n) (sym is) ∙ at in
    rw (is) (grind (arith, nat_tests, here))

row_outside : (regions q row : ℕ) → regions ≡ 4 → row / regions ≢ q
    → (nat_le (q * regions) row && nat_lt row (q * regions + regions)) ≡ false
row_outside regions q row is ne =
    let away : row / 4 ≢ q = λ z. ne (ap (λ (n : ℕ). row / n) is ∙ z) in
    rw (is) (grind (arith, nat_tests, away))

-- and its place among them
place_inside : (regions q row : ℕ) → regions ≡ 4 → row / regions ≡ q
    → row % regions ≡ row - q * regions
place_inside regions q row is at =
    let here : row / 4 ≡ q = ap (λ (n : ℕ). row / n) (sym is) ∙ at in
    rw (is) (omega (arith, here))

-- rows of a caller are used for what its new roles say, and all others for what they were
pub roles_set : (s : Shape) (hands : List HandState) (q : ℕ) (h : HandState)
    → q < length hands → (row : ℕ)
    → role_in s (set hands q h) row
    ≡ (if is_row_of s q row then role_at h.cycle.ties.roles (row - q * s.regions)
    else role_in s hands row)
roles_set s hands q h low row = dite (ℕ_discrete (row / s.regions) q)
    (λ (at : row / s.regions ≡ q).
    rw (row_inside s.regions q row s.regions_fit at)
    (ap (λ (n : ℕ). role_at (get_or (set hands q h) n no_hand).cycle.ties.roles (row % s.regions))
    at
    ∙ (ap (λ (l : HandState). role_at l.cycle.ties.roles (row % s.regions))
    (get_or-set_same hands q h no_hand low)
    ∙ ap (role_at h.cycle.ties.roles) (place_inside s.regions q row s.regions_fit at))))
    (λ ne. rw (row_outside s.regions q row s.regions_fit ne)
    (ap (λ (l : HandState). role_at l.cycle.ties.roles (row % s.regions))
    (get_or-set_other hands q (row / s.regions) h no_hand ne)))
