-- How much tending is left, by where a caller stands.
use Rattle.std.proofs.Common.{◌≡◌, ◌≢◌, ◌<◌, ◌≤◌, ◌+◌, ◌*◌, ◌-◌, ◌^◌, ◌==◌, ◌&&◌, not, nat_lt, ℕ, Bool, true, false, List, Option, Some, if◌then◌else◌, refl, sym, ap, ◌∙◌, subst, arith}
use Rattle.std.proofs.Math.Logic.{dite}
use Rattle.std.proofs.Math.Decide.{ℕ_discrete}
use Rattle.std.proofs.lemmas.Bool.Decides.{nat_tests}
use Rattle.hm_shape.specs.declared.reply.ReplyKind.{ReplyKind}
use Rattle.hm_shape.specs.declared.reply.ReplyKind.TheVariants.{Joined}
use Rattle.hm_shape.specs.declared.roles.Roles.{Roles}
use Rattle.hm_moves.specs.declared.part.Seen.{Seen}
use Rattle.hm_moves.specs.Cycles.{is_before}
use Rattle.hm_cells.specs.Facts.{IsNext}
use Rattle.hm_cycle.specs.Standing.{Standing}
use Rattle.hm_heap.specs.Tending.{is_of}

-- what is left in a stage
abbrev left_by : Bool → Bool → Bool → ℕ
left_by frees yet clean = (if frees then 3 else 0) + (if yet then (if clean then 1 else 2) else 0)

left_few : (f o c : Bool) → left_by f o c ≤ 5
left_few true true true = omega arith
left_few true true false = omega arith
left_few true false c = omega arith
left_few false true true = omega arith
left_few false true false = omega arith
left_few false false c = omega arith

abbrev left_at : Standing → ℕ
left_at x = (if x.joined && nat_lt x.done x.stage.done then 3 else 0)
    + (if is_before x.reply x.stage.number then (if is_of x.scanned x.stage.number && not x.mark then 1 else 2) else 0)

-- and in all
abbrev pub to_go_at : Standing → ℕ
to_go_at x = 8 * (2 ^ 32 - x.stage.number) + left_at x

few_at : (x : Standing) → left_at x ≤ 5
few_at x = left_few (x.joined && nat_lt x.done x.stage.done) (is_before x.reply x.stage.number)
    (is_of x.scanned x.stage.number && not x.mark)

-- a later stage leaves less
less : (b a c l m : ℕ) → a < c → a < b → m ≤ 5 → 8 * (b - c) + m < 8 * (b - a) + l
less b a c l m later low few = omega (arith, later, low, few)

pub later_less : (x y : Standing) → x.stage.number < y.stage.number → x.stage.number < 4294967296
    → to_go_at y < to_go_at x
later_less x y later low = less (2 ^ 32) x.stage.number y.stage.number (left_at x) (left_at y) later low (few_at y)

-- and so does what is done in a stage
same : (b a l m : ℕ) → m < l → 8 * (b - a) + m < 8 * (b - a) + l
same b a l m h = omega (arith, h)

-- a caller that has seen the stage go on has no more left
pub seen_most : (x : Standing) (stage : Seen) (moves : ℕ) → IsNext x.stage stage → x.stage.number < 4294967296
    → to_go_at (record x { stage = stage; moves = moves }) ≤ to_go_at x
seen_most x stage moves next low = dite (ℕ_discrete stage.number x.stage.number)
    (λ (e : stage.number ≡ x.stage.number).
    let same_stage : stage ≡ x.stage = next.same e in
    let eq : to_go_at (record x { stage = stage; moves = moves }) ≡ to_go_at x =
    ap (λ (z : Seen). to_go_at (record x { stage = z; moves = moves })) same_stage in omega (arith, eq))
    (λ (other : stage.number ≢ x.stage.number).
    let number = next.number in
    let later : x.stage.number < stage.number = grind (arith, number, other) in
    let h = later_less x (record x { stage = stage; moves = moves }) later low in omega (arith, h))

-- and less where that is another stage
pub other_later : (old new : Seen) → IsNext old new → new ≢ old → old.number < new.number
other_later old new next other = dite (ℕ_discrete new.number old.number)
    (λ (e : new.number ≡ old.number). absurd (other (next.same e)))
    (λ (apart : new.number ≢ old.number). let number = next.number in grind (arith, number, apart))

-- a region that was given up is freed
without_freed : (w x : ℕ) (f : Bool) → f ≡ true → w + (0 + x) < w + ((if f then 3 else 0) + x)
without_freed w x true e = omega arith
without_freed w x false e = absurd (cc)

pub reused_less : (x : Standing) (roles : Roles) (masks : List (Option Roles)) (cursor : ℕ)
    → (x.joined && nat_lt x.done x.stage.done) ≡ true
    → to_go_at (record x { roles = roles; joined = false; masks = masks; cursor = cursor }) < to_go_at x
reused_less x roles masks cursor frees = without_freed (8 * (2 ^ 32 - x.stage.number))
    (if is_before x.reply x.stage.number then (if is_of x.scanned x.stage.number && not x.mark then 1 else 2) else 0)
    (x.joined && nat_lt x.done x.stage.done) frees

-- a number is not below itself
pub not_below : (n : ℕ) → nat_lt n n ≡ false
not_below n = grind (arith, nat_tests)

-- a stage is replied to
without_open : (w x y : ℕ) (f o c : Bool) → f ≡ false → o ≡ true → y ≤ x
    → w + (y + (if f then 1 else 0)) < w + (x + (if o then (if c then 1 else 2) else 0))
without_open w x y false true true e h less = omega (arith, less)
without_open w x y false true false e h less = omega (arith, less)
without_open w x y true o c e h less = absurd (cc)
without_open w x y false false c e h less = absurd (cc)

-- what is left to do for a stage that is not replied to, and of regions to be freed
abbrev yet_part : Bool → Bool → ℕ
yet_part yet clean = if yet then (if clean then 1 else 2) else 0

abbrev free_part : Bool → ℕ
free_part frees = if frees then 3 else 0

closed : (n : ℕ) (c : Bool) → yet_part (nat_lt n n) c ≡ 0
closed n c = ap (λ (b : Bool). yet_part b c) (not_below n)

pub replied_less : (x : Standing) (kind : ReplyKind) → is_before x.reply x.stage.number ≡ true
    → to_go_at (record x { reply = Some record { number = x.stage.number; kind = kind } }) < to_go_at x
replied_less x kind yet =
    let none = closed x.stage.number (is_of x.scanned x.stage.number && not x.mark) in
    let f = free_part (x.joined && nat_lt x.done x.stage.done) in
    let w = 8 * (2 ^ 32 - x.stage.number) in
    let more = without_open w f f false (is_before x.reply x.stage.number)
    (is_of x.scanned x.stage.number && not x.mark) refl yet (omega arith) in
    subst (λ (z : ℕ). w + (f + z) < to_go_at x) (sym none) more

-- and so in a join
pub joined_less : (x y : Standing) → is_before x.reply x.stage.number ≡ true
    → y.stage ≡ x.stage → y.done ≡ x.stage.done
    → y.reply ≡ Some record { number = x.stage.number; kind = Joined }
    → to_go_at y < to_go_at x
joined_less x y yet stage done reply = omega (arith, is, more)
  where
    w : ℕ
    w = 8 * (2 ^ 32 - x.stage.number)

    f : ℕ
    f = if x.joined && nat_lt x.done x.stage.done then 3 else 0

    more : w + (0 + 0) < to_go_at x
    more = without_open w f 0 false (is_before x.reply x.stage.number)
        (is_of x.scanned x.stage.number && not x.mark) refl yet (omega arith)

    none_freed : (j : Bool) (n : ℕ) → free_part (j && nat_lt n n) ≡ 0
    none_freed true n = ap free_part (not_below n)
    none_freed false n = refl

    is : to_go_at y ≡ w + (0 + 0)
    is = (λ i. 8 * (2 ^ 32 - (stage i).number)
        + (free_part (y.joined && nat_lt (done i) (stage i).done)
        + yet_part (is_before (reply i) (stage i).number) (is_of y.scanned (stage i).number && not y.mark)))
        ∙ (λ i. w + (none_freed y.joined x.stage.done i
        + closed x.stage.number (is_of y.scanned x.stage.number && not y.mark) i))

-- a scan ended clean
pub scanned_less : (x y : Standing) → is_before x.reply x.stage.number ≡ true
    → (is_of x.scanned x.stage.number && not x.mark) ≡ false
    → y.stage ≡ x.stage → y.reply ≡ x.reply → y.joined ≡ x.joined → y.done ≡ x.done
    → y.scanned ≡ Some x.stage.number → y.mark ≡ false → to_go_at y < to_go_at x
scanned_less x y yet clean stage reply joined done scanned mark = omega (arith, new, old)
  where
    w : ℕ
    w = 8 * (2 ^ 32 - x.stage.number)

    f : ℕ
    f = if x.joined && nat_lt x.done x.stage.done then 3 else 0

    same_number : (n : ℕ) → (n == n) ≡ true
    same_number n = grind (arith, nat_tests)

    new : to_go_at y ≡ w + (f + 1)
    new = (λ i. 8 * (2 ^ 32 - (stage i).number)
        + (free_part (joined i && nat_lt (done i) (stage i).done)
        + yet_part (is_before (reply i) (stage i).number) (is_of (scanned i) (stage i).number && not (mark i))))
        ∙ (λ i. w + (f + yet_part (yet i) (same_number x.stage.number i && true)))

    old : to_go_at x ≡ w + (f + 2)
    old = λ i. w + (f + yet_part (yet i) (clean i))
