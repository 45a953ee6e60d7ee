-- The fills along a queue: how many there are, when there are no more, and the last one with its maker.
use Rattle.std.proofs.Common.{◌≡◌, ℕ, zero, suc, ◌+◌, ◌-◌, ◌≤◌, ◌==◌, min, Bool, true, false, cond, List, [], ◌∷◌, ◌++◌, length, get_or, Option, Some, None, unwrap_or, refl, sym, ap, ◌∙◌, arith}
use Rattle.std.proofs.lemmas.List.{append-nil}
use Rattle.hm_orders.specs.declared.report.Fill.{Fill}
use Rattle.hm_book.specs.declared.book.Resting.{Resting}
use Rattle.hm_book.specs.Trading.{fill_with}
use Rattle.hm_book.specs.Queue.{fills_along}
use Rattle.hm_book.proofs.OnePass.{last_taken, fills_along-none}

-- no fill comes after the end of a queue
pub fills_along-past : (number taker left : ℕ) (queue : List Resting) → queue ≡ [] → fills_along number taker left queue ≡ []
fills_along-past number taker left queue past = ap (fills_along number taker left) past

-- no fill comes where nothing is left
pub fills_along-spent : (number taker left : ℕ) (queue : List Resting) → left ≡ 0 → fills_along number taker left queue ≡ []
fills_along-spent number taker left queue spent =
    ap (λ n. fills_along number taker n queue) spent ∙ fills_along-none number taker queue

-- fills that no more follow are all
pub fills_along-all : (fills more all : List Fill) → fills ++ more ≡ all → more ≡ [] → fills ≡ all
fills_along-all fills more all e none = sym (append-nil fills) ∙ sym (ap (λ m. fills ++ m) none) ∙ e

-- one step of the lemma below
few_by : (maker : Resting) (queue : List Resting) (fill : Fill) (fills : List Fill) (none : Bool) → length fills ≤ length queue
    → length (cond none [] (fill ∷ fills)) ≤ length (maker ∷ queue)
few_by maker queue fill fills true few = omega arith
few_by maker queue fill fills false few = omega arith

-- a queue has at least as many orders as it gives fills
pub length-fills_along : (number taker left : ℕ) (queue : List Resting) → length (fills_along number taker left queue) ≤ length queue
length-fills_along number taker left [] = omega arith
length-fills_along number taker left (maker ∷ queue) =
    let more = fills_along (number + 1) taker (left - maker.quantity) queue in
    few_by maker queue (fill_with number taker left maker) more (left == 0)
    (length-fills_along (number + 1) taker (left - maker.quantity) queue)

-- one step of the lemma below
none_by : (fill : Fill) (fills : List Fill) (last : Resting × ℕ) (none : Bool) → length (cond none [] (fill ∷ fills)) ≡ 0
    → cond none None (Some last) ≡ None
none_by fill fills last true e = refl
none_by fill fills last false e = absurd (omega (arith, e))

-- where there is no fill, there is no last maker
last_taken-no_fill : (number taker left : ℕ) (queue : List Resting) → length (fills_along number taker left queue) ≡ 0
    → last_taken left queue ≡ None
last_taken-no_fill number taker left [] e = refl
last_taken-no_fill number taker left (maker ∷ queue) e =
    let more = fills_along (number + 1) taker (left - maker.quantity) queue in
    let last = unwrap_or (last_taken (left - maker.quantity) queue) (maker, min left maker.quantity) in
    none_by (fill_with number taker left maker) more last (left == 0) e

-- one step of the lemma below
last_by : (maker : Resting) (queue : List Resting) (fill : Fill) (fills : List Fill) (o : Option (Resting × ℕ)) (none : Bool) (n : ℕ)
    (d : Resting) (e : Fill) → length (cond none [] (fill ∷ fills)) ≡ suc n → (length fills ≡ 0 → o ≡ None)
    → ((m : ℕ) → length fills ≡ suc m → o ≡ Some (get_or queue m d, (get_or fills m e).quantity))
    → cond none None (Some (unwrap_or o (maker, fill.quantity)))
    ≡ Some (get_or (maker ∷ queue) n d, (get_or (cond none [] (fill ∷ fills)) n e).quantity)
last_by maker queue fill fills o true n d e long no_more more = absurd (omega (arith, long))
last_by maker queue fill fills o false zero d e long no_more more =
    ap (λ p. Some (unwrap_or p (maker, fill.quantity))) (no_more (omega (arith, long)))
last_by maker queue fill fills o false (suc n) d e long no_more more =
    ap (λ p. Some (unwrap_or p (maker, fill.quantity))) (more n (omega (arith, long)))

-- the last fill takes its quantity from the maker at its place in the queue
pub last_taken-last_fill : (number taker left : ℕ) (queue : List Resting) (n : ℕ) (d : Resting) (e : Fill)
    → length (fills_along number taker left queue) ≡ suc n
    → last_taken left queue ≡ Some (get_or queue n d, (get_or (fills_along number taker left queue) n e).quantity)
last_taken-last_fill number taker left [] n d e long = absurd (omega (arith, long))
last_taken-last_fill number taker left (maker ∷ queue) n d e long =
    let after = left - maker.quantity in
    let more = fills_along (number + 1) taker after queue in
    last_by maker queue (fill_with number taker left maker) more (last_taken after queue) (left == 0) n d e long
    (last_taken-no_fill (number + 1) taker after queue) (λ m long. last_taken-last_fill (number + 1) taker after queue m d e long)
