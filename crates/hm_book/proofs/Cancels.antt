-- What a cancel does, by the place of the order that it names.
use Rattle.std.proofs.Common.{◌≡◌, ℕ, ◌+◌, Bool, true, false, cond, ltb, not, ◌||◌, List, [], ◌∷◌, length, Some, None, refl, sym, ap, ◌∙◌, arith}
use Rattle.std.specs.List.{position, position_or_len, remove}
use Rattle.std.proofs.lemmas.Bool.{cond-true, cond-false}
use Rattle.std.proofs.lemmas.Option.{none-some, same_Some}
use Rattle.hm_orders.specs.declared.order.Order.{Order}
use Rattle.hm_orders.specs.declared.report.Fate.TheVariants.{Cancelled, Unknown}
use Rattle.hm_book.specs.declared.book.Resting.{Resting}
use Rattle.hm_book.specs.Effect.{has_name, rests, without, no_fill, cancel_effect}

module _ (file id : ℕ) where
  -- the place of the first order of this file with this id, or the number of orders
  abbrev place : List Resting → ℕ
  place book = position_or_len (has_name file id) book

  -- such an order rests where its place is one of the book's
  rests-at_place : (book : List Resting) → rests file id book ≡ ltb (place book) (length book)
  rests-at_place [] = refl
  rests-at_place (resting ∷ book) =
      let rest = rests-at_place book in
      elim (has_name file id resting) as (λ b. (b || rests file id book) ≡ ltb (cond (not b) (1 + place book) 0) (length (resting ∷ book)))
      [ true ↦ grind arith | false ↦ rest ∙ grind arith ]

  -- the book without it is the book without its place
  without-at_place : (book : List Resting) → without file id book ≡ remove book (place book)
  without-at_place [] = refl
  without-at_place (resting ∷ book) =
      let rest = without-at_place book in
      elim (has_name file id resting) as (λ b. cond b book (resting ∷ without file id book) ≡ remove (resting ∷ book) (cond (not b) (1 + place book) 0))
      [ true ↦ refl | false ↦ ap (λ l. resting ∷ l) rest ∙ grind arith ]

-- a first place is found where it is one
found : (b : Bool) (n i : ℕ) → cond b (Some n) None ≡ Some i → (b ≡ true) × (n ≡ i)
found true n i e = (refl, same_Some n i e)
found false n i e = absurd (none-some i e)

-- and none is found where it is not
missing : (b : Bool) (n : ℕ) → cond b (Some n) None ≡ None → b ≡ false
missing true n e = absurd (none-some n (sym e))
missing false n e = refl

module _ (order : Order) (book : List Resting) where
  -- a cancel takes out the order at the first place
  pub cancel_effect-at : (i : ℕ) → position (has_name order.file order.id) book ≡ Some i
      → cancel_effect order book ≡ no_fill Cancelled (remove book i)
  cancel_effect-at i e =
      let is = found (ltb (place order.file order.id book) (length book)) (place order.file order.id book) i e in
      cond-true _ _ _ (rests-at_place order.file order.id book ∙ is.0)
      ∙ ap (no_fill Cancelled) (without-at_place order.file order.id book ∙ ap (remove book) is.1)

  -- and is unknown where there is none
  pub cancel_effect-nowhere : position (has_name order.file order.id) book ≡ None → cancel_effect order book ≡ no_fill Unknown book
  cancel_effect-nowhere e =
      cond-false _ _ _ (rests-at_place order.file order.id book ∙ missing (ltb (place order.file order.id book) (length book)) (place order.file order.id book) e)
