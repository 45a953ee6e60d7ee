-- What holds of the item with each number, and what a push makes of it.
use Rattle.std.proofs.Common.{◌≡◌, ℕ, zero, suc, ◌<◌, ◌≤◌, List, [], ◌∷◌, ◌++◌, length, get_or, Option, Some, IfSome, Result, IfErr, refl, sym, ap, ◌∙◌, subst, arith}
use Rattle.std.specs.List.{slice_get}
use Rattle.std.proofs.lemmas.Option.{none-some, slice_get-get_or, slice_get_read, slice_get_within}
use Rattle.std.specs.Result.{IsErrAnd}
use Rattle.std.proofs.lemmas.Result.{err_from_is_err_and}
use Rattle.hm_replay.specs.Wishes.{file_at}

-- what holds of each item by its place holds of each after a push too
pub placed : {A : Type 0} (P : ℕ → A → Type 0) (xs : List A) (y : A) → ((place : ℕ) → IfSome (slice_get xs place) (P place)) → P (length xs) y
    → (place : ℕ) → IfSome (slice_get (xs ++ y ∷ []) place) (P place)
placed P [] y all here zero = here
placed P [] y all here (suc place) = tt
placed P (x ∷ xs) y all here zero = all zero
placed P (x ∷ xs) y all here (suc place) = placed (λ n. P (suc n)) xs y (λ n. all (suc n)) here place

-- what holds of each item by its number holds of each after a push too, where it holds of the item pushed
pub at_pushed : {A : Type 0} (P : ℕ → A → Type 0) (xs : List A) (y : A) → ((file : ℕ) → IfSome (file_at xs file) (P file)) → P (suc (length xs)) y
    → (file : ℕ) → IfSome (file_at (xs ++ y ∷ []) file) (P file)
at_pushed P xs y all here zero = tt
at_pushed P xs y all here (suc place) = placed (λ n. P (suc n)) xs y (λ n. all (suc n)) here place

-- what holds of the value, if there is one, holds of the value that there is
pub at_value : {A : Type 0} (P : A → Type 0) (o : Option A) (x : A) → o ≡ Some x → IfSome o P → P x
at_value P o x e h = subst (λ p. IfSome p P) e h

-- and what holds of the value that there is holds of the value, if there is one
pub of_value : {A : Type 0} (P : A → Type 0) (o : Option A) (x : A) → o ≡ Some x → P x → IfSome o P
of_value P o x e h = subst (λ p. IfSome p P) (sym e) h

-- each number from 1 to the number of items has an item
pub item_at : {A : Type 0} (P : Type 0) (xs : List A) (file : ℕ) → 1 ≤ file → file ≤ length xs → ((x : A) → file_at xs file ≡ Some x → P) → P
item_at P xs zero first last next = absurd (omega arith)
item_at P [] (suc place) first last next = absurd (omega arith)
item_at P (x ∷ xs) (suc place) first last next = next (get_or (x ∷ xs) place x) (slice_get-get_or (x ∷ xs) place x (omega arith))

-- a number that has an item is from 1 to the number of items
pub number_of : {A : Type 0} (xs : List A) (file : ℕ) (x : A) → file_at xs file ≡ Some x → (1 ≤ file) × (file ≤ length xs)
number_of xs (suc place) x e = let within = slice_get_within xs place x e in (omega arith, omega arith)
number_of xs zero x e = absurd (none-some x e)

-- the item that a loop comes to stands at its place
pub item_here : {A : Type 0} (xs : List A) (count place : ℕ) (x : A) → count ≡ place → place < length xs → x ≡ get_or xs place x → slice_get xs count ≡ Some x
item_here xs count place x counted within is = subst (λ n. slice_get xs n ≡ Some x) (sym counted) (slice_get_read xs (length xs) place x refl within is)

-- what holds of an error holds of an answer with that error
pub of_error : {T E : Type 0} (P : E → Type 0) (e : E) (r : Result T E) → IsErrAnd r (λ y. y ≡ e) → P e → IfErr r P
of_error P e r is h = let p = err_from_is_err_and r is in subst (λ s. IfErr s P) (sym p.1) (subst P (sym p.2) h)

-- what a list has at a place within it stands there
pub place_here : {A : Type 0} (xs : List A) (n place : ℕ) (d : A) → n ≡ place → place < length xs
    → slice_get xs n ≡ Some (get_or xs place d)
place_here xs n place d is within = ap (slice_get xs) is ∙ slice_get-get_or xs place d within
