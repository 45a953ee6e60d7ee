-- Roles of a caller's regions before a join or a reuse and after it.
use Rattle.std.proofs.Common.{◌≡◌, ◌≢◌, ◌<◌, ◌≤◌, ◌+◌, ℕ, zero, suc, not, Bool, true, false, nat_lt, List, [], ◌∷◌, length, map, filter, take, get_or, slice_set, Some, None, unwrap_or, if◌then◌else◌, refl, sym, ap, ◌∙◌, subst, arith}
use Rattle.std.proofs.Common.{ext_get_or}
use Rattle.std.proofs.Math.Logic.{dite}
use Rattle.std.proofs.Math.Decide.{ℕ_discrete}
use Rattle.std.specs.Array.{IsMapOf, MapsFrom}
use Rattle.std.specs.Fn.{Called}
use Rattle.std.specs.List.{position, position_or_len}
use Rattle.std.proofs.lemmas.List.{get_or-map, length-map}
use denote.Param.Members.{Mut}
use Rattle.hm_shape.specs.declared.roles.Role.{Role}
use Rattle.hm_shape.specs.declared.roles.Role.TheVariants.{Free, To, Old, From}
use Rattle.hm_moves.specs.Cycles.{is_free, is_from}
use Rattle.hm_moves.specs.Shifts.{joined_role, reused_role}

-- where calls leave the closure as it is and give what the change makes, so does each of a run
mapped : {F : Type 0} (g : Mut F (Role × Unit {0}) Role) (change : Role → Role) (f : F)
    → ((x y : Role) (q : F) → Called g f (x, tt) y q → (q ≡ f) × (y ≡ change x))
    → (xs ys : List Role) (i n : ℕ) → MapsFrom g f xs ys i n → (k : ℕ) → i ≤ k → k < i + n
    → get_or ys k Free ≡ change (get_or xs k Free)
mapped g change f step xs ys i zero m k low high = absurd (omega arith)
mapped g change f step xs ys i (suc n) (q, x, y, from, to, call, rest) k low high =
    let s = step x y q call in
    dite (ℕ_discrete i k)
    (λ (here : i ≡ k).
    ap (λ (j : ℕ). get_or ys j Free) (sym here) ∙ (to.1 Free ∙ (s.1
    ∙ ap change (sym (from.1 Free) ∙ ap (λ (j : ℕ). get_or xs j Free) here))))
    (λ (away : i ≢ k).
    let more = subst (λ (p : _). MapsFrom g p xs ys (i + 1) n) s.0 rest in
    mapped g change f step xs ys (i + 1) n more k (omega arith) (omega arith))

-- and the array is mapped
pub mapped_roles : {F : Type 0} (g : Mut F (Role × Unit {0}) Role) (change : Role → Role) (f : F)
    → ((x y : Role) (q : F) → Called g f (x, tt) y q → (q ≡ f) × (y ≡ change x))
    → (xs ys : List Role) (n : ℕ) → length xs ≡ n → IsMapOf g f xs ys n → ys ≡ map change xs
mapped_roles g change f step xs ys n long m =
    ext_get_or Free ys (map change xs) (m.long ∙ (sym long ∙ sym (length-map xs change)))
    (λ i low.
    mapped g change f step xs ys 0 n m.each i (omega arith) (omega (arith, m.long))
    ∙ sym (get_or-map change xs i Free Free (omega (arith, m.long, long))))

-- the place of the first that passes, or else the length
pub found_or_len : (roles : List Role) (n : ℕ) → length roles ≡ n
    → unwrap_or (position is_free roles) n ≡ position_or_len is_free roles
found_or_len roles n long = go (nat_lt (position_or_len is_free roles) (length roles)) refl
  where
    fits : (l : List Role) → position_or_len is_free l ≤ length l
    fits [] = omega arith
    fits (Free ∷ l) = omega arith
    fits (To ∷ l) = let h = fits l in omega (arith, h)
    fits (Old ∷ l) = let h = fits l in omega (arith, h)
    fits (From ∷ l) = let h = fits l in omega (arith, h)

    go : (t : Bool) → nat_lt (position_or_len is_free roles) (length roles) ≡ t
        → unwrap_or (if t then Some (position_or_len is_free roles) else None) n
        ≡ position_or_len is_free roles
    go true e = refl
    go false e =
        grind (arith, Rattle.std.proofs.lemmas.Bool.Decides.nat_tests, fits roles, long)

-- the first that is Free after a change is the first that is so by it
pub first_mapped : (change : Role → Role) (roles : List Role)
    → position_or_len is_free (map change roles)
    ≡ position_or_len (λ role. is_free (change role)) roles
first_mapped change [] = refl
first_mapped change (r ∷ roles) =
    ap (λ (n : ℕ). if not (is_free (change r)) then 1 + n else 0) (first_mapped change roles)

-- and as many are Free after it as by it
pub count_mapped : (change : Role → Role) (roles : List Role) (n : ℕ)
    → length (filter is_free (take n (map change roles)))
    ≡ length (filter (λ role. is_free (change role)) (take n roles))
count_mapped change [] zero = refl
count_mapped change [] (suc n) = refl
count_mapped change (r ∷ roles) zero = refl
count_mapped change (r ∷ roles) (suc n) = go (is_free (change r)) (count_mapped change roles n)
  where
    go : (b : Bool) → length (filter is_free (take n (map change roles)))
        ≡ length (filter (λ role. is_free (change role)) (take n roles))
        → length (if b then change r ∷ filter is_free (take n (map change roles))
        else filter is_free (take n (map change roles)))
        ≡ length (if b then r ∷ filter (λ role. is_free (change role)) (take n roles)
        else filter (λ role. is_free (change role)) (take n roles))
    go true e = ap suc e
    go false e = e

-- where one of the first regions passes, the first that passes is among them
pub first_below : (p : Role → Bool) (roles : List Role) (n : ℕ)
    → 0 < length (filter p (take n roles)) → position_or_len p roles < n
first_below p [] zero some = absurd (omega (arith, some))
first_below p [] (suc n) some = absurd (omega (arith, some))
first_below p (r ∷ roles) zero some = absurd (omega (arith, some))
first_below p (r ∷ roles) (suc n) some = go (p r) (first_below p roles n) some
  where
    go : (b : Bool) → (0 < length (filter p (take n roles)) → position_or_len p roles < n)
        → 0 < length (if b then r ∷ filter p (take n roles) else filter p (take n roles))
        → (if not b then 1 + position_or_len p roles else 0) < suc n
    go true behind some = omega arith
    go false behind some = let h = behind some in omega (arith, h)

-- a region that is taken is Free no more
pub one_taken : (roles : List Role) (n i : ℕ) → i < n → i < length roles
    → is_free (get_or roles i Free) ≡ true
    → length (filter is_free (take n (slice_set roles i To))) + 1
    ≡ length (filter is_free (take n roles))
one_taken [] n i low there free = absurd (omega (arith, there))
one_taken (r ∷ roles) zero i low there free = absurd (omega (arith, low))
one_taken (Free ∷ roles) (suc n) zero low there free = omega arith
one_taken (To ∷ roles) (suc n) zero low there free = absurd (cc)
one_taken (Old ∷ roles) (suc n) zero low there free = absurd (cc)
one_taken (From ∷ roles) (suc n) zero low there free = absurd (cc)
one_taken (Free ∷ roles) (suc n) (suc i) low there free =
    let h = one_taken roles n i (omega (arith, low)) (omega (arith, there)) free in omega (arith, h)
one_taken (To ∷ roles) (suc n) (suc i) low there free =
    one_taken roles n i (omega (arith, low)) (omega (arith, there)) free
one_taken (Old ∷ roles) (suc n) (suc i) low there free =
    one_taken roles n i (omega (arith, low)) (omega (arith, there)) free
one_taken (From ∷ roles) (suc n) (suc i) low there free =
    one_taken roles n i (omega (arith, low)) (omega (arith, there)) free

-- what a join frees was From, and its owner has seen enough cycles done
pub joined_frees : (frees : Bool) (r : Role) → is_free (joined_role frees r) ≡ true
    → is_free r ≡ false → (r ≡ From) × (frees ≡ true)
joined_frees frees Free free was = absurd (cc)
joined_frees frees To free was = absurd (cc)
joined_frees frees Old free was = absurd (cc)
joined_frees true From free was = (refl, refl)
joined_frees false From free was = absurd (cc)

-- what a reuse frees was From
pub reused_frees : (r : Role) → is_free (reused_role r) ≡ true → is_free r ≡ false → r ≡ From
reused_frees Free free was = absurd (cc)
reused_frees To free was = absurd (cc)
reused_frees Old free was = absurd (cc)
reused_frees From free was = refl

pub from_is : (r : Role) → is_from r ≡ true → r ≡ From
from_is Free is = absurd (cc)
from_is To is = absurd (cc)
from_is Old is = absurd (cc)
from_is From is = refl
