-- Roles of a caller's regions before a turn and after it.
use Rattle.std.proofs.Common.{◌≡◌, ◌≢◌, ◌<◌, ◌≤◌, ◌+◌, ℕ, zero, suc, Bool, true, false, nat_lt, List, [], ◌∷◌, length, map, filter, take, get_or, slice_set, Some, None, unwrap_or, if◌then◌else◌, refl, sym, ap, ◌∙◌, subst, arith}
use Rattle.std.proofs.Common.{ext_get_or}
use Rattle.std.proofs.Math.Logic.{dite}
use Rattle.std.proofs.Math.Decide.{ℕ_discrete}
use Rattle.std.specs.Array.{IsMapOf, MapsFrom}
use Rattle.std.specs.Fn.{Called}
use Rattle.std.specs.List.{position, position_or_len}
use Rattle.std.proofs.lemmas.List.{get_or-map, length-map}
use denote.Param.Members.{Mut}
use Rattle.hm_shape.specs.declared.roles.Role.{Role}
use Rattle.hm_shape.specs.declared.roles.Role.TheVariants.{Free, To, Old, From}
use Rattle.hm_moves.specs.Cycles.{is_free}
use Rattle.hm_moves.specs.Shifts.{turned_role}

-- where calls leave the closure as it is and give what the change makes, so does each of a run
mapped : {F : Type 0} (g : Mut F (Role × Unit {0}) Role) (change : Role → Role) (f : F)
    → ((x y : Role) (q : F) → Called g f (x, tt) y q → (q ≡ f) × (y ≡ change x))
    → (xs ys : List Role) (i n : ℕ) → MapsFrom g f xs ys i n → (k : ℕ) → i ≤ k → k < i + n
    → get_or ys k Free ≡ change (get_or xs k Free)
mapped g change f step xs ys i zero m k low high = absurd (omega arith)
mapped g change f step xs ys i (suc n) (q, x, y, from, to, call, rest) k low high =
    let s = step x y q call in
    dite (ℕ_discrete i k)
    (λ (here : i ≡ k).
    ap (λ (j : ℕ). get_or ys j Free) (sym here) ∙ (to.1 Free ∙ (s.1
    ∙ ap change (sym (from.1 Free) ∙ ap (λ (j : ℕ). get_or xs j Free) here))))
    (λ (away : i ≢ k).
    let more = subst (λ (p : _). MapsFrom g p xs ys (i + 1) n) s.0 rest in
    mapped g change f step xs ys (i + 1) n more k (omega arith) (omega arith))

-- and the array is mapped
pub mapped_roles : {F : Type 0} (g : Mut F (Role × Unit {0}) Role) (change : Role → Role) (f : F)
    → ((x y : Role) (q : F) → Called g f (x, tt) y q → (q ≡ f) × (y ≡ change x))
    → (xs ys : List Role) (n : ℕ) → length xs ≡ n → IsMapOf g f xs ys n → ys ≡ map change xs
mapped_roles g change f step xs ys n long m =
    ext_get_or Free ys (map change xs) (m.long ∙ (sym long ∙ sym (length-map xs change)))
    (λ i low.
    mapped g change f step xs ys 0 n m.each i (omega arith) (omega (arith, m.long))
    ∙ sym (get_or-map change xs i Free Free (omega (arith, m.long, long))))

-- the place of the first that passes, or else the length
pub found_or_len : (roles : List Role) (n : ℕ) → length roles ≡ n
    → unwrap_or (position is_free roles) n ≡ position_or_len is_free roles
found_or_len roles n long = go (nat_lt (position_or_len is_free roles) (length roles)) refl
  where
    fits : (l : List Role) → position_or_len is_free l ≤ length l
    fits [] = omega arith
    fits (Free ∷ l) = omega arith
    fits (To ∷ l) = let h = fits l in omega (arith, h)
    fits (Old ∷ l) = let h = fits l in omega (arith, h)
    fits (From ∷ l) = let h = fits l in omega (arith, h)

    go : (t : Bool) → nat_lt (position_or_len is_free roles) (length roles) ≡ t
        → unwrap_or (if t then Some (position_or_len is_free roles) else None) n
        ≡ position_or_len is_free roles
    go true e = refl
    go false e =
        grind (arith, Rattle.std.proofs.lemmas.Bool.Decides.nat_tests, fits roles, long)

-- where one of the first regions is Free, the first Free one is among them
pub first_below : (roles : List Role) (n : ℕ) → 0 < length (filter is_free (take n roles))
    → position_or_len is_free roles < n
first_below [] zero some = absurd (omega (arith, some))
first_below [] (suc n) some = absurd (omega (arith, some))
first_below (r ∷ roles) zero some = absurd (omega (arith, some))
first_below (Free ∷ roles) (suc n) some = omega arith
first_below (To ∷ roles) (suc n) some = let h = first_below roles n some in omega (arith, h)
first_below (Old ∷ roles) (suc n) some = let h = first_below roles n some in omega (arith, h)
first_below (From ∷ roles) (suc n) some = let h = first_below roles n some in omega (arith, h)

-- a turn leaves as many Free, but for the region that it takes
frees_stay : (roles : List Role) (n : ℕ)
    → length (filter is_free (take n (map turned_role roles))) ≡ length (filter is_free (take n roles))
frees_stay [] zero = refl
frees_stay [] (suc n) = refl
frees_stay (r ∷ roles) zero = refl
frees_stay (Free ∷ roles) (suc n) = ap suc (frees_stay roles n)
frees_stay (To ∷ roles) (suc n) = frees_stay roles n
frees_stay (Old ∷ roles) (suc n) = frees_stay roles n
frees_stay (From ∷ roles) (suc n) = frees_stay roles n

pub one_taken : (roles : List Role) (n i : ℕ) → i < n → i < length roles
    → is_free (get_or roles i Free) ≡ true
    → length (filter is_free (take n (slice_set (map turned_role roles) i To))) + 1
    ≡ length (filter is_free (take n roles))
one_taken [] n i low there free = absurd (omega (arith, there))
one_taken (r ∷ roles) zero i low there free = absurd (omega (arith, low))
one_taken (Free ∷ roles) (suc n) zero low there free =
    let h = frees_stay roles n in omega (arith, h)
one_taken (To ∷ roles) (suc n) zero low there free = absurd (cc)
one_taken (Old ∷ roles) (suc n) zero low there free = absurd (cc)
one_taken (From ∷ roles) (suc n) zero low there free = absurd (cc)
one_taken (Free ∷ roles) (suc n) (suc i) low there free =
    let h = one_taken roles n i (omega (arith, low)) (omega (arith, there)) free in omega (arith, h)
one_taken (To ∷ roles) (suc n) (suc i) low there free =
    one_taken roles n i (omega (arith, low)) (omega (arith, there)) free
one_taken (Old ∷ roles) (suc n) (suc i) low there free =
    one_taken roles n i (omega (arith, low)) (omega (arith, there)) free
one_taken (From ∷ roles) (suc n) (suc i) low there free =
    one_taken roles n i (omega (arith, low)) (omega (arith, there)) free
