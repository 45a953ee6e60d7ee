-- Arrays of roles: mapped by a closure, and read for the first that is To.
use Rattle.std.proofs.Common.{◌≡◌, ◌≢◌, ◌<◌, ◌≤◌, ◌+◌, ℕ, zero, suc, Bool, true, false, List, length, map, cond, drop, get_or, sym, ap, ◌∙◌, subst, arith}
use Rattle.std.proofs.lemmas.List.{at_drop_more}
use Rattle.std.specs.Array.{IsMapOf, MapsFrom}
use Rattle.std.specs.Fn.{Called}
use denote.Param.Members.{Mut}
use Rattle.hm_core.proofs.Words.{dite, ext_get_or, get_or-map, length-map, ℕ_discrete}
use Rattle.hm_shape.specs.declared.roles.Role.{Role}
use Rattle.hm_shape.specs.declared.roles.Role.TheVariants.{Free}
use Rattle.hm_core.specs.Stepping.{first_to, is_to}

-- where calls leave the closure as it is and give what the change makes, so does each of a run
mapped : {F : Type 0} (g : Mut F (Role × Unit {0}) Role) (change : Role → Role) (f : F)
    → ((x y : Role) (q : F) → Called g f (x, tt) y q → (q ≡ f) × (y ≡ change x))
    → (xs ys : List Role) (i n : ℕ) → MapsFrom g f xs ys i n → (k : ℕ) → i ≤ k → k < i + n
    → get_or ys k Free ≡ change (get_or xs k Free)
mapped g change f step xs ys i zero m k low high = absurd (omega arith)
mapped g change f step xs ys i (suc n) (q, x, y, from, to, call, rest) k low high =
    let s = step x y q call in
    dite (ℕ_discrete i k)
    (λ (here : i ≡ k).
    ap (λ (j : ℕ). get_or ys j Free) (sym here) ∙ (to.1 Free ∙ (s.1
    ∙ ap change (sym (from.1 Free) ∙ ap (λ (j : ℕ). get_or xs j Free) here))))
    (λ (away : i ≢ k).
    let more = subst (λ (p : _). MapsFrom g p xs ys (i + 1) n) s.0 rest in
    mapped g change f step xs ys (i + 1) n more k (omega arith) (omega arith))

-- and the array is mapped
pub mapped_roles : {F : Type 0} (g : Mut F (Role × Unit {0}) Role) (change : Role → Role) (f : F)
    → ((x y : Role) (q : F) → Called g f (x, tt) y q → (q ≡ f) × (y ≡ change x))
    → (xs ys : List Role) (n : ℕ) → length xs ≡ n → IsMapOf g f xs ys n → ys ≡ map change xs
mapped_roles g change f step xs ys n long m =
    ext_get_or Free ys (map change xs) (m.long ∙ (sym long ∙ sym (length-map xs change)))
    (λ i low.
    mapped g change f step xs ys 0 n m.each i (omega arith) (omega (arith, m.long))
    ∙ sym (get_or-map change xs i Free Free (omega (arith, m.long, long))))

-- from a region on that is To, the first that is To is itself
pub first_to_here : (roles : List Role) (i : ℕ) → i < length roles
    → is_to (get_or roles i Free) ≡ true → first_to (drop i roles) ≡ 0
first_to_here roles i low here =
    at_drop_more first_to roles i Free low
    ∙ ap (λ (t : Bool). cond t 0 (first_to (drop (i + 1) roles) + 1)) here

-- and from one on that is not, the first behind it
pub first_to_behind : (roles : List Role) (i : ℕ) → i < length roles
    → is_to (get_or roles i Free) ≡ false
    → first_to (drop i roles) ≡ first_to (drop (i + 1) roles) + 1
first_to_behind roles i low other =
    at_drop_more first_to roles i Free low
    ∙ ap (λ (t : Bool). cond t 0 (first_to (drop (i + 1) roles) + 1)) other
