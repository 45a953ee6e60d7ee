use Rattle.std.proofs.Common.{◌≡◌, ◌<◌, ◌+◌, ℕ, Bool, true, false, nat_lt, List, [], ◌∷◌, length, Option, Some, None, unwrap_or, if◌then◌else◌, refl, ap, ◌∙◌, arith, rules, tests}
use Rattle.std.specs.List.{position, position_or_len}
use Rattle.std.proofs.lemmas.Iterator.{YieldsList-from_slice}
use Rattle.std.proofs.lemmas.Iterator.Search.{position_from_yields_List}
use Rattle.std.proofs.lemmas.Bool.Decides.{nat_tests}
use Rattle.hm_shape.specs.declared.roles.Role.{Role}
use Rattle.hm_shape.specs.declared.roles.Role.TheVariants.{Free, To, Old, From}
use Rattle.hm_cells.specs.Owns.{first_to}
use Rattle.hm_cells.proofs.own.region_of_to.Goals as goal

abbrev is_to : Role → Bool
is_to Free = false
is_to To = true
is_to Old = false
is_to From = false

-- the first region that is To is the first one at which the test holds
first_is : (roles : List Role) → position_or_len is_to roles ≡ first_to roles
first_is [] = refl
first_is (Free ∷ roles) = let h = first_is roles in omega (arith, h)
first_is (To ∷ roles) = refl
first_is (Old ∷ roles) = let h = first_is roles in omega (arith, h)
first_is (From ∷ roles) = let h = first_is roles in omega (arith, h)

first_fits : (roles : List Role) → first_to roles < length roles + 1
first_fits [] = omega arith
first_fits (Free ∷ roles) = let h = first_fits roles in omega (arith, h)
first_fits (To ∷ roles) = omega arith
first_fits (Old ∷ roles) = let h = first_fits roles in omega (arith, h)
first_fits (From ∷ roles) = let h = first_fits roles in omega (arith, h)

found_is : (roles : List Role) → length roles ≡ 8
    → unwrap_or (position is_to roles) 8 ≡ first_to roles
found_is roles wide = go (nat_lt (position_or_len is_to roles) (length roles)) refl
  where
    fits : first_to roles < length roles + 1
    fits = first_fits roles

    is : position_or_len is_to roles ≡ first_to roles
    is = first_is roles

    go : (t : Bool) → nat_lt (position_or_len is_to roles) (length roles) ≡ t
        → unwrap_or (if t then Some (position_or_len is_to roles) else None) 8 ≡ first_to roles
    go true e = is
    go false e = grind (arith, nat_tests, is, fits, wide)

pub returns : goal.returns
returns c =
    let at = position_from_yields_List is_to _ _ _ c.position-at.ensures.ran
    (YieldsList-from_slice c.args.roles.now.0 cc) (λ x b q k. search (rules, tests)) in
    c.unwrap_or.ensures ∙ (ap (λ (o : Option ℕ). unwrap_or o 8) at ∙ found_is c.args.roles.now.0 cc)
