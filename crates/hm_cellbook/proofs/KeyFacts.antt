-- Keys in their order.
use Rattle.std.proofs.Common.{◌≡◌, ◌⊎◌, inl, inr, Bool, true, false, refl, arith}
use Rattle.hm_list.specs.declared.key.Key.{Key}
use Rattle.hm_list.specs.Pairs.{is_less, is_same}
use Rattle.hm_list.proofs.OrderFacts.{greater}

-- a key is less than another, the same, or greater
pub cases_key : (x y : Key) → (is_less x y ≡ true) ⊎ ((is_same x y ≡ true) ⊎ (is_less y x ≡ true))
cases_key x y = go (is_less x y) (is_same x y) refl refl
  where
    go : (less same : Bool) → is_less x y ≡ less → is_same x y ≡ same
        → (is_less x y ≡ true) ⊎ ((is_same x y ≡ true) ⊎ (is_less y x ≡ true))
    go true same l e = inl l
    go false true l e = inr (inl e)
    go false false l e = inr (inr (greater x y l e))

-- a key is the same as itself
pub same_itself : (x : Key) → is_same x x ≡ true
same_itself x = grind arith

-- what is the same the other way round
pub same_back : (x y : Key) (b : Bool) → is_same x y ≡ b → is_same y x ≡ b
same_back x y true h = grind (arith, h)
same_back x y false h = grind (arith, h)

-- the same as the same
pub same_then : (x y z : Key) → is_same x y ≡ true → is_same y z ≡ true → is_same x z ≡ true
same_then x y z h k = grind (arith, h, k)

-- the same key is not less
pub same_not_less : (x y : Key) → is_same x y ≡ true → is_less x y ≡ false
same_not_less x y h = grind (arith, h)

-- a greater key is not less
pub greater_not_less : (x y : Key) → is_less y x ≡ true → is_less x y ≡ false
greater_not_less x y h = grind (arith, h)

-- nor the same
pub greater_not_same : (x y : Key) → is_less y x ≡ true → is_same x y ≡ false
greater_not_same x y h = grind (arith, h)

-- a lesser one neither
pub less_not_same : (x y : Key) → is_less x y ≡ true → is_same x y ≡ false
less_not_same x y h = grind (arith, h)

-- what is the same as a lesser key is less
pub same_less : (x y z : Key) → is_same x y ≡ true → is_less y z ≡ true → is_less x z ≡ true
same_less x y z h k = grind (arith, h, k)

-- what is less than a key is less than the same one
pub less_same_as : (x y z : Key) → is_less x y ≡ true → is_same y z ≡ true → is_less x z ≡ true
less_same_as x y z h k = grind (arith, h, k)
