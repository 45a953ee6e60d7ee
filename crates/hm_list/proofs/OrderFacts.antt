-- Pairs stay in order.
use Rattle.std.proofs.Common.{◌≡◌, Bool, true, false, List, [], ◌∷◌, if◌then◌else◌, refl, arith}
use Rattle.hm_list.specs.declared.key.Key.{Key}
use Rattle.hm_list.specs.declared.key.Pair.{Pair}
use Rattle.hm_list.specs.Pairs.{is_less, is_same, IsBefore, AreInOrder, insert, delete}

-- of three keys, the first is less than the third where each is less than the next
pub less_then : (x y z : Key) → is_less x y ≡ true → is_less y z ≡ true → is_less x z ≡ true
less_then x y z h k = grind arith

-- a key that is not less, and not the same, is greater
pub greater : (x y : Key) → is_less x y ≡ false → is_same x y ≡ false → is_less y x ≡ true
greater x y h k = grind arith

-- what is less than a key is less than one that is the same
pub less_same : (x y z : Key) → is_same x y ≡ true → is_less x z ≡ true → is_less y z ≡ true
less_same x y z h k = grind arith

-- a lesser key comes before what a key comes before
pub before_less : (x y : Key) (ps : List Pair) → is_less x y ≡ true → IsBefore y ps → IsBefore x ps
before_less x y [] h k = tt
before_less x y (p ∷ ps) h k = (less_then x y p.key h k.0, before_less x y ps h k.1)

-- so does the same key
pub before_same : (x y : Key) (ps : List Pair) → is_same x y ≡ true → IsBefore x ps → IsBefore y ps
before_same x y [] h k = tt
before_same x y (p ∷ ps) h k = (less_same x y p.key h k.0, before_same x y ps h k.1)

-- a key comes before what is inserted after it
before_insert : (k : Key) (q : Pair) (ps : List Pair) → is_less k q.key ≡ true → IsBefore k ps → IsBefore k (insert q ps)
before_insert k q [] h b = (h, tt)
before_insert k q (p ∷ ps) h b = go (is_less p.key q.key) (is_same p.key q.key) (before_insert k q ps h b.1)
  where
    go : (less same : Bool) → IsBefore k (insert q ps)
        → IsBefore k (if less then p ∷ insert q ps else (if same then q ∷ ps else q ∷ p ∷ ps))
    go true same rest = (b.0, rest)
    go false true rest = (h, b.1)
    go false false rest = (h, b)

before_delete : (k d : Key) (ps : List Pair) → IsBefore k ps → IsBefore k (delete d ps)
before_delete k d [] b = tt
before_delete k d (p ∷ ps) b = go (is_less p.key d) (is_same p.key d) (before_delete k d ps b.1)
  where
    go : (less same : Bool) → IsBefore k (delete d ps)
        → IsBefore k (if less then p ∷ delete d ps else (if same then ps else p ∷ ps))
    go true same rest = (b.0, rest)
    go false true rest = b.1
    go false false rest = b

-- pairs in order stay so with one more
pub insert_in_order : (q : Pair) (ps : List Pair) → AreInOrder ps → AreInOrder (insert q ps)
insert_in_order q [] h = (tt, tt)
insert_in_order q (p ∷ ps) h =
    go (is_less p.key q.key) (is_same p.key q.key) refl refl (insert_in_order q ps h.1)
  where
    go : (less same : Bool) → is_less p.key q.key ≡ less → is_same p.key q.key ≡ same → AreInOrder (insert q ps)
        → AreInOrder (if less then p ∷ insert q ps else (if same then q ∷ ps else q ∷ p ∷ ps))
    go true same l e rest = (before_insert p.key q ps l h.0, rest)
    go false true l e rest = (before_same p.key q.key ps e h.0, h.1)
    go false false l e rest =
        let more = greater p.key q.key l e in ((more, before_less q.key p.key ps more h.0), h)

-- and with one less
pub delete_in_order : (k : Key) (ps : List Pair) → AreInOrder ps → AreInOrder (delete k ps)
delete_in_order k [] h = tt
delete_in_order k (p ∷ ps) h = go (is_less p.key k) (is_same p.key k) (delete_in_order k ps h.1)
  where
    go : (less same : Bool) → AreInOrder (delete k ps)
        → AreInOrder (if less then p ∷ delete k ps else (if same then ps else p ∷ ps))
    go true same rest = (before_delete p.key k ps h.0, rest)
    go false true rest = h.1
    go false false rest = h
