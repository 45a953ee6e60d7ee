-- The order of what is in hand, and what of it is released.
use Rattle.std.proofs.Common.{◌≡◌, ◌≢◌, ◌==◌, ◌<◌, ◌≤◌, ◌+◌, ◌⊎◌, ℕ, zero, suc, Bool, true, false, List, [], ◌∷◌, ◌++◌, length, get_or, drop, Option, Some, None, Contains, eq-eqb, eqb-true, refl, sym, ap, ◌∙◌, subst, arith, inl, inr, ⊎_elim, append-nil, append_assoc, if◌then◌else◌}
use Rattle.std.specs.Option.{option_or, option_to_list}
use Rattle.std.proofs.lemmas.List.{at_drop_more, length-append}
use Rattle.std.proofs.lemmas.List.Elements.{Contains-append_cases, Contains-append_left, Contains-append_right}
use Rattle.hm_shape.specs.declared.version.Version.{Version}
use Rattle.hm_cells.specs.Facts.{without_first}
use Rattle.hm_cells.proofs.Found.{same_version}
use Rattle.hm_ops.specs.Copying.{given, put_last, reordered}
use Rattle.hm_ops.specs.Bringing.{without_former}

-- of a version that came into the hand once more, the first that was there goes last
pub without_behind : (v : Version) (front rest : List Version)
    → without_first v (front ++ v ∷ rest) ≡ put_last v front ++ rest
without_behind v [] rest = rw (eq-eqb v.0 v.0 refl) refl
without_behind v (w ∷ ws) rest = decide (without_behind v ws rest) (v.0 == w.0) refl
  where
    decide : without_first v (ws ++ v ∷ rest) ≡ put_last v ws ++ rest → (b : Bool) → (v.0 == w.0) ≡ b
        → (if b then ws ++ v ∷ rest else w ∷ without_first v (ws ++ v ∷ rest))
        ≡ (if b then ws ++ w ∷ [] else w ∷ put_last v ws) ++ rest
    decide h true e = ap (λ (x : Version). ws ++ x ∷ rest) (same_version v w (eqb-true v.0 w.0 e))
        ∙ sym (append_assoc ws (w ∷ []) rest)
    decide h false e = ap (λ (l : List Version). w ∷ l) h

-- what comes next of those that are given
pub given_some : (vs : List (Option Version)) (i : ℕ) (v : Version) → i < length vs
    → get_or vs i None ≡ Some v → given (drop i vs) ≡ v ∷ given (drop (i + 1) vs)
given_some vs i v low e = at_drop_more given vs i None low
    ∙ ap (λ (o : Option Version). given (o ∷ drop (i + 1) vs)) e

pub given_none : (vs : List (Option Version)) (i : ℕ) → i < length vs
    → get_or vs i None ≡ None → given (drop i vs) ≡ given (drop (i + 1) vs)
given_none vs i low e = at_drop_more given vs i None low
    ∙ ap (λ (o : Option Version). given (o ∷ drop (i + 1) vs)) e

-- each that is in hand is there in another order
in_behind : (x v : Version) (l : List Version) → Contains l v → Contains (x ∷ l) v
in_behind x v l (i, low, is) = (suc i, omega (arith, low), is)

keeps_here : (x v : Version) (xs ys : List Version) (b : Bool) → (Contains xs v → Contains ys v)
    → Contains (x ∷ xs) v → Contains (if b then xs ++ x ∷ [] else x ∷ ys) v
keeps_here x v xs ys true h (zero, low, is) = Contains-append_right xs (x ∷ []) v (zero, omega arith, is)
keeps_here x v xs ys true h (suc i, low, is) = Contains-append_left xs (x ∷ []) v (i, omega arith, is)
keeps_here x v xs ys false h (zero, low, is) = (zero, omega arith, is)
keeps_here x v xs ys false h (suc i, low, is) = in_behind x v ys (h (i, omega arith, is))

keeps_last : (w v : Version) (l : List Version) → Contains l v → Contains (put_last w l) v
keeps_last w v [] c = c
keeps_last w v (x ∷ xs) c = keeps_here x v xs (put_last w xs) (w.0 == x.0) (keeps_last w v xs) c

pub reordered_keeps : (order l : List Version) (v : Version) → Contains l v → Contains (reordered order l) v
reordered_keeps [] l v c = c
reordered_keeps (w ∷ ws) l v c = reordered_keeps ws (put_last w l) v (keeps_last w v l c)

-- and no other is
held_here : (x v : Version) (xs ys : List Version) (b : Bool) → (Contains ys v → Contains xs v)
    → Contains (if b then xs ++ x ∷ [] else x ∷ ys) v → Contains (x ∷ xs) v
held_here x v xs ys true h c = ⊎_elim (λ (a : Contains xs v). in_behind x v xs a)
    (λ (a : Contains (x ∷ []) v). last a) (Contains-append_cases xs (x ∷ []) v c)
  where
    last : Contains (x ∷ []) v → Contains (x ∷ xs) v
    last (zero, low, is) = (zero, omega arith, is)
    last (suc i, low, is) = absurd (omega arith)
held_here x v xs ys false h (zero, low, is) = (zero, omega arith, is)
held_here x v xs ys false h (suc i, low, is) = in_behind x v xs (h (i, omega arith, is))

held_last : (w v : Version) (l : List Version) → Contains (put_last w l) v → Contains l v
held_last w v [] c = c
held_last w v (x ∷ xs) c = held_here x v xs (put_last w xs) (w.0 == x.0) (held_last w v xs) c

pub reordered_from : (order l : List Version) (v : Version) → Contains (reordered order l) v → Contains l v
reordered_from [] l v c = c
reordered_from (w ∷ ws) l v c = held_last w v l (reordered_from ws (put_last w l) v c)

-- their number stays
length_here : (x : Version) (xs ys : List Version) (b : Bool) → length ys ≡ length xs
    → length (if b then xs ++ x ∷ [] else x ∷ ys) ≡ length xs + 1
length_here x xs ys true h = length-append xs (x ∷ [])
length_here x xs ys false h = omega (arith, h)

length_last : (w : Version) (l : List Version) → length (put_last w l) ≡ length l
length_last w [] = refl
length_last w (x ∷ xs) =
    let h = length_here x xs (put_last w xs) (w.0 == x.0) (length_last w xs) in omega (arith, h)

pub reordered_length : (order l : List Version) → length (reordered order l) ≡ length l
reordered_length [] l = refl
reordered_length (w ∷ ws) l = reordered_length ws (put_last w l) ∙ length_last w l

-- what is left of a hand was there
left_here : (x v : Version) (xs ys : List Version) (b : Bool) → (Contains ys v → Contains xs v)
    → Contains (if b then xs else x ∷ ys) v → Contains (x ∷ xs) v
left_here x v xs ys true h c = in_behind x v xs c
left_here x v xs ys false h (zero, low, is) = (zero, omega arith, is)
left_here x v xs ys false h (suc i, low, is) = in_behind x v xs (h (i, omega arith, is))

left_first : (w v : Version) (l : List Version) → Contains (without_first w l) v → Contains l v
left_first w v [] c = c
left_first w v (x ∷ xs) c = left_here x v xs (without_first w xs) (w.0 == x.0) (left_first w v xs) c

pub left_former : (first second : Option Version) (l : List Version) (v : Version)
    → Contains (without_former first second l) v → Contains l v
left_former None second l v c = c
left_former (Some w) None l v c = c
left_former (Some w) (Some u) l v c = left_first w v l c

fewer_here : (x : Version) (xs ys : List Version) (b : Bool) → length ys ≤ length xs
    → length (if b then xs else x ∷ ys) ≤ length xs + 1
fewer_here x xs ys true h = omega arith
fewer_here x xs ys false h = omega (arith, h)

fewer_first : (w : Version) (l : List Version) → length (without_first w l) ≤ length l
fewer_first w [] = omega arith
fewer_first w (x ∷ xs) =
    let h = fewer_here x xs (without_first w xs) (w.0 == x.0) (fewer_first w xs) in omega (arith, h)

pub fewer_former : (first second : Option Version) (l : List Version)
    → length (without_former first second l) ≤ length l
fewer_former None second l = omega arith
fewer_former (Some w) None l = omega arith
fewer_former (Some w) (Some u) l = fewer_first w l

-- none, or one, has one order
pub reordered_none : (order : List Version) → reordered order [] ≡ []
reordered_none [] = refl
reordered_none (w ∷ ws) = reordered_none ws

reordered_one : (order : List Version) (a : Version) → reordered order (a ∷ []) ≡ a ∷ []
reordered_one [] a = refl
reordered_one (w ∷ ws) a = ap (reordered ws) (decide (w.0 == a.0)) ∙ reordered_one ws a
  where
    decide : (b : Bool) → (if b then a ∷ [] else a ∷ []) ≡ a ∷ []
    decide true = refl
    decide false = refl

-- two have two orders
abbrev IsEither : List Version → Version → Version → Type 0
IsEither l a b = (l ≡ a ∷ b ∷ []) ⊎ (l ≡ b ∷ a ∷ [])

either_swaps : (l : List Version) (a b : Version) → IsEither l b a → IsEither l a b
either_swaps l a b (inl e) = inr e
either_swaps l a b (inr e) = inl e

either_next : (ws : List Version) (a b : Version) (x y : Bool) → IsEither (reordered ws (a ∷ b ∷ [])) a b
    → IsEither (reordered ws (b ∷ a ∷ [])) b a
    → IsEither (reordered ws (if x then b ∷ a ∷ [] else a ∷ (if y then b ∷ [] else b ∷ []))) a b
either_next ws a b true y same other = either_swaps (reordered ws (b ∷ a ∷ [])) a b other
either_next ws a b false true same other = same
either_next ws a b false false same other = same

reordered_two : (order : List Version) (a b : Version) → IsEither (reordered order (a ∷ b ∷ [])) a b
reordered_two [] a b = inl refl
reordered_two (w ∷ ws) a b =
    either_next ws a b (w.0 == a.0) (w.0 == b.0) (reordered_two ws a b) (reordered_two ws b a)

-- of two finds the first leaves a hand in which one more may be, in either order
without_one : (order : List Version) (former next : Version)
    → without_first former (reordered order (former ∷ []) ++ next ∷ []) ≡ next ∷ []
without_one order former next =
    ap (λ (l : List Version). without_first former (l ++ next ∷ [])) (reordered_one order former)
    ∙ rw (eq-eqb former.0 former.0 refl) refl

without_two : (order : List Version) (a former next : Version)
    → without_first former (reordered order (a ∷ former ∷ []) ++ next ∷ []) ≡ a ∷ next ∷ []
without_two order a former next = go (reordered_two order a former)
  where
    here : without_first former (former ∷ a ∷ next ∷ []) ≡ a ∷ next ∷ []
    here = rw (eq-eqb former.0 former.0 refl) refl

    behind : (b : Bool) → (former.0 == a.0) ≡ b
        → (if b then former ∷ next ∷ [] else a ∷ without_first former (former ∷ next ∷ [])) ≡ a ∷ next ∷ []
    behind true e = ap (λ (v : Version). v ∷ next ∷ []) (same_version former a (eqb-true former.0 a.0 e))
    behind false e = ap (λ (l : List Version). a ∷ l) (rw (eq-eqb former.0 former.0 refl) refl)

    go : (reordered order (a ∷ former ∷ []) ≡ a ∷ former ∷ []) ⊎ (reordered order (a ∷ former ∷ []) ≡ former ∷ a ∷ [])
        → without_first former (reordered order (a ∷ former ∷ []) ++ next ∷ []) ≡ a ∷ next ∷ []
    go (inl e) = ap (λ (l : List Version). without_first former (l ++ next ∷ [])) e ∙ behind (former.0 == a.0) refl
    go (inr e) = ap (λ (l : List Version). without_first former (l ++ next ∷ [])) e ∙ here

-- so the last of them is in hand, behind what was there
pub last_hand : (order hand : List Version) (first second : Option Version) → length hand ≤ 1
    → (second ≡ None → order ≡ [])
    → without_former first second (reordered order (hand ++ option_to_list first) ++ option_to_list second)
    ≡ hand ++ option_to_list (option_or second first)
last_hand order hand first None few none =
    ap (λ (l : List Version). without_former first None (reordered l (hand ++ option_to_list first) ++ []))
    (none refl) ∙ go first
  where
    go : (f : Option Version) → without_former f None ((hand ++ option_to_list f) ++ []) ≡ hand ++ option_to_list f
    go None = append-nil (hand ++ [])
    go (Some v) = append-nil (hand ++ v ∷ [])
last_hand order [] None (Some w) few none =
    ap (λ (l : List Version). l ++ w ∷ []) (reordered_none order)
last_hand order (a ∷ []) None (Some w) few none =
    ap (λ (l : List Version). l ++ w ∷ []) (reordered_one order a)
last_hand order (a ∷ b ∷ l) None (Some w) few none = absurd (omega arith)
last_hand order [] (Some v) (Some w) few none = without_one order v w
last_hand order (a ∷ []) (Some v) (Some w) few none = without_two order a v w
last_hand order (a ∷ b ∷ l) (Some v) (Some w) few none = absurd (omega arith)
