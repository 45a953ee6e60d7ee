-- The versions of a fresh machine.
use Rattle.std.proofs.Common.{◌≡◌, ◌≢◌, ◌<◌, ◌≤◌, ◌+◌, ◌*◌, ℕ, zero, suc, false, cond, is_some, eq-eqb, ne_eqb, List, [], ◌∷◌, ◌++◌, map, length, replicate, All, Option, Some, None, IfSome, Contains, refl, sym, ap, ◌∙◌, subst, arith, append-nil, append_assoc, IsSome}
use Rattle.hm_moves.proofs.Words.{length-append, map-append, common_steps, slice_get, mul-lt, get_or_from_slice_get, slice_get_past, slice_get_within, slice_get-get_or, All-head, All-tail, Shape, Name, Contents, Start, Entry, Create, Numbers, IsSized, PlainStore, contents_of}
use Rattle.hm_moves.proofs.Words.{new_contents, effect_of, store_after, store_of, common_name, opening_of, side_count, side_entries, side_names, starting_count, starting_name, IsSizedStart, is_same-self, is_same-other, there_contents, store_after-append, Known, IsPublished, AreChained, IsLinked}
use Rattle.hm_moves.proofs.Words.{link_of, ArePlaced, row_count, total, AreRanked, starting_known, side_known, common_known, all_known, fresh_index, fresh_used, fresh_places}
use Rattle.std.proofs.lemmas.List.Sums.{sum_by-cons}
use Rattle.hm_moves.proofs.Placed.{versions_some, published_once, place_small}

-- versions are numbered from k on, each the first of its object
pub record IsNumbered (k : ℕ) (m : Known) : Type 0 where
  pub is : m ≡ starting_known k m.contents
  pub stamp : m.contents.stamp ≡ 0
  pub sized : IsSized m.contents.refs m.contents.numbers

abbrev pub AreNumbered : ℕ → List Known → Type 0
AreNumbered k [] = Unit {0}
AreNumbered k (m ∷ ms) = IsNumbered k m × AreNumbered (k + 1) ms

-- what the store has of them
abbrev stored : List Known → PlainStore
stored ms = map (λ m. (m.name, m.contents)) ms

numbered_append : (k : ℕ) (xs ys : List Known) → AreNumbered k xs → AreNumbered (k + length xs) ys
    → AreNumbered k (xs ++ ys)
numbered_append k [] ys h e = subst (λ (i : ℕ). AreNumbered i ys) (omega arith) e
numbered_append k (x ∷ xs) ys h e = (h.0, numbered_append (k + 1) xs ys h.1 (grind arith))

pub numbered_at : (k : ℕ) (ms : List Known) (i : ℕ) (m : Known) → AreNumbered k ms → slice_get ms i
    ≡ Some m
    → IsNumbered (k + i) m
numbered_at k [] i m h e = absurd (cc)
numbered_at k (x ∷ xs) zero m h e = grind arith
numbered_at k (x ∷ xs) (suc i) m h e = grind (arith, numbered_at (k + 1) xs i m h.1 e)

-- the store has each under its name
stored_at : (k : ℕ) (ms : List Known) (i : ℕ) (m : Known) → AreNumbered k ms → slice_get ms i
    ≡ Some m
    → contents_of (stored ms) m.name ≡ Some m.contents
stored_at k [] i m h e = absurd (cc)
stored_at k (x ∷ xs) zero m h e = let same = is_same-self x.name in grind (arith, common_steps)
stored_at k (x ∷ xs) (suc i) m h e =
    let this = numbered_at (k + 1) xs i m h.1 e in
    let first = ap (λ (z : Known). z.name.count) h.0.is in
    let second = ap (λ (z : Known). z.name.count) this.is in
    rw (is_same-other x.name m.name (λ z. let same = ap (λ (n : Name). n.count) z in omega arith))
    (stored_at (k + 1) xs i m h.1 e)

-- a side object that is given has ten numbers
abbrev HasTen : Option Numbers → Type 0
HasTen side = IfSome side (λ numbers. length numbers ≡ 10)

sides_numbered : (k : ℕ) (sides : List (Option Numbers)) → All HasTen sides
    → AreNumbered k (side_known k sides)
sides_numbered k [] h = tt
sides_numbered k (None ∷ sides) h = sides_numbered k sides (All-tail HasTen None sides h)
sides_numbered k (Some numbers ∷ sides) h = (
  record {
    is = refl;
    stamp = refl;
    sized = record { four = refl; ten = All-head HasTen (Some numbers) sides h };
  },
  sides_numbered (k + 1) sides (All-tail HasTen (Some numbers) sides h),
)

side_count-some : (numbers : Numbers) (sides : List (Option Numbers))
    → side_count (Some numbers ∷ sides) ≡ 1 + side_count sides
side_count-some numbers sides =
    sum_by-cons (λ (side : Option (List ℕ)). cond (is_some side) 1 0) (Some numbers) sides

pub sides_length : (k : ℕ) (sides : List (Option Numbers)) → length (side_known k sides)
    ≡ side_count sides
sides_length k [] = refl
sides_length k (None ∷ sides) = sides_length k sides
sides_length k (Some numbers ∷ sides) =
    let one = side_count-some numbers sides in let rest = sides_length (k + 1) sides in omega arith

pub names_length : (k : ℕ) (sides : List (Option Numbers)) → length (side_names k sides)
    ≡ length sides
names_length k [] = refl
names_length k (None ∷ sides) = ap suc (names_length k sides)
names_length k (Some numbers ∷ sides) = ap suc (names_length (k + 1) sides)

sides_stored : (s : PlainStore) (k : ℕ) (sides : List (Option Numbers))
    → store_after s (side_entries k sides) ≡ s ++ stored (side_known k sides)
sides_stored s k [] = sym (append-nil s)
sides_stored s k (None ∷ sides) = sides_stored s k sides
sides_stored s k (Some numbers ∷ sides) =
    let p : Name × Contents = (starting_name k, new_contents (replicate 4 None) numbers) in
    sides_stored (s ++ p ∷ []) (k + 1) sides ∙ append_assoc s (p ∷ [])
    (stored (side_known (k + 1) sides))

slice_get_some : (xs : List Known) (i : ℕ) → i < length xs → IsSome (slice_get xs i)
slice_get_some [] i low = absurd (omega arith)
slice_get_some (x ∷ xs) zero low = refl
slice_get_some (x ∷ xs) (suc i) low = slice_get_some xs i (omega arith)

pub slice_get_contains : (xs : List Known) (i : ℕ) (m : Known) → slice_get xs i ≡ Some m
    → Contains xs m
slice_get_contains xs i m h = (i, slice_get_within xs i m h, get_or_from_slice_get xs i m m h)

get_last : (xs : List Known) (m : Known) → slice_get (xs ++ m ∷ []) (length xs) ≡ Some m
get_last [] m = refl
get_last (x ∷ xs) m = get_last xs m

module _ (start : Start) (sized : IsSizedStart start) where
  pub numbered : AreNumbered 0 (all_known start)
  numbered = numbered_append 0 (side_known 0 start.sides) (common_known start ∷ [])
      (sides_numbered 0 start.sides sized.sides) (
        record {
          is = ap (λ (i : ℕ). starting_known i (common_known start).contents)
              (sym (let e = sides_length 0 start.sides in omega arith));
          stamp = refl;
          sized = record { four = names_length 0 start.sides ∙ sized.four; ten = sized.numbers };
        },
        tt,
      )

  pub many : length (all_known start) ≡ starting_count start
  many =
      let a = length-append (side_known 0 start.sides) (common_known start ∷ []) in
      let b = sides_length 0 start.sides in omega arith

  -- the store has just these
  store_is : store_of (opening_of start) ≡ stored (all_known start)
  store_is =
      let e : Entry = Create 0 (common_name start) (side_names 0 start.sides) start.numbers in
      store_after-append [] (side_entries 0 start.sides) (e ∷ [])
      ∙ (ap (λ (s : PlainStore). effect_of s e) (sides_stored [] 0 start.sides)
      ∙ sym (map-append (λ (m : Known). (m.name, m.contents)) (side_known 0 start.sides)
      (common_known start ∷ [])))

  pub known_at : (k : Known) → IsPublished (fresh_index start) k → IsNumbered k.version.0 k
  known_at k there = grind (arith, numbered_at 0 (all_known start) k.version.0 k numbered there)

  pub present : (k : Known) → IsPublished (fresh_index start) k
      → contents_of (store_of (opening_of start)) k.name ≡ Some k.contents
  present k there = ap (λ (s : PlainStore). contents_of s k.name) store_is
      ∙ stored_at 0 (all_known start) k.version.0 k numbered there

  pub common_published : IsPublished (fresh_index start) (common_known start)
  common_published =
      ap (slice_get (all_known start)) (sym (sides_length 0 start.sides))
      ∙ get_last (side_known 0 start.sides) (common_known start)

  pub listed_published : (k : Known) → Contains (all_known start) k
      → IsPublished (fresh_index start) k
  listed_published k there =
      let here : slice_get (all_known start) there.0 ≡ Some k =
      slice_get-get_or (all_known start) there.0 k there.1 ∙ ap (λ (z : Known). Some z) there.2 in
      let at = (numbered_at 0 (all_known start) there.0 k numbered here).is in
      let number : k.version.0 ≡ there.0 = ap (λ (z : Known). z.version.0) at ∙ omega arith in
      ap (slice_get (all_known start)) number ∙ here

  -- the first row has all versions, and any other none
  pub used_first : (row : ℕ) → row ≡ 0 → fresh_used start row ≡ starting_count start
  used_first row e = rw (eq-eqb row 0 e) refl

  pub used_other : (row : ℕ) → row ≢ 0 → fresh_used start row ≡ 0
  used_other row ne = rw (ne_eqb row 0 ne) refl

  total_some : (n : ℕ) → 0 < n → 0 < total (fresh_used start) n
  total_some zero h = absurd (omega arith)
  total_some (suc n) h = grind (arith, used_first n, total_some n)

  -- each stands at its number
  numbered_there : (v : ℕ) (k : Known) → fresh_index start v ≡ Some k → k.version.0 ≡ v
  numbered_there v k is = ap (λ (z : Known). z.version.0)
      (numbered_at 0 (all_known start) v k numbered is).is ∙ omega arith

  -- the versions lie in the first row
  module _ (s : Shape) (room : starting_count start ≤ s.versions) where
    rows : 0 < row_count s
    rows = mul-lt 0 0 s.callers s.regions (omega (arith, s.callers_fit))
        (omega (arith, s.regions_fit))

    pub placed : ArePlaced s (fresh_index start) (λ row. false) (fresh_used start)
    placed = record {
      numbered = λ v k is. numbered_there v k is;
      empty = λ row i below low no. absurd (cc);
      fits = λ k there.
          let low = slice_get_within (all_known start) k.version.0 k there in
          let long = many in
          let small = place_small 0 (row_count s) s.versions k.version.0 rows (omega arith) in
          omega arith;
      unused = λ row i below low past. slice_get_past (all_known start) (row * s.versions + i)
          (let long = many in let more = versions_some row s.versions in
          grind (arith, used_first row));
      filled = λ row. grind (arith, used_first row, used_other row);
      taken = λ row i below alive low. let long = many in
          grind (
            arith,
            used_first row,
            used_other row,
            slice_get_some (all_known start)
                (row * s.versions + i),
          );
      sized = λ k there. let h = known_at k there in
          let stamp = h.stamp in record { stamp = omega arith; contents = h.sized };
    }

    pub ranked : AreRanked s (fresh_index start) (fresh_places s start)
    ranked = record {
      ranks = λ k there.
          let is : k.rank ≡ 0 = ap (λ (z : Known). z.rank) (known_at k there).is in
          let more = total_some (row_count s) rows in omega arith;
      made = λ row. omega arith;
      freed = λ row. omega arith;
    }

    -- each is the last of its object, with the present contents
    pub chained : (words : List ℕ)
        → ((k : Known) → IsPublished (fresh_index start) k → link_of s words k ≡ 0)
        → AreChained s words (fresh_index start) (store_of (opening_of start))
    chained words links = record {
      there = λ k is. there_contents (store_of (opening_of start)) k.name k.contents (present k is);
      link = λ k is. subst (IsLinked (fresh_index start) (store_of (opening_of start)) k)
          (sym (links k is))
          (present k is);
      top = λ k m a b same zero_link.
          let first : k.rank ≡ 0 = ap (λ (z : Known). z.rank) (known_at k a).is in
          let second : m.rank ≡ 0 = ap (λ (z : Known). z.rank) (known_at m b).is in omega arith;
      apart = λ k m a b same rank.
          let first : k.name.count ≡ k.version.0 = ap (λ (z : Known). z.name.count)
          (known_at k a).is in
          let second : m.name.count ≡ m.version.0 = ap (λ (z : Known). z.name.count)
          (known_at m b).is in
          let count : m.name.count ≡ k.name.count = ap (λ (n : Name). n.count) same in
          published_once (fresh_index start) k m a b (omega arith);
    }
