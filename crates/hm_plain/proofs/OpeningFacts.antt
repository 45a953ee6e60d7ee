-- The table of objects after the starting objects are made has what the opening leaves.
use Rattle.std.proofs.Common.{◌≡◌, ℕ, ◌+◌, Option, Some, None, is_some, List, [], ◌∷◌, ◌++◌, cond, length, get_or, replicate, get_or-set_same, get_or-set_other, refl, sym, ap, ◌∙◌, subst, arith, length-append}
use Rattle.std.proofs.lemmas.List.Sums.{sum_by-cons, sum_by_push}
use Rattle.std.specs.Option.{option_map}
use Rattle.std.proofs.lemmas.Grind.{common_steps}
use Rattle.hm_model.specs.declared.object.Name.{Name}
use Rattle.hm_model.specs.declared.object.Start.{Start}
use Rattle.hm_model.specs.declared.object.Contents.{Contents}
use Rattle.hm_model.specs.declared.entry.Entry.{Entry}
use Rattle.hm_model.specs.declared.entry.Entry.TheVariants.{Create}
use Rattle.hm_model.specs.Store.{Refs, Numbers, PlainStore}
use Rattle.hm_model.specs.Effect.{effect_of, new_contents}
use Rattle.hm_model.specs.History.{store_after, store_of, starting_name, side_entries, side_names, side_count, starting_count, common_name, opening_of}
use Rattle.hm_model.specs.Sight.{IsFresh}
use Rattle.hm_model.proofs.Openings.{calls_of-opening_mine}
use Rattle.hm_model.proofs.HistoryFacts.{store_after-append}
use Rattle.hm_plain.specs.Indices.{indexed_name, indexed_names, numbered}
use Rattle.hm_plain.specs.Stocks.{Stock, Takes, AddsSide}
use Rattle.hm_plain.specs.Views.{opened}
use Rattle.hm_plain.specs.Sights.{takes_version, version_count, fresh_roots, sight_of}
use Rattle.hm_plain.proofs.IndexFacts.{numbered-push}
use Rattle.hm_plain.proofs.AgreeFacts.{root_of-index}

-- side objects are added one after another
abbrev pub AddsSides : Stock → Stock → List (Option Numbers) → List (Option ℕ) → Type 0
AddsSides s t [] [] = t ≡ s
AddsSides s t [] (k ∷ ks) = ⊥
AddsSides s t (x ∷ xs) [] = ⊥
AddsSides s t (x ∷ xs) (k ∷ ks) = (u : Stock) × AddsSide s u x k × AddsSides u t xs ks

-- what the table has then
pub record HasSides (s t : Stock) (sides : List (Option Numbers)) (indices : List (Option ℕ)) : Type 0 where
  pub store : store_after (numbered s.contents) (side_entries (length s.contents) sides) ≡ numbered t.contents
  pub names : side_names (length s.contents) sides ≡ indexed_names indices
  pub count : length t.contents ≡ length s.contents + side_count sides
  pub used : t.used ≡ s.used + side_count sides
  pub room : t.room + side_count sides ≡ s.room

side_count-cons : (x : Option Numbers) (xs : List (Option Numbers)) → side_count (x ∷ xs) ≡ cond (is_some x) 1 0 + side_count xs
side_count-cons x xs = sum_by-cons (λ (side : Option Numbers). cond (is_some side) 1 0) x xs

pub has_sides : (s t : Stock) (sides : List (Option Numbers)) (indices : List (Option ℕ)) → AddsSides s t sides indices → HasSides s t sides indices
has_sides s t [] [] same = subst (λ (u : Stock). HasSides s u [] []) (sym same) record { store = refl; names = refl; count = omega arith; used = omega arith; room = omega arith }
has_sides s t [] (k ∷ ks) h = absurd h
has_sides s t (x ∷ xs) [] h = absurd h
has_sides s t (None ∷ xs) (k ∷ ks) (u, adds, rest) =
    let same : u ≡ s = adds.0 in
    let one = side_count-cons None xs in
    let more = subst (λ (v : Stock). HasSides v t xs ks) same (has_sides u t xs ks rest) in
    record {
      store = more.store;
      names = ap (λ (l : Refs). None ∷ l) more.names ∙ ap (λ (index : Option ℕ). option_map indexed_name index ∷ indexed_names ks) (sym adds.1);
      count = omega (arith, more.count);
      used = omega (arith, more.used);
      room = omega (arith, more.room);
    }
has_sides s t (Some numbers ∷ xs) (k ∷ ks) (u, adds, rest) =
    let one = side_count-cons (Some numbers) xs in
    let n : ℕ = length s.contents in
    let long : n + 1 ≡ length u.contents = sym (ap length adds.0.contents_are ∙ length-append s.contents (new_contents (replicate 4 None) numbers ∷ [])) in
    let e : Entry = Create 0 (starting_name n) (replicate 4 None) numbers in
    let pushed : effect_of (numbered s.contents) e ≡ numbered u.contents = sym (ap numbered adds.0.contents_are ∙ numbered-push s.contents (new_contents (replicate 4 None) numbers)) in
    let more = has_sides u t xs ks rest in
    record {
      store = ap (λ (r : PlainStore). store_after r (side_entries (n + 1) xs)) pushed ∙ (ap (λ (j : ℕ). store_after (numbered u.contents) (side_entries j xs)) long ∙ more.store);
      names = ap (λ (j : ℕ). Some (starting_name n) ∷ side_names j xs) long ∙ (ap (λ (l : Refs). Some (starting_name n) ∷ l) more.names ∙ ap (λ (index : Option ℕ). option_map indexed_name index ∷ indexed_names ks) (sym adds.1));
      count = omega (arith, more.count);
      used = omega (arith, more.used, adds.0.used);
      room = omega (arith, more.room, adds.0.room);
    }

-- what the common object adds to that is the whole opening
pub opened_store : (start : Start) (s t r : Stock) (indices : List (Option ℕ)) → s.contents ≡ [] → AddsSides s t start.sides indices → Takes t r (t.contents ++ new_contents (indexed_names indices) start.numbers ∷ [])
    → numbered r.contents ≡ store_of (opening_of start)
opened_store start s t r indices empty adds takes =
    let sides = subst (λ (l : List _). HasSides record { contents = l; used = s.used; room = s.room } t start.sides indices) empty (has_sides s t start.sides indices adds) in
    let count : length t.contents ≡ side_count start.sides = let c = sides.count in omega arith in
    let whole : store_of (opening_of start) ≡ store_after [] (side_entries 0 start.sides) ++ (common_name start, new_contents (side_names 0 start.sides) start.numbers) ∷ [] = store_after-append [] (side_entries 0 start.sides) _ in
    ap numbered takes.contents_are
    ∙ (numbered-push t.contents (new_contents (indexed_names indices) start.numbers)
    ∙ sym (whole ∙ (ap (λ (m : PlainStore). m ++ (common_name start, new_contents (side_names 0 start.sides) start.numbers) ∷ []) sides.store
    ∙ (ap (λ (l : Refs). numbered t.contents ++ (common_name start, new_contents l start.numbers) ∷ []) sides.names ∙ ap (λ (k : ℕ). numbered t.contents ++ (indexed_name k, new_contents (indexed_names indices) start.numbers) ∷ []) (sym count)))))

-- the table then has as many objects as a heap starts with
pub opened_count : (start : Start) (s t r : Stock) (indices : List (Option ℕ)) (x : Contents) → s.contents ≡ [] → AddsSides s t start.sides indices → Takes t r (t.contents ++ x ∷ []) → length r.contents ≡ starting_count start
opened_count start s t r indices x empty adds takes =
    let sides = has_sides s t start.sides indices adds in let none = ap length empty in let long = ap length takes.contents_are ∙ length-append t.contents (x ∷ []) in omega (arith, sides.count)

-- a version is taken for each starting object
pub opened_used : (start : Start) (s t r : Stock) (indices : List (Option ℕ)) (contents : List _) → AddsSides s t start.sides indices → Takes t r contents → r.used ≡ s.used + starting_count start
opened_used start s t r indices contents adds takes = let sides = has_sides s t start.sides indices adds in omega (arith, sides.used, takes.used)

pub opened_room : (start : Start) (s t r : Stock) (indices : List (Option ℕ)) (contents : List _) → AddsSides s t start.sides indices → Takes t r contents → r.room + starting_count start ≡ s.room
opened_room start s t r indices contents adds takes = let sides = has_sides s t start.sides indices adds in omega (arith, sides.room, takes.room)

sides_taken : (k : ℕ) (sides : List (Option Numbers)) → version_count (side_entries k sides) ≡ side_count sides
sides_taken k [] = refl
sides_taken k (None ∷ xs) = let one = side_count-cons None xs in let rest = sides_taken k xs in omega arith
sides_taken k (Some numbers ∷ xs) =
    let one = side_count-cons (Some numbers) xs in
    let rest = sides_taken (k + 1) xs in
    let first = sum_by-cons (λ (e : Entry). cond (takes_version e) 1 0) (Create 0 (starting_name k) (replicate 4 None) numbers) (side_entries (k + 1) xs) in omega arith

-- the opening takes a version for each of them
pub version_count-opening : (start : Start) → version_count (opening_of start) ≡ starting_count start
version_count-opening start =
    let sides = sides_taken 0 start.sides in
    let last = sum_by_push (λ (e : Entry). cond (takes_version e) 1 0) (side_entries 0 start.sides) (Create 0 (common_name start) (side_names 0 start.sides) start.numbers) in omega arith

-- a caller that knows the opening alone, and whose place 0 has the common object's index, is fresh
pub fresh_caller : {U : Type 0} (usage : U) (start : Start) (versions : ℕ) (o : Stock) (common : ℕ) → indexed_name common ≡ common_name start → IsFresh (sight_of (opened usage start versions) o (fresh_roots common))
fresh_caller usage start versions o common is = record {
  seen = refl;
  mine = sym (calls_of-opening_mine start);
  common = root_of-index (opened usage start versions) o (fresh_roots common) 0 ∙ (ap (option_map indexed_name) (get_or-set_same (replicate 256 None) 0 (Some common) None (omega arith)) ∙ ap (λ (n : Name). Some n) is);
  unset = λ k ne. root_of-index (opened usage start versions) o (fresh_roots common) k
      ∙ ap (option_map indexed_name) (get_or-set_other (replicate 256 None) 0 k (Some common) None ne ∙ none_there 256 k);
  copying = refl;
  moves = refl;
  tends = refl;
}
  where
    none : Option ℕ
    none = None

    none_there : (n k : ℕ) → get_or (replicate n none) k none ≡ none
    none_there n k = grind (arith, common_steps)

-- a list of four is that of its elements
pub four_sides : (xs : List (Option Numbers)) → length xs ≡ 4 → xs ≡ get_or xs 0 None ∷ get_or xs 1 None ∷ get_or xs 2 None ∷ get_or xs 3 None ∷ []
four_sides [] h = absurd (omega arith)
four_sides (a ∷ []) h = absurd (omega arith)
four_sides (a ∷ b ∷ []) h = absurd (omega arith)
four_sides (a ∷ b ∷ c ∷ []) h = absurd (omega arith)
four_sides (a ∷ b ∷ c ∷ d ∷ []) h = refl
four_sides (a ∷ b ∷ c ∷ d ∷ e ∷ xs) h = absurd (omega arith)
