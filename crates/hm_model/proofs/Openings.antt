-- The entries that a heap begins with stand one after another, from the empty store on.
use Rattle.std.proofs.Common.{◌≡◌, ◌≢◌, ℕ, ◌+◌, cond, Option, Some, None, is_some, IfSome, All, List, [], ◌∷◌, ◌++◌, length, replicate, refl, sym, ap, ◌∙◌, arith, suc, append-nil}
use Rattle.std.proofs.lemmas.Bool.{ne_eqb}
use Rattle.std.proofs.lemmas.List.Sums.{sum_by-cons, sum_by-append}
use Rattle.std.proofs.lemmas.List.Elements.{All-nil, All-cons, All-head, All-tail, All-replicate}
use Rattle.hm_model.specs.declared.object.Name.{Name}
use Rattle.hm_model.specs.declared.object.Start.{Start}
use Rattle.hm_model.specs.declared.entry.Entry.{Entry}
use Rattle.hm_model.specs.declared.entry.Entry.TheVariants.{Create}
use Rattle.hm_model.specs.Store.{Numbers, Refs, PlainStore, contents_of, IsThere, AreThere, IsWellMade, made_count}
use Rattle.hm_model.specs.Effect.{CreateStands, effect_of, new_contents}
use Rattle.hm_model.specs.History.{store_after, store_of, AllStand, calls_of, create_count, starting_name, side_entries, side_names, side_count, starting_count, IsSizedStart, common_name, opening_of, IsLegal}
use Rattle.hm_model.specs.Lawful.{IsLawful}
use Rattle.hm_model.proofs.StoreFacts.{contents_of-push_new, made_count-push}
use Rattle.hm_model.proofs.EffectFacts.{there_contents}
use Rattle.hm_model.proofs.WellMade.{well_made_nil, well_made_after, fresh_name}
use Rattle.hm_model.proofs.HistoryFacts.{store_after-append, calls_of-append, create_count-append, all_stand_append, there_stays, well_made_stays}

abbrev SideIsSized : Option (List ℕ) → Type 0
SideIsSized side = IfSome side (λ numbers. length numbers ≡ 10)

abbrev NameIsThere : PlainStore → Option Name → Type 0
NameIsThere s name = IfSome name (IsThere s)

none_there : (s : PlainStore) → AreThere s (replicate 4 None)
none_there s = All-replicate (NameIsThere s) 4 None tt

side_stands : (s : PlainStore) (k : ℕ) (numbers : Numbers) → IsWellMade s → made_count 0 s ≡ k
    → length numbers ≡ 10 → CreateStands s 0 (starting_name k) (replicate 4 None) numbers
side_stands s k numbers well made ten = record {
  maker = refl;
  count = sym made;
  fresh = fresh_name s (starting_name k) well (sym made);
  given = none_there s;
  sized = record { four = refl; ten = ten };
}

made_more : (s : PlainStore) (k m : ℕ) (refs : Refs) (numbers : Numbers) → made_count 0 s ≡ k
    → made_count 0 (effect_of s (Create 0 (starting_name m) refs numbers)) ≡ k + 1
made_more s k m refs numbers made =
    made_count-push 0 s (starting_name m, new_contents refs numbers) ∙ ap (λ (n : ℕ). n + 1) made

-- the side objects' entries stand one after another
sides_stand : (s : PlainStore) (k : ℕ) (sides : List (Option Numbers)) → IsWellMade s → made_count 0 s ≡ k
    → All SideIsSized sides → AllStand s (side_entries k sides)
sides_stand s k [] well made sized = tt
sides_stand s k (None ∷ sides) well made sized =
    sides_stand s k sides well made (All-tail SideIsSized None sides sized)
sides_stand s k (Some numbers ∷ sides) well made sized =
    let stands = side_stands s k numbers well made (All-head SideIsSized (Some numbers) sides sized) in
    let e : Entry = Create 0 (starting_name k) (replicate 4 None) numbers in (
      stands,
      sides_stand (effect_of s e) (k + 1) sides (well_made_after s e well stands)
          (made_more s k k (replicate 4 None) numbers made) (All-tail SideIsSized (Some numbers) sides sized),
    )

side_count-some : (numbers : Numbers) (sides : List (Option Numbers))
    → side_count (Some numbers ∷ sides) ≡ 1 + side_count sides
side_count-some numbers sides =
    sum_by-cons (λ (side : Option (List ℕ)). cond (is_some side) 1 0) (Some numbers) sides

-- side objects in two lists are as many as in both
pub side_count-append : (xs ys : List (Option Numbers)) → side_count (xs ++ ys) ≡ side_count xs + side_count ys
side_count-append xs ys = sum_by-append (λ (side : Option Numbers). cond (is_some side) 1 0) xs ys

-- the entries of side objects in two lists
pub side_entries-append : (k : ℕ) (xs ys : List (Option Numbers))
    → side_entries k (xs ++ ys) ≡ side_entries k xs ++ side_entries (k + side_count xs) ys
side_entries-append k [] ys = ap (λ (j : ℕ). side_entries j ys) (omega arith)
side_entries-append k (None ∷ xs) ys = side_entries-append k xs ys
side_entries-append k (Some numbers ∷ xs) ys =
    let more : k + 1 + side_count xs ≡ k + side_count (Some numbers ∷ xs) = omega (arith, side_count-some numbers xs) in
    let e : Entry = Create 0 (starting_name k) (replicate 4 None) numbers in
    ap (λ (l : List Entry). e ∷ l) (side_entries-append (k + 1) xs ys)
    ∙ ap (λ (j : ℕ). e ∷ (side_entries (k + 1) xs ++ side_entries j ys)) more

-- the names of side objects in two lists
pub side_names-append : (k : ℕ) (xs ys : List (Option Numbers))
    → side_names k (xs ++ ys) ≡ side_names k xs ++ side_names (k + side_count xs) ys
side_names-append k [] ys = ap (λ (j : ℕ). side_names j ys) (omega arith)
side_names-append k (None ∷ xs) ys = ap (λ (l : Refs). None ∷ l) (side_names-append k xs ys)
side_names-append k (Some numbers ∷ xs) ys =
    let more : k + 1 + side_count xs ≡ k + side_count (Some numbers ∷ xs) = omega (arith, side_count-some numbers xs) in
    ap (λ (l : Refs). Some (starting_name k) ∷ l) (side_names-append (k + 1) xs ys)
    ∙ ap (λ (j : ℕ). Some (starting_name k) ∷ (side_names (k + 1) xs ++ side_names j ys)) more

-- they make as many objects as are given
sides_made : (s : PlainStore) (k : ℕ) (sides : List (Option Numbers)) → made_count 0 s ≡ k
    → made_count 0 (store_after s (side_entries k sides)) ≡ k + side_count sides
sides_made s k [] made = omega arith
sides_made s k (None ∷ sides) made = sides_made s k sides made
sides_made s k (Some numbers ∷ sides) made =
    let one = side_count-some numbers sides in
    let rest = sides_made (effect_of s (Create 0 (starting_name k) (replicate 4 None) numbers)) (k + 1) sides
    (made_more s k k (replicate 4 None) numbers made) in omega arith

-- and their names are then there
sides_there : (s : PlainStore) (k : ℕ) (sides : List (Option Numbers)) → IsWellMade s → made_count 0 s ≡ k
    → All SideIsSized sides → AreThere (store_after s (side_entries k sides)) (side_names k sides)
sides_there s k [] well made sized = All-nil (NameIsThere s)
sides_there s k (None ∷ sides) well made sized =
    All-cons (NameIsThere (store_after s (side_entries k sides))) None (side_names k sides) tt
    (sides_there s k sides well made (All-tail SideIsSized None sides sized))
sides_there s k (Some numbers ∷ sides) well made sized =
    let stands = side_stands s k numbers well made (All-head SideIsSized (Some numbers) sides sized) in
    let e : Entry = Create 0 (starting_name k) (replicate 4 None) numbers in
    let t : PlainStore = effect_of s e in
    All-cons (NameIsThere (store_after t (side_entries (k + 1) sides))) (Some (starting_name k))
    (side_names (k + 1) sides)
    (there_stays t (side_entries (k + 1) sides) (starting_name k)
    (there_contents t (starting_name k) _
    (contents_of-push_new s (starting_name k, new_contents (replicate 4 None) numbers) stands.fresh)))
    (sides_there t (k + 1) sides (well_made_after s e well stands)
    (made_more s k k (replicate 4 None) numbers made) (All-tail SideIsSized (Some numbers) sides sized))

length-side_names : (k : ℕ) (sides : List (Option Numbers)) → length (side_names k sides) ≡ length sides
length-side_names k [] = refl
length-side_names k (None ∷ sides) = ap suc (length-side_names k sides)
length-side_names k (Some numbers ∷ sides) = ap suc (length-side_names (k + 1) sides)

abbrev side_store : Start → PlainStore
side_store start = store_after [] (side_entries 0 start.sides)

common_stands : (start : Start) → IsSizedStart start
    → CreateStands (side_store start) 0 (common_name start) (side_names 0 start.sides) start.numbers
common_stands start sized =
    let made : made_count 0 (side_store start) ≡ side_count start.sides =
    let m = sides_made [] 0 start.sides refl in omega arith in
    let well = well_made_stays [] (side_entries 0 start.sides) well_made_nil
    (sides_stand [] 0 start.sides well_made_nil refl sized.sides) in
    record {
      maker = refl;
      count = sym made;
      fresh = fresh_name (side_store start) (common_name start) well (sym made);
      given = sides_there [] 0 start.sides well_made_nil refl sized.sides;
      sized = record { four = length-side_names 0 start.sides ∙ sized.four; ten = sized.numbers };
    }

-- the opening stands
pub opening_stands : (start : Start) → IsSizedStart start → AllStand [] (opening_of start)
opening_stands start sized =
    all_stand_append [] (side_entries 0 start.sides)
    (Create 0 (common_name start) (side_names 0 start.sides) start.numbers ∷ [])
    (sides_stand [] 0 start.sides well_made_nil refl sized.sides)
    (common_stands start sized, tt)

-- the opening is a legal history
pub legal_opening : (start : Start) → IsSizedStart start → IsLegal start (opening_of start)
legal_opening start sized =
    record { rest = []; begins = sym (append-nil (opening_of start)); stand = opening_stands start sized }

-- and a lawful one, where its store is lawful
pub lawful_opening : (lawful : PlainStore → Type 0) (allowed : PlainStore → Entry → Type 0) (start : Start)
    → IsSizedStart start → lawful (store_of (opening_of start))
    → IsLawful lawful allowed start (opening_of start)
unfolding legal_opening
lawful_opening lawful allowed start sized now =
    record { legal = legal_opening start sized; come = tt; now = now }

-- the common object is there, with the start's numbers
pub common_there : (start : Start) → IsSizedStart start
    → contents_of (store_of (opening_of start))
    (common_name start) ≡ Some (new_contents (side_names 0 start.sides) start.numbers)
common_there start sized =
    let split : store_of (opening_of start) ≡ side_store start ++
    (common_name start, new_contents (side_names 0 start.sides) start.numbers) ∷ [] = store_after-append []
    (side_entries 0 start.sides) _ in
    ap (λ (s : PlainStore). contents_of s (common_name start)) split
    ∙ contents_of-push_new (side_store start)
    (common_name start, new_contents (side_names 0 start.sides) start.numbers)
    (common_stands start sized).fresh

sides_mine : (k : ℕ) (sides : List (Option Numbers))
    → calls_of 0 (side_entries k sides) ≡ side_entries k sides
sides_mine k [] = refl
sides_mine k (None ∷ sides) = sides_mine k sides
sides_mine k (Some numbers ∷ sides) =
    ap (λ (l : List Entry). Create 0 (starting_name k) (replicate 4 None) numbers ∷ l)
    (sides_mine (k + 1) sides)

sides_others : (q k : ℕ) (sides : List (Option Numbers)) → q ≢ 0 → calls_of q (side_entries k sides) ≡ []
sides_others q k [] ne = refl
sides_others q k (None ∷ sides) ne = sides_others q k sides ne
sides_others q k (Some numbers ∷ sides) ne =
    rw (ne_eqb 0 q (λ (e : 0 ≡ q). ne (sym e))) (sides_others q (k + 1) sides ne)

-- the opening is caller 0's
pub calls_of-opening_mine : (start : Start) → calls_of 0 (opening_of start) ≡ opening_of start
calls_of-opening_mine start =
    calls_of-append 0 (side_entries 0 start.sides) _
    ∙ ap (λ (l : List Entry). l ++ Create 0 (common_name start) (side_names 0 start.sides) start.numbers ∷ [])
    (sides_mine 0 start.sides)

-- and nobody else's
pub calls_of-opening_others : (q : ℕ) (start : Start) → q ≢ 0 → calls_of q (opening_of start) ≡ []
calls_of-opening_others q start ne =
    calls_of-append q (side_entries 0 start.sides) _
    ∙ (ap (λ (l : List Entry). l ++ calls_of q
    (Create 0 (common_name start) (side_names 0 start.sides) start.numbers ∷ []))
    (sides_others q 0 start.sides ne) ∙ rw (ne_eqb 0 q (λ (e : 0 ≡ q). ne (sym e))) refl)

sides_created : (k : ℕ) (sides : List (Option Numbers))
    → create_count (side_entries k sides) ≡ side_count sides
sides_created k [] = refl
sides_created k (None ∷ sides) = sides_created k sides
sides_created k (Some numbers ∷ sides) =
    let one = side_count-some numbers sides in let rest = sides_created (k + 1) sides in
    let both = create_count-append (Create 0 (starting_name k) (replicate 4 None) numbers ∷ [])
    (side_entries (k + 1) sides) in omega arith

-- the opening makes the given side objects and one more
pub create_count-opening : (start : Start) → create_count (opening_of start) ≡ starting_count start
create_count-opening start =
    let sides = sides_created 0 start.sides in
    let both = create_count-append (side_entries 0 start.sides)
    (Create 0 (common_name start) (side_names 0 start.sides) start.numbers ∷ []) in omega arith
