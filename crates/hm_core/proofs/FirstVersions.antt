-- The versions of the starting objects, and the entries that make them.
use Rattle.std.proofs.Common.{◌≡◌, ◌<◌, ◌+◌, ◌-◌, ℕ, List, [], ◌∷◌, ◌++◌, length, get_or, take, drop, replicate, Option, Some, None, refl, sym, ap, ◌∙◌, subst, arith, append_assoc, append-nil}
use Rattle.hm_core.proofs.Words.{length-append, map-append, Name, Start, Entry, Create, Refs, Numbers, PlainStore, Stands, new_contents, store_of, AllStand, opening_of, side_entries, side_names, all_stand_parts, Known, all_known, common_known, HasNextStamp, AddsSide, creates_of, drop_more, get_or-append-add, take-append-drop, starting_name, side_known, starting_known, sides_length}
use Rattle.hm_moves.proofs.FirstWords.{first_known, first_name}

-- side objects are added one after another
pub record AreAdded (before : List Known) (sides : List (Option Numbers)) (names : Refs)
    (after : List Known) : Type 0 where
  pub versions : after ≡ before ++ side_known (length before) sides
  pub names_are : names ≡ side_names (length before) sides

pub none_added : (before : List Known) → AreAdded before [] [] before
none_added before = record { versions = sym (append-nil before); names_are = refl }

pub one_added : (before : List Known) (side : Option Numbers) (name : Option Name)
    (more : List Known)
    (sides : List (Option Numbers)) (names : Refs) (after : List Known)
    → AddsSide before side name more
    → AreAdded more sides names after → AreAdded before (side ∷ sides) (name ∷ names) after
one_added before side name more sides names after one rest =
    let here : List Known = side_known (length before) (side ∷ []) in
    let count : length more ≡ length before + length here = ap length one.versions
    ∙ length-append before here in
    record {
      versions = rest.versions ∙ rw (count, one.versions, first_known (length before) side sides)
          (append_assoc before here (side_known (length before + length here) sides));
      names_are = rw (
        rest.names_are,
        count,
        first_name (length before) side sides,
        sym one.name_is,
      ) refl;
    }

-- the common object's version comes behind all of them
pub all_added : (start : Start) (refs : Refs) (after more : List Known) (common : Known) (n : ℕ)
    → AreAdded [] start.sides refs after → n ≡ length after
    → common ≡ starting_known n (new_contents refs start.numbers) → more ≡ after ++ common ∷ []
    → more ≡ all_known start
all_added start refs after more common n added count is last =
    let number = ap length added.versions ∙ sides_length 0 start.sides in
    rw (last, is, count, number, added.versions, added.names_are) refl

pub common_last : (start : Start) (l : List Known) (d : Known) → l ≡ all_known start
    → get_or l (length l - 1) d ≡ common_known start
common_last start l d is =
    let long = length-append (side_known 0 start.sides) (common_known start ∷ []) in
    let at : length (all_known start) - 1 ≡ length (side_known 0 start.sides) + 0 = omega arith in
    rw (is, at) (get_or-append-add (side_known 0 start.sides) (common_known start ∷ []) 0 d)

creates_are : (k : ℕ) (sides : List (Option Numbers))
    → creates_of (side_known k sides) ≡ side_entries k sides
creates_are k [] = refl
creates_are k (None ∷ sides) = creates_are k sides
creates_are k (Some n ∷ sides) =
    ap (λ (l : List Entry). Create 0 (starting_name k) (replicate 4 None) n ∷ l)
    (creates_are (k + 1) sides)

-- their Creates are the opening
pub opening_created : (start : Start) → creates_of (all_known start) ≡ opening_of start
opening_created start =
    map-append (λ (k : Known). Create 0 k.name k.contents.refs k.contents.numbers)
    (side_known 0 start.sides) (common_known start ∷ [])
    ∙ rw (creates_are 0 start.sides) refl

-- a Create that stands comes behind those before it
pub next_stands : (firsts : List Known) (i : ℕ) (d : Known) (entries : List Entry) (e : Entry)
    → i < length firsts → AllStand [] (creates_of firsts) → entries ≡ creates_of (take i firsts)
    → e ≡ Create 0 (get_or firsts i d).name (get_or firsts i d).contents.refs
    (get_or firsts i d).contents.numbers
    → Stands (store_of entries) e
next_stands firsts i d entries e low stand same is =
    let behind : List Known = get_or firsts i d ∷ drop (i + 1) firsts in
    let parts : creates_of firsts ≡ creates_of (take i firsts) ++ creates_of behind =
    ap creates_of (sym (take-append-drop i firsts)
    ∙ ap (λ (l : List Known). take i firsts ++ l) (drop_more firsts i d low))
    ∙ map-append (λ (k : Known). Create 0 k.name k.contents.refs k.contents.numbers)
    (take i firsts) behind in
    let both = all_stand_parts [] (creates_of (take i firsts)) (creates_of behind)
    (subst (AllStand []) parts stand) in
    rw (same, is) both.1.0

-- and is on no object that is there
pub next_stamp : (s : PlainStore) (e : Entry) (q : ℕ) (n : Name) (refs : Refs)
    (numbers : Numbers) (end : ℕ)
    → e ≡ Create q n refs numbers → Stands s e → HasNextStamp s e end
next_stamp s e q n refs numbers end is stands =
    let fresh = (subst (Stands s) is stands).fresh in rw is (rw fresh tt)
