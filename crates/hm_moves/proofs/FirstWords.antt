-- The words of a fresh Table are laid one after another, and say what the starting objects hold.
use Rattle.std.proofs.Common.{◌≡◌, ◌<◌, ◌≤◌, ◌+◌, ◌-◌, ◌*◌, ℕ, zero, suc, List, [], ◌∷◌, ◌++◌, length, map, get_or, replicate, Option, Some, None, IfSome, All, refl, sym, ap, ◌∙◌, subst, arith, append-nil, append_assoc}
use Rattle.hm_moves.proofs.Words.{slice_get, flat_map, mul-lt, length-append, length-map, length-replicate, get_or_append_left, get_or-append-add, get_or-map, get_or-replicate, map-append, All-nil, All-cons, All-append, All-get_or, flat_map-append, get_or_from_slice_get, slice_get-get_or, slice_get_within, Shape, version_count, reply_at, roles_at, word_at, word_count, Name}
use Rattle.hm_moves.proofs.Words.{Start, Refs, Numbers, IsSized, new_contents, side_names, starting_count, starting_name, IsSizedStart, Known, IsPublished, Refers, words_at, reference_at, row_count, starting_known, side_known, common_known, all_known, fresh_index, AreFirst, LaysSide, count_word, first_words, head_words, known_words, laid_words}
use Rattle.hm_moves.proofs.Fresh.{AreNumbered, numbered_at, numbered, many, known_at}
use Rattle.hm_moves.proofs.Placed.{versions_some}
use Rattle.hm_shape.specs.Words.{roles_word}
use Rattle.hm_moves.specs.Fresh.{fresh_roles}

-- all side objects are laid, from number k on
pub record AreLaid (before : List ℕ) (k : ℕ) (sides : List (Option Numbers))
    (words after : List ℕ) : Type 0 where
  pub laid : after ≡ before ++ flat_map known_words (side_known k sides)
  pub names : words ≡ map count_word (side_names k sides)

pub none_laid : (before : List ℕ) (k : ℕ) → AreLaid before k [] [] before
none_laid before k = record { laid = sym (append-nil before); names = refl }

-- the first side object's version comes before those of the others
pub first_known : (k : ℕ) (side : Option Numbers) (sides : List (Option Numbers))
    → side_known k (side ∷ sides)
    ≡ side_known k (side ∷ []) ++ side_known (k + length (side_known k (side ∷ []))) sides
first_known k None sides = let same : k ≡ k + 0 = omega arith in ap (λ (j : ℕ). side_known j sides)
    same
first_known k (Some numbers) sides = refl

pub first_name : (k : ℕ) (side : Option Numbers) (sides : List (Option Numbers))
    → side_names k (side ∷ sides)
    ≡ side_names k (side ∷ []) ++ side_names (k + length (side_known k (side ∷ []))) sides
first_name k None sides = let same : k ≡ k + 0 = omega arith in
    ap (λ (j : ℕ). None ∷ side_names j sides) same
first_name k (Some numbers) sides = refl

pub one_laid : (before : List ℕ) (k : ℕ) (side : Option Numbers) (word : ℕ) (more : List ℕ)
    (next : ℕ)
    (sides : List (Option Numbers)) (words after : List ℕ) → LaysSide before k side word more next
    → AreLaid more next sides words after → AreLaid before k (side ∷ sides) (word ∷ words) after
one_laid before k side word more next sides words after one rest =
    let here : List Known = side_known k (side ∷ []) in
    let names : Refs = side_names k (side ∷ []) in
    let a = append_assoc before (flat_map known_words here)
    (flat_map known_words (side_known (k + length here) sides)) in
    let b = flat_map-append known_words here (side_known (k + length here) sides) in
    let c = map-append count_word names (side_names (k + length here) sides) in
    let known = first_known k side sides in
    let name = first_name k side sides in
    let laid = rest.laid in let words_are = one.words in let count = one.count in
    let word_is = one.name in
    let names_are = rest.names in record { laid = cc; names = cc }

-- the common object's version comes last
pub all_laid : (start : Start) (before words after : List ℕ) → AreLaid before 0 start.sides words
    after
    → after ++ (0 ∷ 0 ∷ words ++ start.numbers) ≡ before ++ flat_map known_words (all_known start)
all_laid start before words after h =
    let sides : List ℕ = flat_map known_words (side_known 0 start.sides) in
    let a = append_assoc before sides (known_words (common_known start)) in
    let b = append-nil (known_words (common_known start)) in
    let c = flat_map-append known_words (side_known 0 start.sides) (common_known start ∷ []) in
    let laid = h.laid in let names = h.names in cc

-- a name is of one of the first n starting objects
record IsBelow (n : ℕ) (name : Name) : Type 0 where
  is : name ≡ starting_name name.count
  low : name.count < n

abbrev NamesBelow : ℕ → Refs → Type 0
NamesBelow n refs = (i : ℕ) → IfSome (get_or refs i None) (IsBelow n)

bare_below : (n k : ℕ) → NamesBelow n (replicate k None)
bare_below n zero i = tt
bare_below n (suc k) zero = tt
bare_below n (suc k) (suc i) = bare_below n k i

names_below : (n k : ℕ) (sides : List (Option Numbers)) → k + length (side_known k sides) ≤ n
    → NamesBelow n (side_names k sides)
names_below n k [] low i = tt
names_below n k (None ∷ sides) low zero = tt
names_below n k (None ∷ sides) low (suc i) = names_below n k sides low i
names_below n k (Some numbers ∷ sides) low zero = record { is = refl; low = omega arith }
names_below n k (Some numbers ∷ sides) low (suc i) = names_below n (k + 1) sides (omega arith) i

abbrev RefersBelow : ℕ → Known → Type 0
RefersBelow n k = NamesBelow n k.contents.refs

sides_below : (n k : ℕ) (sides : List (Option Numbers)) → All (RefersBelow n) (side_known k sides)
sides_below n k [] = All-nil (RefersBelow n)
sides_below n k (None ∷ sides) = sides_below n k sides
sides_below n k (Some numbers ∷ sides) =
    All-cons (RefersBelow n) (starting_known k (new_contents (replicate 4 None) numbers))
    (side_known (k + 1) sides) (bare_below n 4) (sides_below n (k + 1) sides)

all_below : (start : Start) → All (RefersBelow (length (all_known start))) (all_known start)
all_below start =
    let n : ℕ = length (all_known start) in
    let one = length-append (side_known 0 start.sides) (common_known start ∷ []) in
    All-append (RefersBelow n) (side_known 0 start.sides) (common_known start ∷ [])
    (sides_below n 0 start.sides)
    (All-cons (RefersBelow n) (common_known start) [] (names_below n 0 start.sides (omega arith))
    (All-nil (RefersBelow n)))

-- a version has 16 words
words_wide : (k : Known) → IsSized k.contents.refs k.contents.numbers → length (known_words k) ≡ 16
words_wide k h =
    let a = length-append (0 ∷ 0 ∷ map count_word k.contents.refs) k.contents.numbers in
    let b = length-map k.contents.refs count_word in
    let four = h.four in let ten = h.ten in omega arith

all_wide : (k : ℕ) (ms : List Known) → AreNumbered k ms → length (flat_map known_words ms)
    ≡ 16 * length ms
all_wide k [] h = refl
all_wide k (m ∷ ms) h =
    let a = length-append (known_words m) (flat_map known_words ms) in
    let b = words_wide m h.0.sized in
    let c = all_wide (k + 1) ms h.1 in omega arith

-- word j of the i-th
word_of_place : (k : ℕ) (ms : List Known) (rest : List ℕ) (i j : ℕ) (m : Known) → AreNumbered k ms
    → slice_get ms i ≡ Some m → j < 16
    → get_or (flat_map known_words ms ++ rest) (16 * i + j) 0 ≡ get_or (known_words m) j 0
word_of_place k [] rest i j m h e low = absurd (cc)
word_of_place k (x ∷ ms) rest zero j m h e low =
    let is : x ≡ m = cc in
    let wide = words_wide x h.0.sized in
    let at : 16 * 0 + j ≡ j = omega arith in
    let a = append_assoc (known_words x) (flat_map known_words ms) rest in
    let b = get_or_append_left (known_words x) (flat_map known_words ms ++ rest) 0 j
    (omega arith) in cc
word_of_place k (x ∷ ms) rest (suc i) j m h e low =
    let wide = words_wide x h.0.sized in
    let at : 16 * suc i + j ≡ length (known_words x) + (16 * i + j) = omega arith in
    ap (λ (l : List ℕ). get_or l (16 * suc i + j) 0)
    (append_assoc (known_words x) (flat_map known_words ms) rest)
    ∙ (ap (λ (n : ℕ). get_or (known_words x ++ (flat_map known_words ms ++ rest)) n 0) at
    ∙ (get_or-append-add (known_words x) (flat_map known_words ms ++ rest) (16 * i + j) 0
    ∙ word_of_place (k + 1) ms rest i j m h.1 e low))

module _ (s : Shape) (start : Start) (sized : IsSizedStart start)
    (room : starting_count start ≤ s.versions)
  where
    abbrev laid : List ℕ
    laid = flat_map known_words (all_known start)

    abbrev rest : List ℕ
    rest = replicate (word_count s - length (laid_words s start)) 0

    abbrev zeros : List ℕ
    zeros = replicate (s.callers + 1) 0

    abbrev roles : List ℕ
    roles = replicate s.callers (roles_word fresh_roles)

    rows : 0 < row_count s
    rows = mul-lt 0 0 s.callers s.regions (omega (arith, s.callers_fit))
        (omega (arith, s.regions_fit))

    few : length (all_known start) ≤ version_count s
    few = let long = many start sized in let more = versions_some (row_count s) s.versions rows in
        omega arith

    zeros_wide : length zeros ≡ s.callers + 1
    zeros_wide = length-replicate (s.callers + 1) 0

    head_wide : length (head_words s) ≡ 2 * s.callers + 1
    head_wide =
        let a = length-append zeros roles in
        let b = zeros_wide in
        let c : length roles ≡ s.callers = length-replicate s.callers (roles_word fresh_roles) in
        omega arith

    pub laid_fits : length (laid_words s start) ≤ word_count s
    laid_fits =
        let a = length-append (head_words s) laid in
        let b = head_wide in
        let c = all_wide 0 (all_known start) (numbered start sized) in
        let d = few in omega arith

    first_wide : length (first_words s start) ≡ word_count s
    first_wide =
        let a = length-append (laid_words s start) rest in
        let b : length rest ≡ word_count s - length (laid_words s start) =
        length-replicate (word_count s - length (laid_words s start)) 0 in
        let c = laid_fits in omega arith

    -- the words in three parts
    parts : first_words s start ≡ zeros ++ (roles ++ (laid ++ rest))
    parts = append_assoc (head_words s) laid rest ∙ append_assoc zeros roles (laid ++ rest)

    zero_word : (i : ℕ) → i ≤ s.callers → get_or (first_words s start) i 0 ≡ 0
    zero_word i low =
        let wide = zeros_wide in
        ap (λ (l : List ℕ). get_or l i 0) parts
        ∙ (get_or_append_left zeros (roles ++ (laid ++ rest)) 0 i (omega arith)
        ∙ get_or-replicate (s.callers + 1) i 0 0 (omega arith))

    roles_there : (q : ℕ) → q < s.callers → get_or (first_words s start) (roles_at s q) 0
        ≡ roles_word fresh_roles
    roles_there q low =
        let wide = zeros_wide in
        let long : length roles ≡ s.callers = length-replicate s.callers (roles_word fresh_roles) in
        let at : roles_at s q ≡ length zeros + q = omega arith in
        let a = parts in
        let b = get_or-append-add zeros (roles ++ (laid ++ rest)) q 0 in
        let c = get_or_append_left roles (laid ++ rest) 0 q (omega arith) in
        let d = get_or-replicate s.callers q (roles_word fresh_roles) 0 low in cc

    first_word : (k : Known) (j : ℕ) → IsPublished (fresh_index start) k → j < 16
        → words_at s (first_words s start) k j ≡ get_or (known_words k) j 0
    first_word k j there low =
        let c = head_wide in
        let at : word_at s k.version j ≡ length (head_words s) + (16 * k.version.0 + j) = omega
        arith in
        let a = append_assoc (head_words s) laid rest in
        let b = get_or-append-add (head_words s) (laid ++ rest) (16 * k.version.0 + j) 0 in
        let d = word_of_place 0 (all_known start) rest k.version.0 j k (numbered start sized) there
        low in cc

    reference_word : (k : Known) (i : ℕ) → IsSized k.contents.refs k.contents.numbers → i < 4
        → get_or (known_words k) (2 + i) 0 ≡ count_word (reference_at k.contents i)
    reference_word k i h low =
        let four = h.four in
        let long = length-map k.contents.refs count_word in
        let at : 2 + i ≡ suc (suc i) = omega arith in
        let a = get_or_append_left (map count_word k.contents.refs) k.contents.numbers 0 i
        (omega arith) in
        let b = get_or-map count_word k.contents.refs i None 0 (omega arith) in cc

    number_word : (k : Known) (i : ℕ) → IsSized k.contents.refs k.contents.numbers
        → get_or (known_words k) (6 + i) 0 ≡ get_or k.contents.numbers i 0
    number_word k i h =
        let four = h.four in
        let long = length-map k.contents.refs count_word in
        let at : 6 + i ≡ length (0 ∷ 0 ∷ map count_word k.contents.refs) + i = omega arith in
        let a = get_or-append-add (0 ∷ 0 ∷ map count_word k.contents.refs) k.contents.numbers i 0 in
        cc

    -- a starting object's name is of the version with its count
    refers : (o : Option Name) → IfSome o (IsBelow (length (all_known start)))
        → Refers (fresh_index start) (count_word o) o
    refers None h = refl
    refers (Some n) h =
        let low = h.low in
        let m : Known = get_or (all_known start) n.count (common_known start) in
        let here : slice_get (all_known start) n.count ≡ Some m =
        slice_get-get_or (all_known start) n.count (common_known start) (omega arith) in
        let is = (numbered_at 0 (all_known start) n.count m (numbered start sized) here).is in
        let number : m.version.0 ≡ n.count = ap (λ (z : Known). z.version.0) is ∙ omega arith in
        let same : 0 + n.count ≡ n.count = omega arith in (
          m,
          ap (slice_get (all_known start)) number ∙ here,
          omega arith,
          ap (λ (z : Known). z.name) is ∙ (ap starting_name same ∙ sym h.is),
        )

    refers_at : (k : Known) (i : ℕ) → IsPublished (fresh_index start) k
        → Refers (fresh_index start) (count_word (reference_at k.contents i))
        (reference_at k.contents i)
    refers_at k i there =
        let low = slice_get_within (all_known start) k.version.0 k there in
        refers (reference_at k.contents i)
        (subst (RefersBelow (length (all_known start)))
        (get_or_from_slice_get (all_known start) k.version.0 k k there)
        (All-get_or (RefersBelow (length (all_known start))) (all_known start) k.version.0 k low
        (all_below start)) i)

    pub first_are : AreFirst s start (first_words s start)
    first_are = record {
      sized = sized;
      wide = first_wide;
      head = record {
        stage = zero_word 0 (omega arith);
        replies = λ q low. zero_word (reply_at q) (omega arith);
        roles = roles_there;
      };
      contents = λ k there.
          let at = known_at start sized k there in
          record {
            stamp = first_word k 1 there (omega arith) ∙ sym at.stamp;
            refs = λ i low. subst
                (λ (w : ℕ). Refers (fresh_index start) w (reference_at k.contents i))
                (sym (first_word k (2 + i) there (omega arith) ∙ reference_word k i at.sized low))
                (refers_at k i there);
            numbers = λ i low. first_word k (6 + i) there (omega arith) ∙ number_word k i at.sized;
          };
      links = λ k there. first_word k 0 there (omega arith);
    }

-- a list of four
pub four_sides : (sides : List (Option Numbers)) → length sides ≡ 4 → sides
    ≡ get_or sides 0 None ∷ get_or sides 1 None ∷ get_or sides 2 None ∷ get_or sides 3 None ∷ []
four_sides [] h = absurd (omega arith)
four_sides (a ∷ []) h = absurd (omega arith)
four_sides (a ∷ (b ∷ [])) h = absurd (omega arith)
four_sides (a ∷ (b ∷ (c ∷ []))) h = absurd (omega arith)
four_sides (a ∷ (b ∷ (c ∷ (d ∷ [])))) h = refl
four_sides (a ∷ (b ∷ (c ∷ (d ∷ (e ∷ rest))))) h = absurd (omega arith)
