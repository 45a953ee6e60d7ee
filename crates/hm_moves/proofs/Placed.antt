-- Where versions lie, how they are counted, and one version more.
use Rattle.std.proofs.Common.{false, ◌≡◌, ◌≢◌, ◌⊎◌, ◌<◌, ◌≤◌, ◌+◌, ◌*◌, ℕ, zero, suc, eq-eqb, ne_eqb, List, length, slice_index, slice_set, Option, Some, None, refl, sym, ap, ◌∙◌, subst, arith, ⊎_elim, get_or-set_other, get_or-set_same, suc-mul, mul-le-mul_right, lt_of_not-le, mul-le-mul_left, mul-suc, mul_assoc}
use Rattle.hm_moves.proofs.Words.{nat_tests, common_steps, eqb_tells, dec_le, Shape, Version, IsVersionOf, word_at, word_count, Name, Known, Index, IsPublished, with_one, words_at, Refers, Follows, HasContents, AreTrue, reference_at, IsSizedVersion, ArePlaced, row_count, total, raised, Places, rank_limit, AreRanked, places_with}

-- a version that is published last is published
pub published_here : (index : Index) (k : Known) → IsPublished (with_one index k) k
published_here index k = rw (eq-eqb k.version.0 k.version.0 refl) refl

-- two published versions of one number are one
pub published_once : (index : Index) (k m : Known) → IsPublished index k → IsPublished index m
    → m.version.0 ≡ k.version.0 → m ≡ k
published_once index k m a b e = let both : Some m ≡ Some k = sym b ∙ (ap index e ∙ a) in cc

-- a published version has another number than one that is not
pub not_the_one : (index : Index) (k m : Known) → index k.version.0 ≡ None → IsPublished index m
    → m.version.0 ≢ k.version.0
not_the_one index k m none there e = let both : Some m ≡ None = sym there ∙ (ap index e ∙ none) in
    cc

-- published versions stay so
pub published_more : (index : Index) (k m : Known) → index k.version.0 ≡ None → IsPublished index m
    → IsPublished (with_one index k) m
published_more index k m none there =
    rw (ne_eqb m.version.0 k.version.0 (not_the_one index k m none there)) there

-- a published version is the new one, or one from before with another number
abbrev pub Either : Index → Known → Known → Type 0
Either index k m = (k ≡ m) ⊎ ((m.version.0 ≢ k.version.0) × IsPublished index m)

pub published_either : (index : Index) (k m : Known) → IsPublished (with_one index k) m
    → Either index k m
published_either index k m h = grind (arith, common_steps, eqb_tells m.version.0 k.version.0)

-- a word refers as before
pub refers_more : (index : Index) (k : Known) (w : ℕ) (r : Option Name) → index k.version.0 ≡ None
    → Refers index w r → Refers (with_one index k) w r
refers_more index k w None none h = h
refers_more index k w (Some n) none h = (h.0, published_more index k h.0 none h.1, h.2, h.3)

-- a version follows as before
pub follows_more : (index : Index) (k a b : Known) → index k.version.0 ≡ None → Follows index a b
    → Follows (with_one index k) a b
follows_more index k a b none h =
    record { published = published_more index k b none h.published; same = h.same; rank = h.rank }

-- a store into one word leaves the others
pub elsewhere : (s : Shape) (words : List ℕ) (v w : Version) (i j y : ℕ) → i < 16 → j < 16
    → (v.0 ≢ w.0) ⊎ (i ≢ j)
    → slice_index (slice_set words (word_at s w j) y) (word_at s v i) ≡ slice_index words
    (word_at s v i)
elsewhere s words v w i j y a b n =
    get_or-set_other words (word_at s w j) (word_at s v i) y 0
    (λ e. ⊎_elim (λ (t : v.0 ≢ w.0). t (omega arith)) (λ (t : i ≢ j). t (omega arith)) n)

-- and is found there
pub written_here : (s : Shape) (words : List ℕ) (w : Version) (j y : ℕ) → length words
    ≡ word_count s
    → IsVersionOf s w → j < 16 → slice_index (slice_set words (word_at s w j) y) (word_at s w j) ≡ y
written_here s words w j y wide small low =
    get_or-set_same words (word_at s w j) y 0 (omega arith)

-- the words of a version's contents are the same
abbrev pub SameBody : Shape → List ℕ → List ℕ → Version → Type 0
SameBody s words words' v = (i : ℕ) → 0 < i → i < 16
    → slice_index words' (word_at s v i) ≡ slice_index words (word_at s v i)

pub contents_same : (s : Shape) (index : Index) (words words' : List ℕ) (k : Known)
    → SameBody s words words' k.version → HasContents s index words k → HasContents s index words' k
contents_same s index words words' k same h = record {
  stamp = same 1 (omega arith) (omega arith) ∙ h.stamp;
  refs = λ i low. subst (λ (w : ℕ). Refers index w (reference_at k.contents i))
      (sym (same (2 + i) (omega arith) (omega arith))) (h.refs i low);
  numbers = λ i low. same (6 + i) (omega arith) (omega arith) ∙ h.numbers i low;
}

pub contents_more : (s : Shape) (index : Index) (words : List ℕ) (k m : Known) → index k.version.0
    ≡ None
    → HasContents s index words m → HasContents s (with_one index k) words m
contents_more s index words k m none h = record {
  stamp = h.stamp;
  refs = λ i low. refers_more index k (words_at s words m (2 + i)) (reference_at m.contents i) none
      (h.refs i low);
  numbers = h.numbers;
}

-- a version more, with its contents
pub true_more : (s : Shape) (index : Index) (words words' : List ℕ) (k : Known) → index k.version.0
    ≡ None
    → ((v : Version) → SameBody s words words' v) → AreTrue s words index → HasContents s index
    words k
    → AreTrue s words' (with_one index k)
true_more s index words words' k none same all one m there =
    contents_same s (with_one index k) words words' m (same m.version)
    (contents_more s index words k m none (grind (arith, published_either index k m there, all m)))

lower : (q r n i j : ℕ) → i < n → q * n + i ≡ r * n + j → Dec (r ≤ q) → r ≤ q
lower q r n i j a e (yes d) = d
lower q r n i j a e (no d) =
    let less : suc q * n ≤ r * n = mul-le-mul_right n (lt_of_not-le d) in
    absurd (omega (arith, suc-mul q n))

-- a place belongs to one row
pub same_row : (q r n i j : ℕ) → i < n → j < n → q * n + i ≡ r * n + j → q ≡ r
same_row q r n i j a b e =
    let x : r ≤ q = lower q r n i j a e (dec_le r q) in
    let y : q ≤ r = lower r q n j i b (sym e) (dec_le q r) in omega arith

-- a place in a row is below all places
pub place_small : (q rows n i : ℕ) → q < rows → i < n → q * n + i < rows * n
place_small q rows n i a b =
    let less : suc q * n ≤ rows * n = mul-le-mul_right n a in omega (arith, suc-mul q n)

pub raised_here : (count : ℕ → ℕ) (q : ℕ) → raised count q q ≡ count q + 1
raised_here count q = rw (eq-eqb q q refl) refl

pub raised_else : (count : ℕ → ℕ) (q r : ℕ) → r ≢ q → raised count q r ≡ count r
raised_else count q r n = rw (ne_eqb r q n) refl

total_above : (count : ℕ → ℕ) (q n : ℕ) → n ≤ q → total (raised count q) n ≡ total count n
total_above count q zero le = refl
total_above count q (suc n) le = grind (arith, common_steps, nat_tests, total_above count q n)

-- one more is counted once
pub total_more : (count : ℕ → ℕ) (q n : ℕ) → q < n → total (raised count q) n ≡ total count n + 1
total_more count q zero h = absurd (omega arith)
total_more count q (suc n) h =
    grind (arith, common_steps, nat_tests, total_above count q n, total_more count q n)

-- no more are counted than there is place for
pub total_small : (used : ℕ → ℕ) (n size : ℕ) → ((q : ℕ) → used q ≤ size) → total used n ≤ n * size
total_small used zero size h = omega arith
total_small used (suc n) size h =
    let a = total_small used n size h in let b = h n in omega (arith, suc-mul n size)

-- each row was filled at most once more than it was freed, so no more versions were made than the
-- limit
pub made_small : (s : Shape) (places : Places) (done : ℕ)
    → ((row : ℕ) → places.used row ≤ s.versions)
    → ((row : ℕ) → places.made row ≤ s.versions * places.freed row + places.used row)
    → ((row : ℕ) → places.freed row ≤ done) → total places.made (row_count s) ≤ rank_limit s done
made_small s places done filled made freed =
    let all = total_small places.made (row_count s) (s.versions * (done + 1))
    (λ q. let a = made q in let b = filled q in
    let c : s.versions * places.freed q ≤ s.versions * done = mul-le-mul_left s.versions
    (freed q) in
    let d : s.versions * (done + 1) ≡ s.versions * done + s.versions = omega
    (arith, mul-suc s.versions done) in
    omega arith) in
    let same : row_count s * (s.versions * (done + 1)) ≡ rank_limit s done =
    sym (mul_assoc (row_count s) s.versions (done + 1)) in omega arith

-- so no rank reaches it
pub rank_small : (s : Shape) (index : Index) (places : Places) → ArePlaced s index places.dead
    places.used
    → AreRanked s index places → (k : Known) → IsPublished index k → k.rank < rank_limit s
    places.done
rank_small s index places placed ranked k is =
    let a = ranked.ranks k is in
    let b = made_small s places places.done placed.filled ranked.made ranked.freed in omega arith

-- rows have at least the places of one
pub versions_some : (r v : ℕ) → 0 < r → v ≤ r * v
versions_some zero v low = absurd (omega arith)
versions_some (suc r) v low = omega (arith, suc-mul r v)

module _ (s : Shape) (index : Index) (places : Places) (row : ℕ) (k : Known)
    (placed : ArePlaced s index places.dead places.used)
    (below : row < row_count s) (live : places.dead row ≡ false)
    (room : places.used row < s.versions)
    (at : k.version.0 ≡ row * s.versions + places.used row) where
  abbrev used : ℕ → ℕ
  used = places.used

  -- the next place is not used
  pub fresh_place : index k.version.0 ≡ None
  fresh_place = ap index at ∙ placed.unused row (used row) below room (omega arith)

  pub fresh_small : IsVersionOf s k.version
  fresh_small = let h = place_small row (row_count s) s.versions (used row) below room in
      omega arith

  -- a version more lies at that place
  pub placed_more : IsSizedVersion k → ArePlaced s (with_one index k) places.dead (raised used row)
  placed_more sized = record {
    numbered = λ v m is. grind (arith, common_steps, eqb_tells v k.version.0, placed.numbered v m);
    sized = λ m there. grind (arith, published_either index k m there, placed.sized m);
    fits = λ m there. let small = fresh_small in
        grind (arith, published_either index k m there, placed.fits m);
    taken = λ r i low alive little. grind
        (arith, common_steps, nat_tests, placed.taken r i low alive);
    unused = λ r i low little past. grind (
      arith,
      common_steps,
      nat_tests,
      placed.unused r i low little,
      same_row r row s.versions i (used row) little room,
    );
    empty = λ r i low little dead. grind (
      arith,
      common_steps,
      nat_tests,
      placed.empty r i low little dead,
      same_row r row s.versions i (used row) little room,
    );
    filled = λ r. let h = placed.filled r in grind (arith, common_steps, nat_tests);
  }

  -- and is counted
  pub ranked_more : AreRanked s index places → k.rank < total places.made (row_count s) + 1
      → AreRanked s (with_one index k) (places_with places row (Some k))
  ranked_more ranked rank = record {
    ranks = λ m there. let more = total_more places.made row (row_count s) below in
        grind (arith, published_either index k m there, ranked.ranks m);
    made = λ r. let h = ranked.made r in grind (arith, common_steps, nat_tests);
    freed = ranked.freed;
  }
