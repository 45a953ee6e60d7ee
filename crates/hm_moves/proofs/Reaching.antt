-- A version that is reached is published, in use, and given to nobody.
use Rattle.std.proofs.Common.{◌≡◌, ◌≢◌, ◌<◌, ◌+◌, ◌*◌, ◌/◌, ◌%◌, ℕ, suc, true, false, List, Some, None, slice_index, refl, sym, ap, ◌∙◌, subst, arith}
use Rattle.std.proofs.lemmas.Nat.{mod-mul-add, div_below}
use Rattle.hm_shape.specs.Versions.{version_count, place_of, version_at}
use Rattle.hm_shape.specs.declared.roles.Role.TheVariants.{Free}
use Rattle.hm_shape.specs.declared.shape.Shape.{Shape}
use Rattle.hm_shape.specs.declared.version.Version.{Version}
use Rattle.hm_moves.specs.Collecting.{KeepsNames, KeepsReach, Reached, held, named}
use Rattle.hm_moves.specs.Good.{Collects, row_in}
use Rattle.hm_moves.specs.Showing.{ShowsHeap, role_shown, version_shown}
use Rattle.hm_moves.proofs.Words.{HasRoom, next_version, Heap, ArePlaced, row_of, row_count, Known, Site, Part, View, PlainStore, Entry, Core, Good, Carries, PartIsGood, IsPublished, words_at, is_naming, naming_word, word_at}
use Rattle.hm_moves.proofs.Clean.{naming_field}
use Rattle.hm_moves.proofs.Live.{region_row, published_live, live_published, place_of_published}
use Rattle.hm_moves.proofs.Numbers.{row_below, row_in_place}
use Rattle.hm_rounds.specs.State.{State}
use Rattle.hm_rounds.specs.Views as rounds
use Rattle.hm_rounds.specs.Rule as rules

-- a word that names a version is one more than its number
pub naming_next : (w : Version) → naming_word (Some w) ≡ suc w.0
naming_next w = omega arith

-- a version's row is one of the rows
pub row_low : (s : Shape) (v : Version) → v.0 < version_count s → row_in s v < row_count s
row_low s v low = div_below v.0 s.versions (row_count s) (omega (arith, s.versions_fit)) low

-- and its place is that of its number
place_at : (s : Shape) (v : Version) (row i : ℕ) → i < s.versions → v.0 ≡ row * s.versions + i
    → place_of s v ≡ i
place_at s v row i low is = ap (λ (n : ℕ). n % s.versions) is ∙ mod-mul-add row s.versions i low

row_at : (s : Shape) (v : Version) (row i : ℕ) → i < s.versions → v.0 ≡ row * s.versions + i
    → row_in s v ≡ row
row_at s v row i low is = ap (λ (n : ℕ). n / s.versions) is ∙ row_in_place s row i low

module _ (s : Shape) (h : Heap) (moves : ℕ → ℕ) (x : State) (shows : ShowsHeap s h moves x)
    (rule : rules.Good x) (placed : ArePlaced s h.index h.places.dead h.places.used) where
  -- a field of a published version is one of the state
  pub word_shown : (k : Known) (i : ℕ) → IsPublished h.index k → is_naming i ≡ true
      → (f : ℕ) × (f < x.shape.fields)
      × (x.versions.word (version_shown k.version) f ≡ words_at s h.words k i)
  word_shown k i there naming =
      let f = naming_field i naming in (
        f.0,
        subst (λ (n : ℕ). f.0 < n) (ap (λ z. z.fields) (sym shows.shape)) f.1,
        shows.words k.version f.0 (placed.fits k there) f.1
            ∙ ap (λ (j : ℕ). words_at s h.words k j) f.2,
      )

  -- and what it names is published
  pub names_published : (k : Known) (i v : ℕ) → IsPublished h.index k → is_naming i ≡ true
      → words_at s h.words k i ≡ suc v → (m : Known) × IsPublished h.index m × (m.version.0 ≡ v)
  names_published k i v there naming names =
      let f = word_shown k i there naming in
      let word : x.versions.word (version_shown k.version) f.0 ≡ suc v = f.2 ∙ names in
      let some : x.versions.word (version_shown k.version) f.0 ≢ 0 = λ e. absurd (omega arith) in
      let live = rule.safe.named (version_shown k.version) f.0
      (published_live s h moves x shows rule placed k there) f.1 some in
      live_published s h moves x shows rule placed v (subst (λ (z : ℕ). rounds.Live x z) word live)

  -- a version's region has the role of its row
  pub role_in : (v : Version) → v.0 < version_count s
      → x.roles (x.shape.region (version_shown v)) ≡ role_shown (h.places.role (row_in s v))
  role_in v low = ap x.roles (region_row s h moves x shows v) ∙ shows.role (row_in s v)
      (row_low s v low)

  -- a published version lies at a used place of its row
  pub published_used : (k : Known) → IsPublished h.index k
      → place_of s k.version < h.places.used (row_in s k.version)
  published_used k there =
      let b = place_of_published s h moves x shows rule placed k there in
      let row = row_at s k.version b.0 b.1 b.3 b.4 in
      let place = place_at s k.version b.0 b.1 b.3 b.4 in
      subst (λ (n : ℕ). n < h.places.used (row_in s k.version)) (sym place)
      (subst (λ (n : ℕ). b.1 < h.places.used n) (sym row) b.5)

  -- which is not Free
  pub published_kept : (k : Known) → IsPublished h.index k → h.places.role (row_in s k.version)
      ≢ Free
  published_kept k there = λ free.
      (published_live s h moves x shows rule placed k there).not_free
      (role_in k.version (placed.fits k there) ∙ ap role_shown free)

  -- nor dead
  pub published_alive : (k : Known) → IsPublished h.index k → h.places.dead (row_in s k.version)
      ≡ false
  published_alive k there =
      let b = place_of_published s h moves x shows rule placed k there in
      ap h.places.dead (row_at s k.version b.0 b.1 b.3 b.4) ∙ b.6

module _ {U : Type 0} (lawful : U → PlainStore → Type 0) (allowed : U → PlainStore → Entry → Type 0)
    (g : Site U) (c : Core U) (good : Good lawful allowed g c) where
  abbrev s : Shape
  s = g.shape

  abbrev col : Collects g c
  col = good.collects

  abbrev placed : ArePlaced s c.heap.index c.heap.places.dead c.heap.places.used
  placed = good.heap.placed

  -- a published version names only published ones
  pub names_good : KeepsNames g.shape c.heap
  names_good = record {
    named = λ k i v there naming names.
        names_published s c.heap col.moves col.state col.heap col.rule placed k i v there naming
        names;
  }

  -- what is reached is published
  reached : (v : Version) → Reached s c v → (k : Known) × IsPublished c.heap.index k
      × (k.version ≡ v)
  reached v (held j k w p m at there) = (m, (good.parts j k w p at).hands.held m there, refl)
  reached v (named u w i r naming names) =
      let k = reached u r in
      let word : words_at s c.heap.words k.0 i ≡ suc w.0 =
      ap (λ (z : Version). slice_index c.heap.words (word_at s z i)) k.2
      ∙ (names ∙ naming_next w) in
      let m = names_published s c.heap col.moves col.state col.heap col.rule placed k.0 i w.0 k.1
      naming
      word in
      (m.0, m.1, λ j. record { 0 = m.2 j })

  -- a caller's next version is not published
  next_unused : (p : Part U) (h : Heap) (seen : List Entry) → PartIsGood g h seen p
      → ArePlaced s h.index h.places.dead h.places.used → HasRoom p → h.index (next_version p).0
      ≡ None
  next_unused p h seen mine are room =
      let low : p.draft.used < s.versions =
      subst (λ (z : Site U). p.draft.used < z.shape.versions) mine.site room in
      ap (λ (z : Site U). h.index (version_at z.shape p.number p.draft.region p.draft.used).0)
      mine.site
      ∙ are.unused (row_of s p.number p.draft.region) p.draft.used
      (row_below s p.number p.draft.region mine.number mine.draft.region) low
      (let is = mine.draft.used in omega arith)

  -- so no reached version is that
  reached_given : (v : Version) (j k : ℕ) (w : View U) (p : Part U) → Reached s c v
      → Carries c.views j k w p → HasRoom p → v ≢ next_version p
  reached_given v j k w p r at room = λ e.
      let m = reached v r in
      let none = next_unused p c.heap w.seen (good.parts j k w p at) placed room in
      let same : c.heap.index m.0.version.0 ≡ None =
      ap (λ (z : Version). c.heap.index z.0) (m.2 ∙ e) ∙ none in
      let both : Some m.0 ≡ None = sym m.1 ∙ same in cc

  -- and it is in use, and given to nobody
  pub reach_good : KeepsReach g.shape c
  reach_good = record {
    published = reached;
    used = λ v r. let m = reached v r in
        subst (λ (z : Version). place_of s z < c.heap.places.used (row_in s z)) m.2
        (published_used s c.heap col.moves col.state col.heap col.rule placed m.0 m.1);
    not_free = λ v r. let m = reached v r in
        subst (λ (z : Version). c.heap.places.role (row_in s z) ≢ Free) m.2
        (published_kept s c.heap col.moves col.state col.heap col.rule placed m.0 m.1);
    not_dead = λ v r. let m = reached v r in
        subst (λ (z : Version). c.heap.places.dead (row_in s z) ≡ false) m.2
        (published_alive s c.heap col.moves col.state col.heap col.rule placed m.0 m.1);
    given = reached_given;
  }
