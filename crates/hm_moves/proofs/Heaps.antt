-- What a caller may rely on in a good heap, and what an entry or an own word more leaves of it.
use Rattle.std.proofs.Common.{◌≡◌, ◌<◌, ◌+◌, ◌*◌, ℕ, List, [], ◌∷◌, ◌++◌, set, slice_index, slice_set, Option, Some, None, Contains, sym, ap, ◌∙◌, subst, arith, inl, ⊎_elim, append-nil, length-set, IfSome}
use Rattle.hm_moves.proofs.Words.{set-get_or, Shape, Version, IsVersionOf, word_at, Name, Entry, PlainStore, contents_of, IsThere, Stands, caller_of, effect_of, store_of, IsLawful, UsageLaws}
use Rattle.hm_moves.proofs.Words.{store_after-append, Known, Part, Act, Looks, Builds, Heap, row_count, places_with, IsPublished, HasContents, Refers, IsLinked, AreChained}
use Rattle.hm_moves.proofs.Words.{reference_at, link_of, next_version, word_of, listed, row_of_part, Spells, IsWritten, IsBuilt, MayLookInto, IsKnownName, HasRoom, HeapIsGood, PartIsGood}
use Rattle.hm_moves.proofs.Histories.{below_more, lawful_with}
use Rattle.hm_moves.proofs.Placed.{place_small, elsewhere, contents_same}
use Rattle.hm_moves.proofs.Chains.{chained_beside}
use Rattle.hm_moves.proofs.Words.{becomes, index_with, publishes, entry_of, HoldsClean, IsLaterThan, Ticks, Shifts}

-- a look and a build do all that they do by what they find, publish and let go of
abbrev pub IsWork : Act → Type 0
IsWork (Looks l) = Unit {0}
IsWork (Builds b) = Unit {0}
IsWork (Ticks t) = ⊥
IsWork (Shifts f) = ⊥

-- the heap after what is found and published
abbrev pub heap_worked : {U : Type 0} → Heap → Part U → Act → ℕ → Heap
heap_worked h p act x = record {
  words = slice_set h.words (word_of p act) (becomes act x);
  index = index_with h.index (publishes act x);
  places = places_with h.places (row_of_part p) (publishes act x);
  history = h.history ++ listed (entry_of p.number act x);
}

-- a word that becomes what it was
pub same_word : (words : List ℕ) (w x : ℕ) → x ≡ slice_index words w → set words w x ≡ words
same_word words w x e = ap (λ (y : ℕ). set words w y) e ∙ set-get_or words w 0

module _ {U : Type 0} (h : Heap) (seen : List Entry) (p : Part U)
    (mine : PartIsGood p.site h seen p) where
  abbrev shape : Shape
  shape = p.site.shape

  -- what a caller may look into is published
  pub look_published : (k : Known) → MayLookInto p k → IsPublished h.index k
  look_published k look = ⊎_elim (λ (c : Contains p.hands.held k). mine.hands.held k c)
      (λ (c : Contains p.hands.own k).
      (mine.hands.own k c).published) look

  -- its region is one of the rows
  pub row_below : row_of_part p < row_count shape
  row_below = place_small p.number shape.callers shape.regions p.draft.region mine.number
      mine.draft.region

  pub room_left : HasRoom p → h.places.used (row_of_part p) < shape.versions
  room_left room = let a = mine.draft.used in omega arith

  -- and its next version lies at the first place that is not used
  pub next_at : (next_version p).0 ≡ row_of_part p * shape.versions + h.places.used (row_of_part p)
  next_at = ap (λ (i : ℕ). row_of_part p * shape.versions + i) mine.draft.used

module _ {U : Type 0} (lawful : U → PlainStore → Type 0) (allowed : U → PlainStore → Entry → Type 0)
    (h : Heap) (seen : List Entry) (p : Part U) (good : HeapIsGood lawful allowed p.site h)
    (mine : PartIsGood p.site h seen p) where
  -- the next version is not published
  pub next_none : HasRoom p → h.index (next_version p).0 ≡ None
  next_none room = ap h.index (next_at h seen p mine)
      ∙ good.placed.unused (row_of_part p) (h.places.used (row_of_part p)) (row_below h seen p mine)
      (room_left h seen p mine room) (omega arith)

  pub fresh_none : (k : Known) → HasRoom p → k.version ≡ next_version p → h.index k.version.0 ≡ None
  fresh_none k room at = ap (λ (v : Version). h.index v.0) at ∙ next_none room

  pub next_small : HasRoom p → IsVersionOf p.site.shape (next_version p)
  next_small room =
      let a = place_small (row_of_part p) (row_count p.site.shape) p.site.shape.versions
      (h.places.used (row_of_part p))
      (row_below h seen p mine) (room_left h seen p mine room) in
      let b = next_at h seen p mine in omega arith

  -- an object that the caller knows is there
  pub known_there : (n : Name) → IsKnownName p n → IsThere (store_of h.history) n
  known_there n k =
      subst (IsThere (store_of h.history)) k.2
      (good.chained.there k.0 (look_published h seen p mine k.0 k.1))

  -- the last version has the present contents
  pub present_at : (at : Known) → MayLookInto p at → 0 ≡ link_of p.site.shape h.words at
      → contents_of (store_of h.history) at.name ≡ Some at.contents
  present_at at look zero_link = subst (IsLinked h.index (store_of h.history) at) (sym zero_link)
      (good.chained.link at (look_published h seen p mine at look))

module _ {U : Type 0} (lawful : U → PlainStore → Type 0) (allowed : U → PlainStore → Entry → Type 0)
    (laws : (u : U) → UsageLaws (lawful u) (allowed u)) (h : Heap) (seen : List Entry) (p : Part U)
    (good : HeapIsGood lawful allowed p.site h) (mine : PartIsGood p.site h seen p) where
  abbrev store : PlainStore
  store = store_of h.history

  abbrev s : Shape
  s = p.site.shape

  abbrev Kept : Heap → Type 0
  Kept t = HeapIsGood lawful allowed p.site t

  -- names that the entry may give are those that are there
  abbrev known : Name → Type 0
  known = IsThere store

  -- it is allowed where it stands
  abbrev make : Entry → Type 0
  make e = Stands store e → allowed p.site.usage store e

  -- the words say what is clean, and what is later
  abbrev clean : Type 0
  clean = HoldsClean h.words p

  abbrev later : Known → ℕ → Known → Type 0
  later = IsLaterThan p.site.shape h

  pub store_one : (e : Entry) → store_of (h.history ++ e ∷ []) ≡ effect_of store e
  store_one e = store_after-append [] h.history (e ∷ [])

  there : (at : Known) → MayLookInto p at → IsPublished h.index at
  there at look = look_published h seen p mine at look

  pub history_with : (e : Entry) → make e
      → Stands store e
      → IsLawful (lawful p.site.usage) (allowed p.site.usage) p.site.start (h.history ++ e ∷ [])
  history_with e may stands =
      lawful_with (lawful p.site.usage) (allowed p.site.usage) (laws p.site.usage) p.site.start
      h.history e
      good.history
      record { store = good.history.now; stands = stands; entry = may stands }

  -- words are put in, where all else stays
  abbrev rewritten : List ℕ → Heap
  rewritten words = record h { words = words }

  -- and entries are made, where all else stays
  abbrev entered : List Entry → Heap
  entered es = record h { history = h.history ++ es }

  -- an entry is made that leaves the store, or none
  pub read : (o : Option Entry) → IfSome o make
      → IfSome o (λ e. Stands store e × (effect_of store e ≡ store) × (caller_of e ≡ p.number))
      → Kept (entered (listed o))
  read None may stands = subst (λ (l : List Entry). Kept (record h { history = l }))
      (sym (append-nil h.history)) good
  read (Some e) may stands =
      let same : store_of (h.history ++ e ∷ []) ≡ store = store_one e ∙ stands.1 in
      record {
        wide = good.wide;
        placed = good.placed;
        ranked = good.ranked;
        contents = good.contents;
        chained = subst (AreChained s h.words h.index) (sym same) good.chained;
        history = history_with e may stands.0;
        callers = below_more s.callers p.number h.history (Some e) stands.2 mine.number
            good.callers;
      }

  -- a word of the next version is stored
  pub wrote : (i word : ℕ) → i < 16 → HasRoom p
      → Kept (rewritten (slice_set h.words (word_at s (next_version p) i) word))
  wrote i word low room =
      let words : List ℕ = slice_set h.words (word_at s (next_version p) i) word in
      let beside : (k : Known) (j : ℕ) → IsPublished h.index k → j < 16
      → slice_index words (word_at s k.version j) ≡ slice_index h.words (word_at s k.version j) =
      λ k j is small. elsewhere s h.words k.version (next_version p) j i word small low
      (inl (λ e. let both : Some k ≡ None = sym is ∙
      (ap h.index e ∙ next_none lawful allowed h seen p good mine room) in cc)) in
      record {
        wide = length-set h.words (word_at s (next_version p) i) word ∙ good.wide;
        placed = good.placed;
        ranked = good.ranked;
        contents = λ k is. contents_same s h.index h.words words k
            (λ j some small. beside k j is small)
            (good.contents k is);
        chained = chained_beside s h.words words h.index store (λ k is. beside k 0 is (omega arith))
            good.chained;
        history = good.history;
        callers = good.callers;
      }

  spelled : (w : ℕ) (r : Option Name) → Spells p.hands.held w r → Refers h.index w r
  spelled w None e = e
  spelled w (Some n) e = (e.0, mine.hands.held e.0 e.1, e.2, e.3)

  -- what is built is in the words
  pub built : (k : Known) → HasRoom p → k.version ≡ next_version p
      → IsBuilt p.hands.held p.draft.written k.contents → HasContents s h.index h.words k
  built k room at b =
      let word : (j w : ℕ) → IsWritten p.draft.written j w
      → slice_index h.words (word_at s k.version j) ≡ w =
      λ j w is. ap (λ (v : Version). slice_index h.words (word_at s v j)) at ∙ mine.draft.written
      room j w is
      in
      record {
        stamp = word 1 k.contents.stamp b.stamp;
        refs = λ i low. let r = b.refs i low in
            subst (λ (w : ℕ). Refers h.index w (reference_at k.contents i))
            (sym (word (2 + i) r.0 r.1))
            (spelled r.0 (reference_at k.contents i) r.2);
        numbers = λ i low. word (6 + i) (slice_index k.contents.numbers i) (b.numbers i low);
      }

  pub own_place : (k : Known) → k.version ≡ next_version p
      → k.version.0 ≡ row_of_part p * s.versions + h.places.used (row_of_part p)
  own_place k at = ap (λ (v : Version). v.0) at ∙ next_at h seen p mine
