-- Versions that die leave the index, and what stays is as good as before.
use Rattle.std.proofs.Common.{◌≡◌, ◌<◌, ◌≤◌, ◌+◌, ◌*◌, ◌/◌, ℕ, zero, suc, Bool, true, false, not, subst, ◌||◌, ◌&&◌, List, Option, Some, None, Contains, refl, sym, ap, ◌∙◌, arith, mul-suc, mul-le-mul_left, if◌then◌else◌}
use Rattle.hm_moves.proofs.Words.{IsFit, rank_limit, version_count, nat_tests, common_steps, Shape, Version, IsVersionOf, IsAt, naming_word, Name, PlainStore, Index, IsPublished, Refers, reference_at, HasContents, AreTrue, words_at, link_of, IsLinked, AreChained, is_naming, Places, ArePlaced, AreRanked, IsOwn, AreIndexed, row_of, row_count, Heap, Known, Entry}
use Rattle.hm_shape.specs.declared.roles.Role.{Role}
use Rattle.hm_shape.specs.declared.roles.Role.TheVariants.{Free, To, Old, From}
use Rattle.hm_moves.specs.declared.part.Hands.{Hands}
use Rattle.hm_moves.specs.Ends.{Links}
use Rattle.hm_moves.specs.Good.{row_in}
use Rattle.hm_moves.specs.After.{without_from, with_dead}
use Rattle.hm_moves.specs.Cycles.{is_from, is_kept, field_count, field_word}
use Rattle.hm_moves.specs.Showing.{ShowsHeap, version_shown}
use Rattle.hm_rounds.specs.State.{State}
use Rattle.hm_rounds.specs.Views.{Live}
use Rattle.hm_rounds.specs.Rule as rounds
use Rattle.hm_moves.proofs.Numbers.{row_in_place}
use Rattle.hm_moves.proofs.Live.{published_live, live_published}

-- versions die by their numbers, and one stays where it is published and does not die
pub record Stays (dies : ℕ → Bool) (index : Index) (k : Known) : Type 0 where
  pub published : IsPublished index k
  pub lives : dies k.version.0 ≡ false

-- those that die leave the index
abbrev pub index_without : (ℕ → Bool) → Index → Index
index_without dies index v = if dies v then None else index v

-- none of these versions dies
abbrev pub NoneDies : (ℕ → Bool) → List Known → Type 0
NoneDies dies ks = (k : Known) → Contains ks k → dies k.version.0 ≡ false

-- no version that stays names one that dies, by its link or by a reference
abbrev pub NoneNamed : Shape → List ℕ → Index → (ℕ → Bool) → Type 0
NoneNamed s words index dies = (k m : Known) (i : ℕ) → Stays dies index k → IsPublished index m
    → is_naming i ≡ true → words_at s words k i ≡ naming_word (Some m.version)
    → dies m.version.0 ≡ false

-- the versions of the rows that are gone die, and no others
abbrev pub DieByRows : Shape → (ℕ → Bool) → (ℕ → Bool) → Type 0
DieByRows s dies gone = (row i : ℕ) → row < row_count s → i < s.versions
    → dies (row * s.versions + i) ≡ gone row

module _ (dies : ℕ → Bool) (index : Index) where
  -- a version that stays is published still
  pub stays_published : (k : Known) → Stays dies index k → IsPublished (index_without dies index) k
  stays_published k stays = rw stays.lives stays.published

  -- what is known of a number still was known of it, and it does not die
  pub known_stays : (v : ℕ) (k : Known) → index_without dies index v ≡ Some k
      → (index v ≡ Some k) × (dies v ≡ false)
  known_stays v k there = grind (arith, common_steps)

  -- and what is published still has stayed
  pub published_stays : (k : Known) → IsPublished (index_without dies index) k → Stays dies index k
  published_stays k there =
      let both = known_stays k.version.0 k there in record { published = both.0; lives = both.1 }

-- link and references are words that name
naming_reference : (i : ℕ) → i < 4 → is_naming (2 + i) ≡ true
naming_reference i low = grind (arith, common_steps, nat_tests)

-- a word refers as before, where it names no version that dies
refers_without : (dies : ℕ → Bool) (index : Index) (w : ℕ) (r : Option Name)
    → ((m : Known) → IsPublished index m → w ≡ naming_word (Some m.version) → dies m.version.0
    ≡ false)
    → Refers index w r → Refers (index_without dies index) w r
refers_without dies index w None lives h = h
refers_without dies index w (Some n) lives h = (
  h.0,
  stays_published dies index h.0 record { published = h.1; lives = lives h.0 h.1 h.2 },
  h.2,
  h.3,
)

module _ (s : Shape) (words : List ℕ) (index : Index) (dies : ℕ → Bool)
    (none : NoneNamed s words index dies) where
  -- a version that stays has its contents
  pub contents_without : (k : Known) → Stays dies index k → HasContents s index words k
      → HasContents s (index_without dies index) words k
  contents_without k stays h = record {
    stamp = h.stamp;
    refs = λ i low. refers_without dies index (words_at s words k (2 + i))
        (reference_at k.contents i)
        (λ m there e. none k m (2 + i) stays there (naming_reference i low) e) (h.refs i low);
    numbers = h.numbers;
  }

  -- so words and index are true still
  pub true_without : AreTrue s words index → AreTrue s words (index_without dies index)
  true_without true_before k there =
      let stays = published_stays dies index k there in
      contents_without k stays (true_before k stays.published)

  -- a version that stays is linked as before
  linked_without : (store : PlainStore) (k : Known) → Stays dies index k → (x : ℕ) → link_of s words
      k ≡ x
      → IsLinked index store k x → IsLinked (index_without dies index) store k x
  linked_without store k stays zero e h = h
  linked_without store k stays (suc v) e h =
      let is : link_of s words k ≡ naming_word (Some h.0.version) = e
      ∙ (let n = h.1 in omega arith) in
      let lives = none k h.0 0 stays h.2.published refl is in (
        h.0,
        h.1,
        record {
          published = stays_published dies index h.0
              record { published = h.2.published; lives = lives };
          same = h.2.same;
          rank = h.2.rank;
        },
      )

  -- and chains are chains still
  pub chained_without : (store : PlainStore) → AreChained s words index store
      → AreChained s words (index_without dies index) store
  chained_without store h =
      let was : (k : Known) → IsPublished (index_without dies index) k → IsPublished index k =
      λ k there. (published_stays dies index k there).published in
      record {
        there = λ k p. h.there k (was k p);
        link = λ k p. linked_without store k (published_stays dies index k p) (link_of s words k)
            refl
            (h.link k (was k p));
        top = λ k m p q e z. h.top k m (was k p) (was m q) e z;
        apart = λ k m p q e z. h.apart k m (was k p) (was m q) e z;
      }

-- the links behind a version that stays lead where they led
pub links_without : (s : Shape) (h : Heap) (dies : ℕ → Bool) → NoneNamed s h.words h.index dies
    → (n : ℕ)
    → (k last : Known) → Stays dies h.index k → Links s h n k last
    → Links s (record h { index = index_without dies h.index }) n k last
links_without s h dies none zero k last stays l = l
links_without s h dies none (suc n) k last stays l =
    let next : Stays dies h.index l.0 =
    record { published = l.1; lives = none k l.0 0 stays l.1 refl l.2 } in (
      l.0,
      stays_published dies h.index l.0 next,
      l.2,
      links_without s h dies none n l.0 last next
          l.3,
    )

-- where rows die their places still count as used, more rows are dead, and all else stays
pub placed_still : (s : Shape) (index : Index) (dies dead more : ℕ → Bool) → DieByRows s dies more
    → (used : ℕ → ℕ) → ArePlaced s index dead used
    → ArePlaced s (index_without dies index) (λ row. dead row || more row) used
placed_still s index dies dead more rows used h = record {
  numbered = λ v k there. h.numbered v k (known_stays dies index v k there).0;
  fits = λ k there. h.fits k (published_stays dies index k there).published;
  sized = λ k there. h.sized k (published_stays dies index k there).published;
  taken = λ row i low lives little.
      let full = h.filled row in
      let together = rows row i low (omega arith) in
      grind (arith, common_steps, h.taken row i low);
  unused = λ row i low small past.
      let none = h.unused row i low small past in grind (arith, common_steps);
  empty = λ row i low small is.
      let together = rows row i low small in
      grind (arith, common_steps, h.empty row i low small);
  filled = h.filled;
}

-- and dead rows may be emptied
pub placed_freed : (s : Shape) (index : Index) (dead freed : ℕ → Bool) (used : ℕ → ℕ)
    → ((row : ℕ) → freed row ≡ true → dead row ≡ true) → ArePlaced s index dead used
    → ArePlaced s index (λ row. dead row && not (freed row))
    (λ row. if freed row then 0 else used row)
placed_freed s index dead freed used was h = record {
  numbered = h.numbered;
  fits = h.fits;
  sized = h.sized;
  taken = λ row i low lives little. grind (arith, common_steps, nat_tests, h.taken row i low);
  unused = λ row i low small past. grind (
    arith,
    common_steps,
    nat_tests,
    h.unused row i low small,
    h.empty row i low small,
    was row,
  );
  empty = λ row i low small is. grind (arith, common_steps, h.empty row i low small);
  filled = λ row. let full = h.filled row in grind (arith, common_steps, nat_tests);
}

-- ranks stay as they are where some die
pub ranked_still : (s : Shape) (index : Index) (dies : ℕ → Bool) (ends : Bool) (places : Places)
    → AreRanked s index places → AreRanked s (index_without dies index) (with_dead ends places)
ranked_still s index dies ends places h = record {
  ranks = λ k there. h.ranks k (published_stays dies index k there).published;
  made = h.made;
  freed = λ row. let low = h.freed row in grind (arith, common_steps);
}

-- the limit on ranks grows with the cycles that are done, so what fits does so later
pub fits_later : (s : Shape) (done later : ℕ) (k : Known) → done ≤ later → IsFit s done k
    → IsFit s later k
fits_later s done later k more fit =
    let low : done + 1 ≤ later + 1 = omega arith in
    let grows : rank_limit s done ≤ rank_limit s later = mul-le-mul_left (version_count s) low in
    let rank = fit.rank in record { version = fit.version; rank = omega arith; sized = fit.sized }

-- a row that counts as freed once more may be filled once more
pub freed_once : (versions made freed used : ℕ) → used ≤ versions → made ≤ versions * freed + used
    → made ≤ versions * (freed + 1) + 0
freed_once versions made freed used full low =
    let more : versions * (freed + 1) ≡ versions * freed + versions = omega
    (arith, mul-suc versions freed) in
    omega arith

-- a region that is kept is not From
kept_not_from : (role : Role) → is_kept role ≡ true → is_from role ≡ false
kept_not_from Free e = refl
kept_not_from To e = refl
kept_not_from Old e = refl
kept_not_from From e = cc

-- a role that is tested as From is From
pub from_is : (role : Role) → is_from role ≡ true → role ≡ From
from_is Free e = cc
from_is To e = cc
from_is Old e = cc
from_is From e = refl

-- where a row was not dead and dies not, it is not dead
dead_parts : (a b : Bool) → (a || b) ≡ false → (a ≡ false) × (b ≡ false)
dead_parts a b e = grind arith

-- where a version lies, its number says its row
pub row_of_at : (s : Shape) (v : Version) (q region place : ℕ) → IsAt s v q region place
    → row_in s v ≡ row_of s q region
row_of_at s v q region place at =
    ap (λ (w : Version). w.0 / s.versions) at.number
    ∙ row_in_place s (row_of s q region) place at.place_fits

-- a word that names is the link or a reference: a field
pub field_named : (i : ℕ) → is_naming i ≡ true → (f : ℕ) × (f < field_count) × (field_word f ≡ i)
field_named zero e = (0, omega arith, refl)
field_named (suc zero) e = cc
field_named (suc (suc j)) e =
    let low : j < 4 = grind (arith, common_steps, nat_tests) in (suc j, omega arith, omega arith)

module _ (s : Shape) (q : ℕ) (index : Index) where
  -- a version that stays is its caller's own still
  pub own_stays : (dies : ℕ → Bool) (k : Known) → dies k.version.0 ≡ false → IsOwn s q index k
      → IsOwn s q (index_without dies index) k
  own_stays dies k lives own = record {
    published = stays_published dies index k record { published = own.published; lives = lives };
    region = own.region;
    place = own.place;
    at = own.at;
  }

  -- and what is its own still was so before
  pub own_was : (dies : ℕ → Bool) (k : Known) → IsOwn s q (index_without dies index) k
      → IsOwn s q index k
  own_was dies k own = record {
    published = (published_stays dies index k own.published).published;
    region = own.region;
    place = own.place;
    at = own.at;
  }

-- as a cycle ends the versions of From rows die
abbrev pub dies_from : Bool → Shape → Places → ℕ → Bool
dies_from ends s places v = ends && is_from (places.role (v / s.versions))

-- whole rows die
pub from_rows : (ends : Bool) (s : Shape) (places : Places)
    → DieByRows s (dies_from ends s places) (λ row. ends && is_from (places.role row))
from_rows ends s places row i low small =
    ap (λ (r : ℕ). ends && is_from (places.role r)) (row_in_place s row i small)

-- the rows of its own are kept, so none of them dies
pub own_lives : (ends : Bool) (s : Shape) (places : Places) (k : Known)
    → is_kept (places.role (row_in s k.version)) ≡ true → dies_from ends s places k.version.0
    ≡ false
own_lives ends s places k kept =
    let no = kept_not_from (places.role (row_in s k.version)) kept in grind arith

-- the hands of a caller that holds none that dies stay, with the dead ones among what it left
-- behind
pub hands_still : (s : Shape) (q : ℕ) (index : Index) (places : Places) (ends : Bool)
    (hands : Hands)
    → NoneDies (dies_from ends s places) hands.held → AreIndexed s q index places hands
    → AreIndexed s q (without_from ends s places index) (with_dead ends places) hands
hands_still s q index places ends hands held h =
    let dies : ℕ → Bool = dies_from ends s places in record {
      held = λ k there.
          stays_published dies index k record { published = h.held k there; lives = held k there };
      own = λ k there.
          own_stays s q index dies k (own_lives ends s places k (h.kept k there)) (h.own k there);
      kept = h.kept;
      left = h.left;
      given = h.given;
      alive = λ k there lives.
          let both = dead_parts (places.dead (row_in s k.version)) (dies k.version.0) lives in
          stays_published dies index k
          record { published = h.alive k there both.0; lives = both.1 };
      all = λ k mine. h.all k (own_was s q index dies k mine);
      once = h.once;
    }

-- a heap as a cycle may end, with other words and another history
abbrev pub ended : Shape → Heap → Bool → List ℕ → List Entry → Heap
ended s h ends words history = record {
  words = words;
  index = without_from ends s h.places h.index;
  places = with_dead ends h.places;
  history = history;
}

-- published versions lie in the used places of the rows that are not dead
pub placed_ended : (s : Shape) (h : Heap) (ends : Bool) → ArePlaced s h.index h.places.dead
    h.places.used
    → ArePlaced s (without_from ends s h.places h.index) (with_dead ends h.places).dead
    h.places.used
placed_ended s h ends placed =
    placed_still s h.index (dies_from ends s h.places) h.places.dead
    (λ row. ends && is_from (h.places.role row)) (from_rows ends s h.places) h.places.used placed

module _ (s : Shape) (h : Heap) (ends : Bool) (words : List ℕ) (history : List Entry)
    (placed : ArePlaced s h.index h.places.dead h.places.used) (moves : ℕ → ℕ) (y : State)
    (shows : ShowsHeap s (ended s h ends words history) moves y) (rule : rounds.Good y) where
  abbrev dies : ℕ → Bool
  dies = dies_from ends s h.places

  abbrev now : Heap
  now = ended s h ends words history

  placed_now : ArePlaced s now.index now.places.dead now.places.used
  placed_now = placed_ended s h ends placed

  -- what is live then has not died
  live_stays : (v : ℕ) → Live y (suc v) → dies v ≡ false
  live_stays v live =
      let k = live_published s now moves y shows rule placed_now v live in
      ap dies (sym k.2) ∙ (published_stays dies h.index k.0 k.1).lives

  -- what a live version names is live
  named_live : (k : Known) (w i : ℕ) → IsVersionOf s k.version → Live y (version_shown k.version)
      → is_naming i ≡ true → words_at s words k i ≡ suc w → Live y (suc w)
  named_live k w i low live naming named =
      let f = field_named i naming in
      let is : y.versions.word (version_shown k.version) f.0 ≡ suc w =
      shows.words k.version f.0 low f.1 ∙ (ap (words_at s words k) f.2 ∙ named) in
      subst (Live y) is
      (rule.safe.named (version_shown k.version) f.0 live
      (subst (λ z. f.0 < z.fields) (sym shows.shape) f.1)
      (λ e. let no : suc w ≡ 0 = sym is ∙ e in omega arith))

  -- so no version that stays names one that dies
  pub none_named : NoneNamed s words h.index dies
  none_named k m i stays there naming named =
      let live = published_live s now moves y shows rule placed_now k
      (stays_published dies h.index k stays) in
      live_stays m.version.0
      (named_live k m.version.0 i (placed.fits k stays.published) live naming (named ∙ omega arith))

  -- and none dies that a caller holds
  pub none_held : (q : ℕ) (held : List Known) → q < s.callers
      → ((k : Known) → Contains held k → y.hands.held q (version_shown k.version) ≡ true)
      → NoneDies dies held
  none_held q held few shown k there =
      live_stays k.version.0
      (rule.safe.held q (version_shown k.version) (subst (λ z. q < z.callers) (sym shows.shape) few)
      (shown k there))

  -- so contents are true, chains are chains, and links lead where they led
  pub true_ended : AreTrue s words h.index → AreTrue s words (without_from ends s h.places h.index)
  true_ended was = true_without s words h.index dies none_named was

  pub chained_ended : (store : PlainStore) → AreChained s words h.index store
      → AreChained s words (without_from ends s h.places h.index) store
  chained_ended store was =
      chained_without s words h.index dies none_named store was
