-- What a look or a build leaves of the caller that makes it.
use Rattle.std.proofs.Common.{◌≡◌, ◌≢◌, ◌⊎◌, ◌||◌, ◌<◌, ◌+◌, ◌*◌, ℕ, zero, suc, true, List, [], ◌∷◌, ◌++◌, length, set, slice_index, slice_set, Option, Some, None, IfSome, Contains, refl, sym, ap, ◌∙◌, subst, arith, inl, append-nil, length-set, get_or-set_same, get_or-set_other, append_assoc, false, ne_eqb, Bool, ◌||◌}
use Rattle.hm_moves.proofs.Words.{Contains-push, Contains-append_left, Shape, Version, version_at, word_at, Name, Entry, PlainStore, calls_of, opening_of, IsLawful, Known, Part, Act, Looks, Builds, list_any, StoreOwn, Publish, LinkStore, Move, Heap, Places, IsOwn, places_with, IsPublished, Index, next_version, word_of}
use Rattle.hm_moves.proofs.Words.{becomes, entry_of, publishes, finds, listed, index_with, row_of_part, count_of, is_naming, written_with, without, with_held, hands_after, seen_after, is_version, IsWritten, Names, HasRoom, IsWritable, MayTake, Begins, HeapIsGood, PartIsGood, AreIndexed, AreApart, published_of}
use Rattle.hm_moves.proofs.Histories.{IsBy, calls_after, begins_more, begins_on, begins_self, lawful_before}
use Rattle.hm_moves.proofs.Placed.{published_either, raised_here, elsewhere, written_here, raised_here, not_the_one}
use Rattle.hm_moves.proofs.Held.{listed_cases, from_some, held_cases, held_stays, without_held, none_written, written_low, unnamed_wide, unnamed_was, names_without, names_more, contains_here, contains_behind}
use Rattle.hm_moves.proofs.Heaps.{same_word, next_small}
use Rattle.hm_moves.proofs.Finding.{next_now, index_more, index_here, entry_by, fresh_now, found_now}
use Rattle.std.proofs.lemmas.List.Folds.{list_any-append}
use Rattle.std.proofs.Common.{◌/◌, ⊎_elim}
use Rattle.hm_moves.proofs.Words.{naming_word}
use Rattle.std.proofs.lemmas.List.Elements.{Contains-append_cases}
use Rattle.std.proofs.lemmas.Nat.{div-mul-add}
use Rattle.hm_shape.specs.declared.roles.Role.TheVariants.{To, From}
use Rattle.hm_moves.specs.Good.{row_in}
use Rattle.hm_moves.specs.After.{worked}
use Rattle.hm_moves.proofs.Words.{Shorten, Ticks, Shifts, is_kept}
use Rattle.hm_moves.proofs.Shorter.{naming_low}
use Rattle.hm_moves.proofs.Heaps.{IsWork, heap_worked, next_none, fresh_none}

plus_none : (n : ℕ) → n + 0 ≡ n
plus_none n = omega arith

-- the row of a place
row_of_place : (row n i : ℕ) → i < n → (row * n + i) / n ≡ row
row_of_place row n i low = div-mul-add row n i low

-- versions stay apart where one comes behind them that has another number than each
apart_with : (l : List Known) (o : Option Known) → AreApart l
    → ((k n : Known) → Contains l k → o ≡ Some n → k.version.0 ≢ n.version.0)
    → AreApart (l ++ listed o)
apart_with [] None h f = tt
apart_with [] (Some n) h f = (refl, tt)
apart_with (k ∷ ks) o h f = (
  list_any-append (is_version k) ks (listed o)
      ∙ (ap (λ (b : Bool). b || list_any (is_version k) (listed o)) h.0
      ∙ none_else o (λ n. f k n (contains_here k k ks refl))),
  apart_with ks o h.1 (λ m n there. f m n (contains_behind m k ks there)),
)
  where
    none_else : (r : Option Known) → ((n : Known) → r ≡ Some n → k.version.0 ≢ n.version.0)
        → list_any (is_version k) (listed r) ≡ false
    none_else None g = refl
    none_else (Some n) g = rw (ne_eqb n.version.0 k.version.0 (λ e. g n refl (sym e))) refl

module _ {U : Type 0} (lawful : U → PlainStore → Type 0) (allowed : U → PlainStore → Entry → Type 0)
    (h : Heap) (seen : List Entry) (p : Part U) (good : HeapIsGood lawful allowed p.site h)
    (mine : PartIsGood p.site h seen p) (names : Name → Type 0) (make : Entry → Type 0)
    (clean : Type 0)
    (later : Known → ℕ → Known → Type 0) where
  abbrev s : Shape
  s = p.site.shape

  abbrev May : Act → Type 0
  May act = MayTake names make clean later p act

  -- the word of the next version, if so many places are used
  abbrev own_word : List ℕ → ℕ → ℕ → ℕ
  own_word words used j = slice_index words
      (word_at s (version_at s p.number p.draft.region used) j)

  -- the places afterwards
  abbrev places : Option Known → Places
  places o = places_with h.places (row_of_part p) o

  used_after : (o : Option Known) → p.draft.used + count_of o ≡ (places o).used (row_of_part p)
  used_after None = let a = mine.draft.used in omega arith
  used_after (Some k) =
      let a = mine.draft.used in let b = raised_here h.places.used (row_of_part p) in omega arith

  -- what is published changes no role, and no row is dead for it
  pub role_same : (o : Option Known) (row : ℕ) → (places o).role row ≡ h.places.role row
  role_same None row = refl
  role_same (Some k) row = refl

  pub dead_same : (o : Option Known) (row : ℕ) → (places o).dead row ≡ h.places.dead row
  dead_same None row = refl
  dead_same (Some k) row = refl

  wide_with : (act : Act) (o : Option Known) → length (written_with p.draft.written act o) ≡ 16
  wide_with act (Some k) = refl
  wide_with (Looks l) None = mine.draft.wide
  wide_with (Builds (StoreOwn i word)) None = length-set p.draft.written i (Some word)
      ∙ mine.draft.wide
  wide_with (Builds (Publish k)) None = mine.draft.wide
  wide_with (Builds (LinkStore at k o)) None = mine.draft.wide
  wide_with (Builds (Shorten at i target)) None = mine.draft.wide
  wide_with (Ticks t) None = mine.draft.wide
  wide_with (Shifts f) None = mine.draft.wide

  -- a word more is stored: it is that one, or one from before
  stored_cases : (i word j w : ℕ) → IsWritten (set p.draft.written i (Some word)) j w → i < 16
      → ((j ≡ i) × (word ≡ w)) ⊎ ((j ≢ i) × IsWritten p.draft.written j w)
  stored_cases i word j w is low = let wide = mine.draft.wide in
      grind (
        arith,
        get_or-set_same p.draft.written i (Some word) None,
        get_or-set_other p.draft.written i j (Some word) None,
      )

  -- words that were written are there still, where nothing else is moved
  as_before : (words : List ℕ) → words ≡ h.words → p.draft.used + 0 < s.versions → (j w : ℕ)
      → IsWritten p.draft.written j w → own_word words (p.draft.used + 0) j ≡ w
  as_before words e room j w is = let a = mine.draft.written (omega arith) j w is in grind arith

  one_more : (i word : ℕ) → IsWritable p i word → p.draft.used + 0 < s.versions → (j w : ℕ)
      → IsWritten (set p.draft.written i (Some word)) j w
      → own_word (slice_set h.words (word_at s (next_version p) i) word) (p.draft.used + 0) j ≡ w
  one_more i word may room j w is =
      let words : List ℕ = slice_set h.words (word_at s (next_version p) i) word in
      let small : j < 16 = written_low (set p.draft.written i (Some word)) j w
      (length-set p.draft.written i (Some word) ∙ mine.draft.wide) is in
      let low : i < 16 = may.below in
      grind (
        arith,
        stored_cases i word j w is low,
        mine.draft.written may.room j w,
        written_here s h.words (next_version p) i word good.wide
            (next_small lawful allowed h seen p good mine may.room) low,
        elsewhere s h.words (next_version p) (next_version p) j i word small low,
      )

  -- written words are in the Table
  written_after : (act : Act) → IsWork act → May act → (x : ℕ) → x ≡ slice_index h.words
      (word_of p act)
      → p.draft.used + count_of (publishes act x) < s.versions → (j w : ℕ)
      → IsWritten (written_with p.draft.written act (publishes act x)) j w
      → own_word (slice_set h.words (word_of p act) (becomes act x))
      (p.draft.used + count_of (publishes act x)) j ≡ w
  written_after (Looks l) work may x is =
      as_before (slice_set h.words (word_of p (Looks l)) x)
      (same_word h.words (word_of p (Looks l)) x is)
  written_after (Builds (StoreOwn i word)) work may x is = one_more i word may
  written_after (Builds (Publish k)) work may x is = λ room j w e. absurd (none_written j w e)
  written_after (Builds (LinkStore at k o)) work may zero is = λ room j w e. absurd
      (none_written j w e)
  written_after (Builds (LinkStore at k o)) work may (suc n) is =
      as_before (slice_set h.words (word_at s at.version 0) (suc n))
      (same_word h.words (word_at s at.version 0) (suc n) is)
  written_after (Builds (Shorten at i target)) work may x is = λ room j w e.
      elsewhere s h.words (version_at s p.number p.draft.region (p.draft.used + 0)) at.version j i
      (naming_word (Some target.version)) (written_low p.draft.written j w mine.draft.wide e)
      (naming_low i may.word)
      (inl (λ same. let none = next_none lawful allowed h seen p good mine (omega arith) in
      let there : IsPublished h.index at = (mine.hands.own at may.own).published in
      let here : (version_at s p.number p.draft.region (p.draft.used + 0)).0 ≡ (next_version p).0 =
      omega arith in
      let both : Some at ≡ None = sym there ∙ (ap h.index (sym same ∙ here) ∙ none) in cc))
      ∙ (let a = mine.draft.written (omega arith) j w e in
      let here : version_at s p.number p.draft.region (p.draft.used + 0) ≡ next_version p =
      ap (λ (u : ℕ). version_at s p.number p.draft.region u) (plus_none p.draft.used) in
      ap (λ (v : Version). slice_index h.words (word_at s v j)) here ∙ a)
  written_after (Ticks t) work may x is = absurd work
  written_after (Shifts f) work may x is = absurd work

  -- before a version is let go, the words that were written name held versions
  named_before : (act : Act) → May act → (x j w : ℕ) → is_naming j ≡ true
      → IsWritten (written_with p.draft.written act (publishes act x)) j w → Names p.hands.held w
  named_before (Looks l) may x j w n is = mine.draft.named j w n is
  named_before (Builds (StoreOwn i word)) may x j w n is =
      grind (arith, stored_cases i word j w is may.below, may.named, mine.draft.named j w n)
  named_before (Builds (Publish k)) may x j w n is = absurd (none_written j w is)
  named_before (Builds (LinkStore at k o)) may zero j w n is = absurd (none_written j w is)
  named_before (Builds (LinkStore at k o)) may (suc m) j w n is = mine.draft.named j w n is
  named_before (Builds (Shorten at i target)) may x j w n is = mine.draft.named j w n is
  named_before (Ticks t) may x j w n is = mine.draft.named j w n is
  named_before (Shifts f) may x j w n is = mine.draft.named j w n is

  -- what it has published afterwards
  abbrev listed_with : Option Known → List Known
  listed_with o = published_of p.hands ++ listed o

  -- a version that it publishes is its own
  fresh_own : (index : Index) (k : Known) → (k.version ≡ next_version p) × HasRoom p
      → IsPublished index k
      → IsOwn s p.number index k
  fresh_own index k t there = record {
    published = there;
    region = p.draft.region;
    place = p.draft.used;
    at = record {
      number = t.0;
      owner_fits = mine.number;
      region_fits = mine.draft.region;
      place_fits = t.1;
    };
  }

  -- and what was its own is so still
  pub still_own : (q : ℕ) (o : Option Known) (k : Known)
      → IfSome o (λ n. h.index n.version.0 ≡ None)
      → IsOwn s q h.index k → IsOwn s q (index_with h.index o) k
  still_own q o k fresh own = record {
    published = index_more h.index o k fresh own.published;
    region = own.region;
    place = own.place;
    at = own.at;
  }

  own_more : (o : Option Known) (k : Known) → IsOwn s p.number (index_with h.index o) k
      → Contains (listed_with o) k
  own_more None k own = subst (λ (l : List Known). Contains l k)
      (sym (append-nil (published_of p.hands)))
      (mine.hands.all k own)
  own_more (Some f) k own = grind (
    arith,
    published_either h.index f k own.published,
    Contains-push (published_of p.hands) f,
    Contains-append_left (published_of p.hands) (f ∷ []) k,
    λ (t : IsPublished h.index k). mine.hands.all k
        (record { published = t; region = own.region; place = own.place; at = own.at }),
  )

  -- the next version has another number than each that the caller has published: what it left
  -- behind lies in another row
  apart_new : (k n : Known) → Contains (published_of p.hands) k → (n.version ≡ next_version p)
      × HasRoom p
      → k.version.0 ≢ n.version.0
  apart_new k n there next e = ⊎_elim
      (λ (t : Contains p.hands.left k).
      let row : row_in s k.version ≡ row_of_part p = ap (λ (v : ℕ). v / s.versions) e
      ∙ (ap (λ (v : Version). row_in s v) next.0 ∙ row_of_place (row_of_part p) s.versions
      p.draft.used next.1) in
      let both : h.places.role (row_of_part p) ≡ From = ap h.places.role (sym row)
      ∙ mine.hands.given k t in
      let bad : From ≡ To = sym both ∙ mine.draft.to in cc)
      (λ (t : Contains p.hands.own k).
      not_the_one h.index n k (fresh_none lawful allowed h seen p good mine n next.1 next.0)
      (mine.hands.own k t).published e)
      (Contains-append_cases p.hands.left p.hands.own k there)

  -- the caller's hands afterwards have published versions
  hands_now : (m : Move) (x : ℕ) (found : Option Known)
      → IfSome (publishes m.act x) (λ k. (k.version ≡ next_version p) × HasRoom p)
      → IfSome (publishes m.act x) (λ k. h.index k.version.0 ≡ None)
      → IfSome found (IsPublished h.index)
      → AreIndexed s p.number (index_with h.index (publishes m.act x)) (places (publishes m.act x))
      (hands_after p.hands m x found)
  hands_now m x found next fresh is =
      let new : Option Known = publishes m.act x in
      let same : published_of (hands_after p.hands m x found) ≡ listed_with new =
      sym (append_assoc p.hands.left p.hands.own (listed new)) in
      record {
        held = λ k there. grind (
          arith,
          held_cases (with_held (without p.hands.held m.let_go) found) new k there,
          held_cases (without p.hands.held m.let_go) found k,
          without_held p.hands.held m.let_go k,
          mine.hands.held k,
          index_more h.index new k fresh,
          index_here h.index new k,
          from_some (IsPublished h.index) found k,
        );
        own = λ k there. ⊎_elim
            (λ (t : Contains p.hands.own k). still_own p.number new k fresh (mine.hands.own k t))
            (λ (e : new ≡ Some k). fresh_own (index_with h.index new) k
            (from_some (λ n. (n.version ≡ next_version p) × HasRoom p) new k e next)
            (index_here h.index new k e))
            (listed_cases p.hands.own new k there);
        kept = λ k there. ap is_kept (role_same new (row_in s k.version)) ∙ ⊎_elim
            (λ (t : Contains p.hands.own k). mine.hands.kept k t)
            (λ (e : new ≡ Some k).
            let f = from_some (λ n. (n.version ≡ next_version p) × HasRoom p) new k e next in
            ap (λ (r : ℕ). is_kept (h.places.role r))
            (ap (λ (v : Version). row_in s v) f.0
            ∙ row_of_place (row_of_part p) s.versions p.draft.used f.1)
            ∙ ap is_kept mine.draft.to)
            (listed_cases p.hands.own new k there);
        left = mine.hands.left;
        given = λ k there. role_same new (row_in s k.version) ∙ mine.hands.given k there;
        alive = λ k there live. index_more h.index new k fresh
            (mine.hands.alive k there (sym (dead_same new (row_in s k.version)) ∙ live));
        all = λ k own. subst (λ (l : List Known). Contains l k) (sym same) (own_more new k own);
        once = subst AreApart (sym same) (apart_with (published_of p.hands) new mine.hands.once
            (λ k n there e. apart_new k n there
            (from_some (λ f. (f.version ≡ next_version p) × HasRoom p) new n e next)));
      }

  module _ (begins : Begins seen h.history) where
    calls_seen : (o : Option Entry) → IsBy p.number o
        → calls_of p.number (seen_after seen h.history o) ≡ p.calls.mine ++ listed o
    calls_seen None by = mine.calls.seen ∙ sym (append-nil p.calls.mine)
    calls_seen (Some e) by = calls_after p.number h.history p.calls.mine (Some e) by mine.calls.all

    pub opened_after : (o : Option Entry) → Begins (opening_of p.site.start)
        (seen_after seen h.history o)
    opened_after None = mine.calls.opened
    opened_after (Some e) =
        begins_more (opening_of p.site.start) h.history (e ∷ [])
        (begins_on (opening_of p.site.start) seen h.history mine.calls.opened begins)

    -- what is seen begins the history
    pub begins_after : (o : Option Entry) → Begins (seen_after seen h.history o)
        (h.history ++ listed o)
    begins_after None = begins_more seen h.history [] begins
    begins_after (Some e) = begins_self (h.history ++ e ∷ [])

    -- and is lawful
    pub seen_lawful : (o : Option Entry)
        → IsLawful (lawful p.site.usage) (allowed p.site.usage) p.site.start (h.history ++ listed o)
        → IsLawful (lawful p.site.usage) (allowed p.site.usage) p.site.start
        (seen_after seen h.history o)
    seen_lawful None l = lawful_before (lawful p.site.usage) (allowed p.site.usage) p.site.start
        seen
        h.history
        mine.calls.opened begins good.history
    seen_lawful (Some e) l = l

    -- the caller that makes the move
    pub own_part : (m : Move) → IsWork m.act → May m.act → (x : ℕ) → x ≡ slice_index h.words
        (word_of p m.act)
        → PartIsGood p.site (heap_worked h p m.act x)
        (seen_after seen h.history (entry_of p.number m.act x))
        (worked p m x (finds h.index m.act x))
    own_part m work may x is =
        let fresh = fresh_now lawful allowed h seen p good mine names make clean later m.act may
        x in
        let by = entry_by lawful allowed h seen p good mine names make clean later m.act may x in
        let found : Option Known = finds h.index m.act x in
        let fresh_words : List (Option ℕ) = written_with p.draft.written m.act
        (publishes m.act x) in
        let left : List Known = without p.hands.held m.let_go in
        record {
          site = refl;
          number = mine.number;
          draft = record {
            region = mine.draft.region;
            to = role_same (publishes m.act x) (row_of_part p) ∙ mine.draft.to;
            live = dead_same (publishes m.act x) (row_of_part p) ∙ mine.draft.live;
            used = used_after (publishes m.act x);
            wide = unnamed_wide m.let_go fresh_words ∙ wide_with m.act (publishes m.act x);
            written = λ room j w e. written_after m.act work may x is room j w
                (unnamed_was m.let_go fresh_words j w e);
            named = λ j w n e. names_more left
                (with_held (with_held left found) (publishes m.act x)) w
                (λ k c. held_stays (with_held left found) (publishes m.act x) k
                (held_stays left found k c))
                (names_without p.hands.held m.let_go fresh_words j w e n
                (named_before m.act may x j w n (unnamed_was m.let_go fresh_words j w e)));
          };
          hands = hands_now m x found
              (next_now lawful allowed h seen p good mine names make clean later m.act may x) fresh
              (found_now lawful allowed h seen p good mine names make clean later m.act work may x
              is).1;
          calls = record {
            all = calls_after p.number h.history p.calls.mine (entry_of p.number m.act x) by
                mine.calls.all;
            seen = calls_seen (entry_of p.number m.act x) by;
            opened = opened_after (entry_of p.number m.act x);
          };
        }
