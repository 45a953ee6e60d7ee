-- What a look or a build leaves of a caller that does not make it.
use Rattle.std.proofs.Common.{◌≡◌, ◌≢◌, ◌<◌, ◌+◌, ◌*◌, ℕ, List, [], ◌∷◌, ◌++◌, slice_index, slice_set, Option, Some, None, IfSome, Contains, refl, sym, ap, ◌∙◌, arith, inl}
use Rattle.hm_moves.proofs.Words.{Shape, Version, IsAt, version_at, word_at, Name, Entry, PlainStore, opening_of, Known, Part, Act, Looks, Builds, Look, LoadStamp, LoadReference, LoadNumber, LoadLink, StoreOwn, Publish, LinkStore, Heap, row_of, Places, IsOwn, places_with, IsPublished, next_version, word_of}
use Rattle.hm_moves.proofs.Words.{becomes, entry_of, publishes, listed, looked_at, looked_word, index_with, row_of_part, seen_after, HasRoom, MayLookInto, MayTake, IsWordOf, Begins, HeapIsGood, PartIsGood, HasCalls, published_of}
use Rattle.hm_moves.proofs.Histories.{IsBy, calls_beside, begins_more, begins_on}
use Rattle.hm_moves.proofs.Placed.{place_small, published_either, raised_else, same_row, elsewhere, raised_else}
use Rattle.hm_moves.proofs.Held.{written_low}
use Rattle.hm_moves.proofs.Heaps.{look_published}
use Rattle.hm_moves.proofs.Finding.{next_now, index_more, fresh_now}
use Rattle.std.proofs.Common.{inr}
use Rattle.hm_moves.specs.Good.{row_in}
use Rattle.hm_moves.proofs.Words.{Shorten, Ticks, Shifts, is_kept}
use Rattle.hm_moves.proofs.Shorter.{naming_low}
use Rattle.hm_moves.proofs.Heaps.{IsWork, heap_worked}
use Rattle.hm_moves.proofs.Parts.{dead_same, role_same, still_own}

-- a load moves one of the words of a version
look_low : (l : Look) → IsWordOf l → looked_word l < 16
look_low (LoadStamp at) h = omega arith
look_low (LoadReference at i) h = omega arith
look_low (LoadNumber at i) h = omega arith
look_low (LoadLink at want) h = omega arith

module _ {U : Type 0} (lawful : U → PlainStore → Type 0) (allowed : U → PlainStore → Entry → Type 0)
    (h : Heap) (seen : List Entry) (p : Part U) (good : HeapIsGood lawful allowed p.site h)
    (mine : PartIsGood p.site h seen p) (names : Name → Type 0) (make : Entry → Type 0)
    (clean : Type 0)
    (later : Known → ℕ → Known → Type 0) where
  abbrev s : Shape
  s = p.site.shape

  abbrev May : Act → Type 0
  May act = MayTake names make clean later p act

  -- the places afterwards
  abbrev places : Option Known → Places
  places o = places_with h.places (row_of_part p) o

  -- another caller, which has seen the same or no less
  module _ (known : List Entry) (q : Part U) (apart : q.number ≢ p.number)
      (theirs : PartIsGood p.site h known q) where
    abbrev their_row : ℕ
    their_row = row_of s q.number q.draft.region

    abbrev their_next : Version
    their_next = version_at s q.number q.draft.region q.draft.used

    other_row : their_row ≢ row_of_part p
    other_row e = apart (same_row q.number p.number s.regions q.draft.region p.draft.region
        theirs.draft.region
        mine.draft.region e)

    used_same : (o : Option Known) → (places o).used their_row ≡ h.places.used their_row
    used_same None = refl
    used_same (Some k) = raised_else h.places.used (row_of_part p) their_row other_row

    their_none : q.draft.used < s.versions → h.index their_next.0 ≡ None
    their_none room =
        let small = place_small q.number s.callers s.regions q.draft.region theirs.number
        theirs.draft.region in
        ap (λ (i : ℕ). h.index (their_row * s.versions + i)) theirs.draft.used
        ∙ good.placed.unused their_row (h.places.used their_row) small
        (let a = theirs.draft.used in omega arith)
        (omega arith)

    not_looked : (k : Known) → MayLookInto p k → q.draft.used < s.versions → their_next.0
        ≢ k.version.0
    not_looked k look room e = let a = look_published h seen p mine k look in let b = their_none
        room in cc

    not_next : HasRoom p → q.draft.used < s.versions → their_next.0 ≢ (next_version p).0
    not_next a b e =
        other_row (same_row their_row (row_of_part p) s.versions q.draft.used p.draft.used b a e)

    unmoved : (act : Act) → IsWork act → May act → q.draft.used < s.versions → (y j : ℕ) → j < 16
        → slice_index (slice_set h.words (word_of p act) y) (word_at s their_next j)
        ≡ slice_index h.words (word_at s their_next j)
    unmoved (Looks l) work may room y j low =
        elsewhere s h.words their_next (looked_at l).version j (looked_word l) y low
        (look_low l may.word) (inl (not_looked (looked_at l) may.look room))
    unmoved (Builds (StoreOwn i word)) work may room y j low =
        elsewhere s h.words their_next (next_version p) j i y low may.below
        (inl (not_next may.room room))
    unmoved (Builds (Publish k)) work may room y j low =
        elsewhere s h.words their_next (next_version p) j 0 y low (omega arith)
        (inl (not_next may.first.room room))
    unmoved (Builds (Shorten at i target)) work may room y j low =
        elsewhere s h.words their_next at.version j i y low (naming_low i may.word)
        (inl (not_looked at (inr may.own) room))
    unmoved (Ticks t) work may room y j low = absurd work
    unmoved (Shifts f) work may room y j low = absurd work
    unmoved (Builds (LinkStore at k o)) work may room y j low =
        elsewhere s h.words their_next at.version j 0 y low (omega arith)
        (inl (not_looked at may.look room))

    -- its calls are as before, also in what a seat that carries both has seen
    pub calls_known : (o : Option Entry) → IsBy p.number o
        → HasCalls p.site.start q.number q.calls.mine (h.history ++ listed o) known
    calls_known o by = record {
      all = calls_beside p.number q.number h.history q.calls.mine o by (λ e. apart (sym e))
          theirs.calls.all;
      seen = theirs.calls.seen;
      opened = theirs.calls.opened;
    }

    pub calls_along : (o : Option Entry) → IsBy p.number o → Begins known h.history
        → HasCalls p.site.start q.number q.calls.mine (h.history ++ listed o)
        (seen_after known h.history o)
    calls_along None by b = calls_known None by
    calls_along (Some e) by b =
        let all = calls_beside p.number q.number h.history q.calls.mine (Some e) by
        (λ z. apart (sym z))
        theirs.calls.all in
        record {
          all = all;
          seen = all;
          opened = begins_more (opening_of p.site.start) h.history (e ∷ [])
              (begins_on (opening_of p.site.start) known h.history theirs.calls.opened b);
        }

    -- what another publishes lies in no region of it
    not_theirs : (k : Known) (region place : ℕ) → k.version ≡ next_version p → HasRoom p
        → IsAt s k.version q.number region place → ⊥
    not_theirs k region place is room at =
        let same : row_of s q.number region * s.versions + place ≡ (next_version p).0 =
        ap (λ (v : Version). v.0) (sym at.number ∙ is) in
        apart (same_row q.number p.number s.regions region p.draft.region at.region_fits
        mine.draft.region
        (same_row (row_of s q.number region) (row_of_part p) s.versions place p.draft.used
        at.place_fits room same))

    their_own : (o : Option Known) → IfSome o (λ f. (f.version ≡ next_version p) × HasRoom p)
        → (k : Known)
        → IsOwn s q.number (index_with h.index o) k → Contains (published_of q.hands) k
    their_own None f k own = theirs.hands.all k own
    their_own (Some m) f k own = grind (
      arith,
      published_either h.index m k own.published,
      λ (is : k.version ≡ next_version p). not_theirs k own.region own.place is f.1 own.at,
      λ (t : IsPublished h.index k). theirs.hands.all k
          (record { published = t; region = own.region; place = own.place; at = own.at }),
    )

    -- a caller that makes no move
    pub other_part : (act : Act) → IsWork act → May act → (x : ℕ) → (after : List Entry)
        → HasCalls p.site.start q.number q.calls.mine
        (h.history ++ listed (entry_of p.number act x)) after
        → PartIsGood p.site (heap_worked h p act x) after q
    other_part act work may x after calls =
        let fresh = fresh_now lawful allowed h seen p good mine names make clean later act may x in
        record {
          site = theirs.site;
          number = theirs.number;
          draft = record {
            region = theirs.draft.region;
            to = role_same lawful allowed h seen p good mine names make clean later
                (publishes act x) their_row ∙ theirs.draft.to;
            live = dead_same lawful allowed h seen p good mine names make clean later
                (publishes act x) their_row ∙ theirs.draft.live;
            used = theirs.draft.used ∙ sym (used_same (publishes act x));
            wide = theirs.draft.wide;
            written = λ room j w is. unmoved act work may room (becomes act x) j
                (written_low q.draft.written j w theirs.draft.wide is) ∙ theirs.draft.written room j
                w is;
            named = theirs.draft.named;
          };
          hands = record {
            held = λ k there. index_more h.index (publishes act x) k fresh
                (theirs.hands.held k there);
            own = λ k there. still_own lawful allowed h seen p good mine names make clean later
                q.number (publishes act x) k fresh (theirs.hands.own k there);
            kept = λ k there. ap is_kept
                (role_same lawful allowed h seen p good mine names make clean later
                (publishes act x) (row_in s k.version)) ∙ theirs.hands.kept k there;
            left = theirs.hands.left;
            given = λ k there. role_same lawful allowed h seen p good mine names make clean later
                (publishes act x) (row_in s k.version) ∙ theirs.hands.given k there;
            alive = λ k there live. index_more h.index (publishes act x) k fresh
                (theirs.hands.alive k there
                (sym (dead_same lawful allowed h seen p good mine names make clean later
                (publishes act x) (row_in s k.version)) ∙ live));
            all = their_own (publishes act x)
                (next_now lawful allowed h seen p good mine names make clean later act may
                x);
            once = theirs.hands.once;
          };
          calls = calls;
        }
