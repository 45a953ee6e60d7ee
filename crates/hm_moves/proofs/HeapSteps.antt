-- A look or a build leaves a good heap.
use Rattle.std.proofs.Common.{◌≡◌, ◌≢◌, ◌<◌, ◌+◌, ℕ, zero, suc, List, [], ◌∷◌, ◌++◌, slice_index, slice_set, Option, Some, None, refl, sym, ap, ◌∙◌, subst, arith, inl, inr, append-nil, length-set, IfSome, ◌≤◌}
use Rattle.hm_moves.proofs.Words.{Shape, Version, IsVersionOf, word_at, naming_word, Name, Contents, Entry, Create, PlainStore, contents_of, IsThere, made_count, CreateStands, Stands, caller_of, effect_of, new_contents, store_of, create_count, IsLawful, UsageLaws, contents_of-push, contents_of-push_new, there_after}
use Rattle.hm_moves.proofs.Words.{well_made_legal, made_count-legal, Known, Part, Act, Looks, Builds, Look, LoadStamp, LoadReference, LoadNumber, LoadLink, StoreOwn, Publish, LinkStore, Heap, row_count, raised, places_with, IsSizedVersion, ArePlaced, AreRanked, total, IsPublished, with_one, AreChained}
use Rattle.hm_moves.proofs.Words.{link_of, next_version, word_of, want_of, looked_word, listed, where_zero, looked_at, row_of_part, HasRoom, IsFirst, MayTake, MayBegin, TurnsBy, MayLink, MayLook, Reads, HeapIsGood, PartIsGood, AreBelow}
use Rattle.hm_model.proofs.WellMade.{fresh_name}
use Rattle.hm_moves.proofs.Histories.{below_more}
use Rattle.hm_moves.proofs.Placed.{placed_more, elsewhere, written_here, true_more, not_the_one, ranked_more}
use Rattle.hm_moves.proofs.Chains.{chained_created, chained_hung}
use Rattle.hm_moves.proofs.Entries.{all_there, reads_stand, turns_stand}
use Rattle.hm_moves.proofs.Held.{from_some}
use Rattle.hm_moves.proofs.Shorter.{naming_low, true_shorter, chained_shorter}
use Rattle.hm_moves.proofs.Words.{HoldsClean, IsLaterThan, MayShorten, Shorten, Ticks, Shifts}
use Rattle.hm_moves.proofs.Heaps.{IsWork, built, fresh_none, heap_worked, history_with, look_published, next_small, own_place, present_at, read, room_left, row_below, same_word, store_one, wrote}

-- a load that wants an entry is of a link
wants_link : (l : Look) (o : Entry) → want_of l ≡ Some o → looked_word l ≡ 0
wants_link (LoadStamp at) o e = cc
wants_link (LoadReference at i) o e = cc
wants_link (LoadNumber at i) o e = cc
wants_link (LoadLink at want) o e = refl

module _ {U : Type 0} (lawful : U → PlainStore → Type 0) (allowed : U → PlainStore → Entry → Type 0)
    (laws : (u : U) → UsageLaws (lawful u) (allowed u)) (h : Heap) (seen : List Entry) (p : Part U)
    (good : HeapIsGood lawful allowed p.site h) (mine : PartIsGood p.site h seen p) where
  abbrev store : PlainStore
  store = store_of h.history

  abbrev s : Shape
  s = p.site.shape

  abbrev Kept : Heap → Type 0
  Kept t = HeapIsGood lawful allowed p.site t

  -- names that the entry may give are those that are there
  abbrev known : Name → Type 0
  known = IsThere store

  -- it is allowed where it stands
  abbrev make : Entry → Type 0
  make e = Stands store e → allowed p.site.usage store e

  -- the words say what is clean, and what is later
  abbrev clean : Type 0
  clean = HoldsClean h.words p

  abbrev later : Known → ℕ → Known → Type 0
  later = IsLaterThan p.site.shape h

  -- the Create of the caller's next object stands
  create_stands : (k : Known) → IsFirst known p k
      → CreateStands store p.number k.name k.contents.refs k.contents.numbers
  create_stands k first =
      let maker : k.name.maker ≡ p.number = ap (λ (n : Name). n.maker) first.name in
      let made : made_count p.number store ≡ create_count p.calls.mine =
      made_count-legal p.number p.site.start h.history good.history.legal ∙ ap create_count
      mine.calls.all in
      let count : k.name.count ≡ made_count p.number store = ap (λ (n : Name). n.count) first.name
      ∙ sym made
      in
      record {
        maker = maker;
        count = count;
        fresh = fresh_name store k.name (well_made_legal p.site.start h.history good.history.legal)
            (count ∙ ap (λ (q : ℕ). made_count q store) (sym maker));
        given = all_there p store known (λ n there. there) k.contents.refs first.names;
        sized = first.built.sized;
      }

  -- the heap with a version more, whose words and entries are these
  abbrev with_version : List ℕ → Known → List Entry → Heap
  with_version words k es = record {
    words = words;
    index = with_one h.index k;
    places = places_with h.places (row_of_part p) (Some k);
    history = h.history ++ es;
  }

  -- a version that lies at the next place, in a row of the caller's
  pub record Lies (k : Known) : Type 0 where
    room : HasRoom p
    version : k.version ≡ next_version p
    sized : IsSizedVersion k
    rank : k.rank < total h.places.made (row_count s) + 1

  placed_with : (k : Known) → Lies k
      → ArePlaced s (with_one h.index k) h.places.dead (raised h.places.used (row_of_part p))
  placed_with k l = placed_more s h.index h.places (row_of_part p) k good.placed
      (row_below h seen p mine)
      mine.draft.live (room_left h seen p mine l.room)
      (own_place lawful allowed laws h seen p good mine k l.version) l.sized

  ranked_with : (k : Known) → Lies k
      → AreRanked s (with_one h.index k) (places_with h.places (row_of_part p) (Some k))
  ranked_with k l = ranked_more s h.index h.places (row_of_part p) k good.placed
      (row_below h seen p mine)
      mine.draft.live (room_left h seen p mine l.room)
      (own_place lawful allowed laws h seen p good mine k l.version) good.ranked l.rank

  -- a new object is published
  published : (k : Known) → MayBegin known make clean later p k
      → Kept (with_version (slice_set h.words (word_at s (next_version p) 0) 0) k
      (Create p.number k.name k.contents.refs k.contents.numbers ∷ []))
  published k may =
      let first = may.first in
      let e : Entry = Create p.number k.name k.contents.refs k.contents.numbers in
      let words : List ℕ = slice_set h.words (word_at s (next_version p) 0) 0 in
      let none = fresh_none lawful allowed h seen p good mine k first.room first.version in
      let stands = create_stands k first in
      let is : new_contents k.contents.refs k.contents.numbers ≡ k.contents =
      λ i. record {
        stamp = sym first.stamp i;
        refs = k.contents.refs;
        numbers = k.contents.numbers;
      }
      in
      let made : contents_of (effect_of store e) k.name ≡ Some k.contents =
      contents_of-push_new store (k.name, new_contents k.contents.refs k.contents.numbers)
      stands.fresh
      ∙ ap (λ (x : Contents). Some x) is in
      let links : (m : Known) → IsPublished h.index m → link_of s words m ≡ link_of s h.words m =
      λ m there. elsewhere s h.words m.version (next_version p) 0 0 0 (omega arith) (omega arith)
      (inl (λ x. not_the_one h.index k m none there
      (x ∙ ap (λ (v : Version). v.0) (sym first.version)))) in
      let here : link_of s words k ≡ 0 =
      ap (λ (v : Version). slice_index words (word_at s v 0)) first.version
      ∙ written_here s h.words (next_version p) 0 0 good.wide
      (next_small lawful allowed h seen p good mine first.room) (omega arith) in
      let lies : Lies k = record {
        room = first.room;
        version = first.version;
        sized = (let a = first.stamp in
            record { stamp = omega arith; contents = first.built.sized });
        rank = let rank = first.rank in omega arith;
      } in
      record {
        wide = length-set h.words (word_at s (next_version p) 0) 0 ∙ good.wide;
        placed = placed_with k lies;
        ranked = ranked_with k lies;
        contents = true_more s h.index h.words words k none
            (λ x j some low. elsewhere s h.words x (next_version p) j 0 0 low (omega arith)
            (inr (λ z. omega arith)))
            good.contents (built lawful allowed laws h seen p good mine k first.room first.version
            first.built);
        chained = subst (AreChained s words (with_one h.index k))
            (sym (store_one lawful allowed laws h seen p good mine e))
            (chained_created s h.words words h.index store (effect_of store e) k none good.chained
            (λ n. there_after store e n) made here links stands.fresh
            (λ m. contents_of-push store (k.name, new_contents k.contents.refs k.contents.numbers)
            m.name
            m.contents));
        history = history_with lawful allowed laws h seen p good mine e may.may stands;
        callers = below_more s.callers p.number h.history (Some e) refl mine.number good.callers;
      }

  -- what an entry, or none, makes of the last version of an object
  record Makes (at : Known) (x : Contents) (o : Option Entry) : Type 0 where
    stamp : x.stamp ≤ at.contents.stamp + 1
    made : contents_of (store_of (h.history ++ listed o)) at.name ≡ Some x
    others : (n : Name) → at.name ≢ n
        → contents_of (store_of (h.history ++ listed o)) n ≡ contents_of store n
    keeps : (n : Name) → IsThere store n → IsThere (store_of (h.history ++ listed o)) n
    history : IsLawful (lawful p.site.usage) (allowed p.site.usage) p.site.start
        (h.history ++ listed o)
    callers : AreBelow s.callers (h.history ++ listed o)

  makes : (at : Known) (x : Contents) (o : Option Entry) → TurnsBy known p at x o → IfSome o make
      → contents_of store at.name ≡ Some at.contents → Makes at x o
  makes at x None turns may present =
      let same : h.history ++ [] ≡ h.history = append-nil h.history in
      let stays : store_of (h.history ++ []) ≡ store = ap store_of same in
      record {
        stamp = let e : x.stamp ≡ at.contents.stamp = ap (λ (z : Contents). z.stamp) turns in
            omega arith;
        made = ap (λ (t : PlainStore). contents_of t at.name) stays
            ∙ (present ∙ ap (λ (z : Contents). Some z) (sym turns));
        others = λ n ne. ap (λ (t : PlainStore). contents_of t n) stays;
        keeps = λ n there. subst (λ (t : PlainStore). IsThere t n) (sym stays) there;
        history = subst (IsLawful (lawful p.site.usage) (allowed p.site.usage) p.site.start)
            (sym same)
            good.history;
        callers = subst (AreBelow s.callers) (sym same) good.callers;
      }
  makes at x (Some e) turns may present =
      let t = turns_stand p store known (λ n there. there) at x e present turns in
      let now : store_of (h.history ++ e ∷ []) ≡ effect_of store e = store_one lawful allowed laws h
      seen p good mine e in
      record {
        stamp = let a = t.stamp in omega arith;
        made = ap (λ (z : PlainStore). contents_of z at.name) now ∙ t.made;
        others = λ n ne. ap (λ (z : PlainStore). contents_of z n) now ∙ t.others n ne;
        keeps = λ n there. subst (λ (z : PlainStore). IsThere z n) (sym now)
            (there_after store e n there);
        history = history_with lawful allowed laws h seen p good mine e may t.stands;
        callers = below_more s.callers p.number h.history (Some e) t.by mine.number good.callers;
      }

  -- a version is hung on the last one of its object
  hung : (at k : Known) (o : Option Entry) → MayLink known make clean later p at k o
      → 0 ≡ link_of s h.words at
      → Kept (with_version
      (slice_set h.words (word_at s at.version 0) (naming_word (Some k.version))) k
      (listed o))
  hung at k o may zero_link =
      let later = may.later in
      let words : List ℕ = slice_set h.words (word_at s at.version 0)
      (naming_word (Some k.version)) in
      let is : IsPublished h.index at = look_published h seen p mine at may.look in
      let none = fresh_none lawful allowed h seen p good mine k later.room later.version in
      let t = makes at k.contents o may.turns may.may
      (present_at lawful allowed h seen p good mine at may.look zero_link) in
      let apart : at.version.0 ≢ k.version.0 = not_the_one h.index k at none is in
      let links : (m : Known) → IsPublished h.index m → m.version.0 ≢ at.version.0
      → link_of s words m ≡ link_of s h.words m =
      λ m it n. elsewhere s h.words m.version at.version 0 0 (naming_word (Some k.version))
      (omega arith)
      (omega arith)
      (inl n) in
      let here : link_of s words at ≡ naming_word (Some k.version) =
      written_here s h.words at.version 0 (naming_word (Some k.version)) good.wide
      (good.placed.fits at is)
      (omega arith) in
      let own : link_of s words k ≡ 0 =
      elsewhere s h.words k.version at.version 0 0 (naming_word (Some k.version)) (omega arith)
      (omega arith)
      (inl (λ x. apart (sym x)))
      ∙ (ap (λ (v : Version). slice_index h.words (word_at s v 0)) later.version
      ∙ mine.draft.written later.room 0 0 later.link) in
      let made : contents_of (store_of (h.history ++ listed o)) k.name ≡ Some k.contents =
      ap (contents_of (store_of (h.history ++ listed o))) later.name ∙ t.made in
      let lies : Lies k = record {
        room = later.room;
        version = later.version;
        sized = (let a = t.stamp in let b = (good.placed.sized at is).stamp in
            let rank = later.rank in
            record { stamp = omega arith; contents = later.built.sized });
        rank = let before = good.ranked.ranks at is in let rank = later.rank in omega arith;
      } in
      record {
        wide = length-set h.words (word_at s at.version 0) (naming_word (Some k.version))
            ∙ good.wide;
        placed = placed_with k lies;
        ranked = ranked_with k lies;
        contents = true_more s h.index h.words words k none
            (λ x j some low. elsewhere s h.words x at.version j 0 (naming_word (Some k.version)) low
            (omega arith)
            (inr (λ z. omega arith)))
            good.contents (built lawful allowed laws h seen p good mine k later.room later.version
            later.built);
        chained = chained_hung s h.words words h.index store (store_of (h.history ++ listed o)) k
            none
            good.chained t.keeps made own at is (sym zero_link) here links later.name later.rank
            t.others;
        history = t.history;
        callers = t.callers;
      }

  -- a word that is found stays, and where nothing is made all else does
  still : (w x : ℕ) → x ≡ slice_index h.words w
      → Kept record h { words = slice_set h.words w x; history = h.history ++ [] }
  still w x is = subst (λ (l : List ℕ). Kept record h { words = l; history = h.history ++ [] })
      (sym (same_word h.words w x is)) (read lawful allowed laws h seen p good mine None tt tt)

  -- the entry that a load makes reads the last version, and so leaves the store
  reading : (l : Look) → MayLook known make clean later p l → (x : ℕ)
      → x ≡ slice_index h.words (word_of p (Looks l))
      → (o : Option Entry) → want_of l ≡ o
      → IfSome (where_zero o x) make
      × IfSome (where_zero o x) (λ e. Stands store e × (effect_of store e ≡ store)
      × (caller_of e ≡ p.number))
  reading l may x is None e = (tt, tt)
  reading l may (suc v) is (Some o) e = (tt, tt)
  reading l may zero is (Some o) e = let it = wants_link l o e in (
    from_some make (want_of l) o e may.may,
    reads_stand p store known (λ n there. there) (looked_at l) o
        (present_at lawful allowed h seen p good mine (looked_at l) may.look
        (is ∙ ap (λ (i : ℕ). slice_index h.words (word_at s (looked_at l).version i)) it))
        (from_some (Reads known p (looked_at l)) (want_of l) o e may.reads),
  )

  looked : (l : Look) → MayLook known make clean later p l → (x : ℕ) → x ≡ slice_index h.words
      (word_of p (Looks l))
      → Kept (heap_worked h p (Looks l) x)
  looked l may x is =
      let r = reading l may x is (want_of l) refl in
      subst (λ (words : List ℕ). Kept record h {
        words = words;
        history = h.history ++ listed (where_zero (want_of l) x);
      })
      (sym (same_word h.words (word_of p (Looks l)) x is))
      (read lawful allowed laws h seen p good mine (where_zero (want_of l) x) r.0 r.1)

  -- a word comes to name a later version
  shortened : (at : Known) (i : ℕ) (target : Known) → MayShorten known make clean later p at i
      target
      → Kept record h {
        words = slice_set h.words (word_at s at.version i) (naming_word (Some target.version));
        history = h.history ++ [];
      }
  shortened at i target may =
      let l = may.later in
      let is : IsPublished h.index at = (mine.hands.own at may.own).published in
      let low : i < 16 = naming_low i may.word in
      let fits : IsVersionOf s at.version = good.placed.fits at is in
      let new : IsPublished h.index target = mine.hands.held target may.held in
      let words : List ℕ = slice_set h.words (word_at s at.version i)
      (naming_word (Some target.version)) in
      subst (λ (l : List Entry). Kept record h { words = words; history = l })
      (sym (append-nil h.history))
      record {
        wide = length-set h.words (word_at s at.version i) (naming_word (Some target.version))
            ∙ good.wide;
        placed = good.placed;
        ranked = good.ranked;
        contents = true_shorter s h.words h.index at l.was target i good.wide fits low is
            l.published new l.named
            l.same l.rank may.word good.contents;
        chained = chained_shorter s h.words h.index at l.was target i good.wide fits low is
            l.published new
            l.named l.same l.rank store good.chained;
        history = good.history;
        callers = good.callers;
      }

  -- a look or a build leaves a good heap
  pub heap_step : (act : Act) → IsWork act → MayTake known make clean later p act → (x : ℕ)
      → x ≡ slice_index h.words (word_of p act) → Kept (heap_worked h p act x)
  heap_step (Looks l) work may x is = looked l may x is
  heap_step (Builds (StoreOwn i word)) work may x is =
      subst (λ (l : List Entry). Kept record h {
        words = slice_set h.words (word_at s (next_version p) i) word;
        history = l;
      }) (sym (append-nil h.history)) (wrote lawful allowed laws h seen p good mine i word may.below
      may.room)
  heap_step (Builds (Publish k)) work may x is = published k may
  heap_step (Builds (LinkStore at k None)) work may zero is = hung at k None may is
  heap_step (Builds (LinkStore at k (Some e))) work may zero is = hung at k (Some e) may is
  heap_step (Builds (LinkStore at k None)) work may (suc n) is = still (word_at s at.version 0)
      (suc n) is
  heap_step (Builds (LinkStore at k (Some e))) work may (suc n) is = still (word_at s at.version 0)
      (suc n) is
  heap_step (Builds (Shorten at i target)) work may x is = shortened at i target may
  heap_step (Ticks t) work may x is = absurd work
  heap_step (Shifts f) work may x is = absurd work
