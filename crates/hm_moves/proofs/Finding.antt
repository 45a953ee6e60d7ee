-- What an act finds, what it publishes, and by whom its entry is.
use Rattle.std.proofs.Common.{◌≡◌, ℕ, zero, suc, List, slice_index, Option, Some, None, IfSome, refl, sym, ap, ◌∙◌, subst, arith}
use Rattle.hm_moves.proofs.Words.{word_at, Name, Stored, Changed, Entry, Create, Fetch, Store, StoreIf, PlainStore, caller_of, store_of, Known, Part, Act, Looks, Builds, LoadStamp, LoadReference, LoadNumber, LoadLink, StoreOwn, Publish, LinkStore, Index, IsPublished, lookup}
use Rattle.hm_moves.proofs.Words.{Refers, IsLinked, reference_at, Heap, next_version, word_of, entry_of, publishes, finds, want_of, looked_at, index_with, HasRoom, MayLookInto, Reads, Turns, MayTake, TurnsBy, HeapIsGood, PartIsGood, IsReference, IsLink, Found}
use Rattle.hm_moves.proofs.Histories.{IsBy}
use Rattle.hm_moves.proofs.Placed.{published_here, published_more}
use Rattle.hm_moves.proofs.Words.{Shorten, Ticks, Shifts}
use Rattle.hm_moves.proofs.Heaps.{IsWork, look_published, fresh_none}
use Rattle.hm_moves.proofs.Held.{zero_some, some_more}

-- a word that refers names the version that is looked up
refers_found : (index : Index) (w : ℕ) (r : Option Name) → Refers index w r
    → IsReference w (lookup index w) r × IfSome (lookup index w) (IsPublished index)
refers_found index zero None h = ((refl, refl), tt)
refers_found index (suc v) None h = absurd (omega arith)
refers_found index zero (Some n) h = let a = h.2 in absurd (omega arith)
refers_found index (suc v) (Some n) h = let same : v ≡ h.0.version.0 = let a = h.2 in omega arith in
    let found : index v ≡ Some h.0 = ap index same ∙ h.1 in
    subst (λ (o : Option Known). IsReference (suc v) o (Some n) × IfSome o (IsPublished index))
    (sym found)
    ((h.2, ap Some (sym h.3)), h.1)

-- and so does a link
linked_found : (index : Index) (store : PlainStore) (at : Known) (x : ℕ) → IsLinked index store at x
    → IsLink at x (lookup index x) × IfSome (lookup index x) (IsPublished index)
linked_found index store at zero h = (refl, tt)
linked_found index store at (suc v) h =
    let found : index v ≡ Some h.0 = ap index (sym h.1) ∙ h.2.published in
    subst (λ (o : Option Known). IsLink at (suc v) o × IfSome o (IsPublished index)) (sym found)
    ((let e = h.1 in omega arith, h.2.same, h.2.rank), h.2.published)

module _ {U : Type 0} (known : Name → Type 0) (p : Part U) where
  reads_by : (k : Known) (e : Entry) → Reads known p k e → caller_of e ≡ p.number
  reads_by k (Create q n refs numbers) h = absurd h
  reads_by k (Fetch q n answer) h = h.0.caller
  reads_by k (Store q n field) h = absurd h
  reads_by k (StoreIf q n stamp refs numbers Stored) h = absurd h
  reads_by k (StoreIf q n stamp refs numbers (Changed now)) h = h.0.caller

  turns_by : (k fresh : Known) (e : Entry) → Turns known p k fresh.contents e → caller_of e
      ≡ p.number
  turns_by k fresh (Create q n refs numbers) h = absurd h
  turns_by k fresh (Fetch q n answer) h = absurd h
  turns_by k fresh (Store q n field) h = h.0.caller
  turns_by k fresh (StoreIf q n stamp refs numbers Stored) h = h.0.caller
  turns_by k fresh (StoreIf q n stamp refs numbers (Changed now)) h = absurd h

  turns_by_some : (k fresh : Known) (o : Option Entry) → TurnsBy known p k fresh.contents o
      → IfSome o (λ e. caller_of e ≡ p.number)
  turns_by_some k fresh None h = tt
  turns_by_some k fresh (Some e) h = turns_by k fresh e h

module _ (index : Index) where
  -- published versions stay so
  pub index_more : (o : Option Known) (k : Known) → IfSome o (λ m. index m.version.0 ≡ None)
      → IsPublished
      index k
      → IsPublished (index_with index o) k
  index_more None k f there = there
  index_more (Some m) k f there = published_more index m k f there

  -- what was published is so
  pub index_here : (o : Option Known) (k : Known) → o ≡ Some k → IsPublished (index_with index o) k
  index_here None k e = cc
  index_here (Some m) k e = grind (arith, published_here index k)

  pub new_now : (o : Option Known) → IfSome o (IsPublished (index_with index o))
  new_now None = tt
  new_now (Some k) = published_here index k

module _ {U : Type 0} (lawful : U → PlainStore → Type 0) (allowed : U → PlainStore → Entry → Type 0)
    (h : Heap) (seen : List Entry) (p : Part U) (good : HeapIsGood lawful allowed p.site h)
    (mine : PartIsGood p.site h seen p) (known : Name → Type 0) (make : Entry → Type 0)
    (clean : Type 0)
    (later : Known → ℕ → Known → Type 0) where
  abbrev May : Act → Type 0
  May act = MayTake known make clean later p act

  -- the entry is the caller's
  pub entry_by : (act : Act) → May act → (x : ℕ) → IsBy p.number (entry_of p.number act x)
  entry_by (Looks l) may x = zero_some (λ e. caller_of e ≡ p.number) (want_of l) x
      (some_more (Reads known p (looked_at l)) (λ e. caller_of e ≡ p.number)
      (reads_by known p (looked_at l))
      (want_of l) may.reads)
  entry_by (Builds (StoreOwn i word)) may x = tt
  entry_by (Builds (Publish k)) may x = refl
  entry_by (Ticks t) may x = tt
  entry_by (Shifts f) may x = tt
  entry_by (Builds (Shorten at i target)) may x = tt
  entry_by (Builds (LinkStore at k o)) may x = zero_some (λ e. caller_of e ≡ p.number) o x
      (turns_by_some known p at k o may.turns)

  -- what is published is the caller's next version, for which there was room
  pub next_now : (act : Act) → May act → (x : ℕ)
      → IfSome (publishes act x) (λ k. (k.version ≡ next_version p) × HasRoom p)
  next_now (Looks l) may x = tt
  next_now (Builds (StoreOwn i word)) may x = tt
  next_now (Builds (Publish k)) may x = (may.first.version, may.first.room)
  next_now (Ticks t) may x = tt
  next_now (Shifts f) may x = tt
  next_now (Builds (Shorten at i target)) may x = tt
  next_now (Builds (LinkStore at k o)) may zero = (may.later.version, may.later.room)
  next_now (Builds (LinkStore at k o)) may (suc n) = tt

  -- and was not published before
  pub fresh_now : (act : Act) → May act → (x : ℕ) → IfSome (publishes act x)
      (λ k. h.index k.version.0 ≡ None)
  fresh_now act may x = some_more (λ k. (k.version ≡ next_version p) × HasRoom p)
      (λ k. h.index k.version.0 ≡ None)
      (λ k t. fresh_none lawful allowed h seen p good mine k t.1 t.0) (publishes act x)
      (next_now act may x)

  look : (at : Known) → MayLookInto p at → IsPublished h.index at
  look at l = look_published h seen p mine at l

  link_now : (at : Known) → MayLookInto p at → (x : ℕ)
      → x ≡ slice_index h.words (word_at p.site.shape at.version 0)
      → IsLink at x (lookup h.index x) × IfSome (lookup h.index x) (IsPublished h.index)
  link_now at l x is = linked_found h.index (store_of h.history) at x
      (subst (IsLinked h.index (store_of h.history) at) (sym is) (good.chained.link at (look at l)))

  -- what is found is what is known of it
  pub found_now : (act : Act) → IsWork act → May act → (x : ℕ) → x ≡ slice_index h.words
      (word_of p act)
      → Found act x (finds h.index act x) × IfSome (finds h.index act x) (IsPublished h.index)
  found_now (Looks (LoadStamp at)) work may x is =
      ((is ∙ (good.contents at (look at may.look)).stamp, refl), tt)
  found_now (Looks (LoadReference at i)) work may x is = refers_found h.index x
      (reference_at at.contents i)
      (subst (λ (w : ℕ). Refers h.index w (reference_at at.contents i)) (sym is)
      ((good.contents at (look at may.look)).refs i may.word))
  found_now (Looks (LoadNumber at i)) work may x is =
      ((is ∙ (good.contents at (look at may.look)).numbers i may.word, refl), tt)
  found_now (Looks (LoadLink at want)) work may x is = link_now at may.look x is
  found_now (Builds (StoreOwn i word)) work may x is = (refl, tt)
  found_now (Builds (Publish k)) work may x is = (refl, tt)
  found_now (Ticks t) work may x is = absurd work
  found_now (Shifts f) work may x is = absurd work
  found_now (Builds (Shorten at i target)) work may x is = (refl, tt)
  found_now (Builds (LinkStore at k o)) work may x is = link_now at may.look x is
