-- What a caller's scan has met at its cursor is so behind each move.
use Rattle.std.proofs.Common.{◌≡◌, ◌≢◌, ◌⊎◌, ◌<◌, ◌+◌, ◌*◌, ◌/◌, ◌%◌, ◌&&◌, ◌==◌, ℕ, zero, suc, Bool, true, false, is_some, List, ◌++◌, slice_get, slice_index, slice_set, Option, Some, None, Contains, if◌then◌else◌, refl, sym, ap, ◌∙◌, arith, inl, inr, ⊎_elim, eq-eqb, eqb-true, true≢false}
use Rattle.std.proofs.lemmas.Bool.{and_parts, cases_eq}
use Rattle.std.proofs.lemmas.Nat.{mod_below}
use Rattle.std.specs.List.{list_all}
use Rattle.hm_shape.specs.declared.shape.Shape.{Shape}
use Rattle.hm_shape.specs.declared.version.Version.{Version}
use Rattle.hm_moves.specs.declared.moving.Shift.{Shift}
use Rattle.hm_moves.specs.declared.moving.Shift.TheVariants.{LoadRoles, Join, Turn, Reuse}
use Rattle.hm_moves.specs.declared.moving.Tick.{Tick}
use Rattle.hm_moves.specs.declared.moving.Tick.TheVariants.{LoadStage, MoveStage, LoadReply, StoreReply}
use Rattle.hm_moves.specs.Acts.{look_finds}
use Rattle.hm_moves.specs.After.{worked}
use Rattle.hm_moves.specs.Cycles.{cursor_after, field_count, field_word, has_masks, is_at_cursor, is_next, is_scanning, meets, passes, stops}
use Rattle.hm_moves.specs.Good.{HasMet, IsMet}
use Rattle.hm_moves.specs.Shifts.{readied}
use Rattle.hm_moves.proofs.Words.{HasRoom, Heap, IsOwn, IsPublished, Known, Look, LoadLink, LoadNumber, LoadReference, LoadStamp, Looks, Builds, Ticks, Shifts, Act, LinkStore, Publish, Shorten, StoreOwn, Move, Name, Part, PlainStore, Entry, MayTake, ArePlaced, HeapIsGood, PartIsGood}
use Rattle.hm_moves.proofs.Words.{Index, becomes, finds, index_with, is_naming, letting, listed, lookup, looked_at, looked_word, naming_word, next_version, publishes, slice_get_within, word_at, word_of, words_at}
use Rattle.hm_moves.proofs.Building.{get_before}
use Rattle.hm_moves.proofs.Fields.{field_names}
use Rattle.hm_moves.proofs.Finding.{fresh_now, index_more}
use Rattle.hm_moves.proofs.Fresh.{slice_get_contains}
use Rattle.hm_moves.proofs.Heaps.{IsWork, heap_worked, next_none, same_word}
use Rattle.hm_moves.proofs.Looking.{next_number}
use Rattle.hm_moves.proofs.Placed.{elsewhere, same_row}
use Rattle.hm_moves.proofs.Shorter.{naming_low}
use Rattle.hm_moves.proofs.ShownLetting.{stays_there}

-- nothing is a version
none_some : (k : Known) → None ≡ Some k → ⊥
none_some k e = cc

-- a caller's cursor is at this word of a version
abbrev pub cursor_word : {U : Type 0} → Part U → ℕ
cursor_word p = field_word (p.cycle.scan.cursor % field_count)

-- which names versions
pub cursor_names : {U : Type 0} (p : Part U) → is_naming (cursor_word p) ≡ true
cursor_names p =
    field_names (p.cycle.scan.cursor % field_count) (mod_below p.cycle.scan.cursor 5 (omega arith))

-- and so is one of its sixteen
cursor_low : {U : Type 0} (p : Part U) → cursor_word p < 16
cursor_low p = naming_low (cursor_word p) (cursor_names p)

-- words of one number and of versions of one number are one
pub word_same : (s : Shape) (v w : Version) (i j : ℕ) → v.0 ≡ w.0 → i ≡ j
    → word_at s v i ≡ word_at s w j
word_same s v w i j e d = omega (arith, e, d)

-- where the cursor is at a word, the own version that it counts to has that number
pub at_cursor : {U : Type 0} (p : Part U) (at : Known) (j : ℕ) → is_at_cursor p at j ≡ true
    → (k : Known) × (slice_get p.hands.own (p.cycle.scan.cursor / field_count) ≡ Some k)
    × (k.version.0 ≡ at.version.0) × (j ≡ cursor_word p)
at_cursor p at j e =
    let next : Option Known = slice_get p.hands.own (p.cycle.scan.cursor / field_count) in
    let both = and_parts (is_next next at) (j == cursor_word p) e in
    let r = next_number next at both.0 in
    (r.0, r.1, r.2, eqb-true j (cursor_word p) both.1)

-- and where that has the number, the cursor is there
cursor_at : {U : Type 0} (p : Part U) (at k : Known) (j : ℕ)
    → slice_get p.hands.own (p.cycle.scan.cursor / field_count) ≡ Some k
    → k.version.0 ≡ at.version.0 → cursor_word p ≡ j → is_at_cursor p at j ≡ true
cursor_at p at k j there same word =
    rw there (rw (eq-eqb at.version.0 k.version.0 (sym same)) (eq-eqb j (cursor_word p) (sym word)))

-- what is looked up is published, and the word names it
looked_up : (s : Shape) (h : Heap) (x : ℕ) (k : Known)
    → ArePlaced s h.index h.places.dead h.places.used → lookup h.index x ≡ Some k
    → (x ≡ naming_word (Some k.version)) × IsPublished h.index k
looked_up s h zero k placed e = absurd (none_some k e)
looked_up s h (suc v) k placed e =
    let same : k.version.0 ≡ v = placed.numbered v k e in
    (omega (arith, same), ap h.index same ∙ e)

-- what a load finds is looked up
found_up : (index : Index) (l : Look) (x : ℕ) (k : Known) → look_finds index l x ≡ Some k
    → lookup index x ≡ Some k
found_up index (LoadStamp at) x k e = absurd (none_some k e)
found_up index (LoadReference at i) x k e = e
found_up index (LoadNumber at i) x k e = absurd (none_some k e)
found_up index (LoadLink at want) x k e = e

-- what was met afterwards is what was found where a scan stopped, or what was met before
met_cases : (a b : Bool) (found met : Option Known) (was : Known)
    → (if a then None else if b then found else met) ≡ Some was
    → (a ≡ false) × (((b ≡ true) × (found ≡ Some was)) ⊎ (met ≡ Some was))
met_cases true b found met was e = absurd (none_some was e)
met_cases false true found met was e = (refl, inl (refl, e))
met_cases false false found met was e = (refl, inr e)

-- versions of two callers have two numbers
owners_apart : (s : Shape) (a b : ℕ) (index : Index) (k m : Known) → IsOwn s a index k
    → IsOwn s b index m → k.version.0 ≡ m.version.0 → a ≡ b
owners_apart s a b index k m mine theirs same =
    let x = mine.at in
    let y = theirs.at in
    same_row a b s.regions mine.region theirs.region x.region_fits y.region_fits
    (same_row (a * s.regions + mine.region) (b * s.regions + theirs.region) s.versions mine.place
    theirs.place x.place_fits y.place_fits
    (sym (ap (λ (v : Version). v.0) x.number) ∙ (same ∙ ap (λ (v : Version). v.0) y.number)))

module _ {U : Type 0} (s : Shape) where
  -- a caller whose scan is as it was has met what it had met
  met_same : (h : Heap) (p q : Part U) → q.cycle.scan.met ≡ p.cycle.scan.met
      → q.cycle.scan.masks ≡ p.cycle.scan.masks → q.cycle.scan.cursor ≡ p.cycle.scan.cursor
      → q.hands.own ≡ p.hands.own → HasMet s h p → HasMet s h q
  met_same h p q met masks cursor own has was e =
      let m = has was (sym met ∙ e) in record {
        masks = ap (λ l. list_all is_some l) masks ∙ m.masks;
        at = m.at;
        there = (λ i. slice_get (own i) (cursor i / field_count)) ∙ m.there;
        named = (λ i. words_at s h.words m.at (field_word (cursor i % field_count))) ∙ m.named;
        published = m.published;
      }

  -- one that has met nothing needs nothing
  pub met_none : (h : Heap) (p : Part U) → p.cycle.scan.met ≡ None → HasMet s h p
  met_none h p none was e = absurd (none_some was (sym none ∙ e))

  -- where the word and the version stay, what was met stays
  pub met_stays : (h t : Heap) (p : Part U) → ((k was : Known) → Contains p.hands.own k
      → IsPublished h.index was
      → words_at s h.words k (cursor_word p) ≡ naming_word (Some was.version)
      → (words_at s t.words k (cursor_word p) ≡ words_at s h.words k (cursor_word p))
      × IsPublished t.index was) → HasMet s h p → HasMet s t p
  met_stays h t p stays has was e =
      let m = has was e in
      let own = slice_get_contains p.hands.own (p.cycle.scan.cursor / field_count) m.at m.there in
      let both = stays m.at was own m.published m.named in record {
        masks = m.masks;
        at = m.at;
        there = m.there;
        named = both.0 ∙ m.named;
        published = both.1;
      }

  -- letting go of a version changes nothing of what was met
  pub met_letting : (h : Heap) (p : Part U) (o : Option Known) → HasMet s h p
      → HasMet s h (letting p o)
  met_letting h p o = met_same h p (letting p o) refl refl refl refl

  -- nor does a tick
  pub met_after_tick : (h : Heap) (p : Part U) (t : Tick) (x : ℕ) → HasMet s h p
      → HasMet s h (readied p (Ticks t) x)
  met_after_tick h p LoadStage x =
      met_same h p (readied p (Ticks LoadStage) x) refl refl refl refl
  met_after_tick h p (MoveStage from to) x =
      met_same h p (readied p (Ticks (MoveStage from to)) x) refl refl refl refl
  met_after_tick h p (LoadReply of) x =
      met_same h p (readied p (Ticks (LoadReply of)) x) refl refl refl refl
  met_after_tick h p (StoreReply reply) x =
      met_same h p (readied p (Ticks (StoreReply reply)) x) refl refl refl refl

  -- nor a turn, and behind another step on roles nothing is met
  pub met_after_shift : (h : Heap) (p : Part U) (f : Shift) (x : ℕ) → HasMet s h p
      → HasMet s h (readied p (Shifts f) x)
  met_after_shift h p (LoadRoles of) x has = met_none h (readied p (Shifts (LoadRoles of)) x) refl
  met_after_shift h p (Join region roles) x has =
      met_none h (readied p (Shifts (Join region roles)) x) refl
  met_after_shift h p (Turn region roles) x has =
      met_same h p (readied p (Shifts (Turn region roles)) x) refl refl refl refl has
  met_after_shift h p (Reuse roles) x has = met_none h (readied p (Shifts (Reuse roles)) x) refl

-- an act is a store that shortens this word of a version, which is its caller's own
record Shortens {U : Type 0} (p : Part U) (act : Act) (k : Known) (j : ℕ) : Type 0 where
  at : Known
  target : Known
  is : act ≡ Builds (Shorten at j target)
  own : Contains p.hands.own at
  same : k.version.0 ≡ at.version.0

module _ {U : Type 0} (lawful : U → PlainStore → Type 0)
    (allowed : U → PlainStore → Entry → Type 0) (h : Heap) (seen : List Entry) (p : Part U)
    (good : HeapIsGood lawful allowed p.site h) (mine : PartIsGood p.site h seen p)
    (names : Name → Type 0) (make : Entry → Type 0) (clean : Type 0)
    (later : Known → ℕ → Known → Type 0) where
  abbrev s : Shape
  s = p.site.shape

  abbrev May : Act → Type 0
  May act = MayTake names make clean later p act

  -- the words after an act
  abbrev now : Act → ℕ → List ℕ
  now act x = slice_set h.words (word_of p act) (becomes act x)

  -- the next version is none that is published
  next_else : (k : Known) → IsPublished h.index k → HasRoom p → k.version.0 ≢ (next_version p).0
  next_else k there room e = none_some k
      (sym (next_none lawful allowed h seen p good mine room) ∙ (ap h.index (sym e) ∙ there))

  -- a word that is not 0 is another than a link of 0
  link_else : (at k : Known) (j : ℕ) → 0 ≡ words_at s h.words at 0 → words_at s h.words k j ≢ 0
      → (k.version.0 ≢ at.version.0) ⊎ (j ≢ 0)
  link_else at k j link some = ⊎_elim
      (λ (e : k.version.0 ≡ at.version.0). inr (λ z.
      some (ap (slice_index h.words) (word_same s k.version at.version j 0 e z) ∙ sym link)))
      (λ (ne : k.version.0 ≢ at.version.0). inl ne)
      (cases_eq k.version.0 at.version.0)

  -- a look or a build leaves a word of a published version that is not 0, or shortens it
  word_stays : (act : Act) → IsWork act → May act → (x : ℕ)
      → x ≡ slice_index h.words (word_of p act) → (k : Known) (j : ℕ) → IsPublished h.index k
      → j < 16 → words_at s h.words k j ≢ 0
      → (words_at s (now act x) k j ≡ words_at s h.words k j) ⊎ Shortens p act k j
  word_stays (Looks l) work may x is k j there low some =
      inl (ap (λ (l : List ℕ). words_at s l k j) (same_word h.words (word_of p (Looks l)) x is))
  word_stays (Builds (StoreOwn i word)) work may x is k j there low some =
      inl (elsewhere s h.words k.version (next_version p) j i word low may.below
      (inl (next_else k there may.room)))
  word_stays (Builds (Publish fresh)) work may x is k j there low some =
      inl (elsewhere s h.words k.version (next_version p) j 0 0 low (omega arith)
      (inl (next_else k there may.first.room)))
  word_stays (Builds (LinkStore at fresh entry)) work may zero is k j there low some =
      inl (elsewhere s h.words k.version at.version j 0 (naming_word (Some fresh.version)) low
      (omega arith) (link_else at k j is some))
  word_stays (Builds (LinkStore at fresh entry)) work may (suc n) is k j there low some =
      inl (ap (λ (l : List ℕ). words_at s l k j)
      (same_word h.words (word_at s at.version 0) (suc n) is))
  word_stays (Builds (Shorten at i target)) work may x is k j there low some =
      let other : (k.version.0 ≢ at.version.0) ⊎ (j ≢ i)
      → words_at s (now (Builds (Shorten at i target)) x) k j ≡ words_at s h.words k j =
      elsewhere s h.words k.version at.version j i (naming_word (Some target.version)) low
      (naming_low i may.word) in
      ⊎_elim
      (λ (e : k.version.0 ≡ at.version.0). ⊎_elim
      (λ (d : j ≡ i). inr record {
        at = at;
        target = target;
        is = ap (λ (n : ℕ). Builds (Shorten at n target)) (sym d);
        own = may.own;
        same = e;
      })
      (λ (d : j ≢ i). inl (other (inr d)))
      (cases_eq j i))
      (λ (ne : k.version.0 ≢ at.version.0). inl (other (inl ne)))
      (cases_eq k.version.0 at.version.0)
  word_stays (Ticks t) work may x is k j there low some = absurd work
  word_stays (Shifts f) work may x is k j there low some = absurd work

  -- a word that names a version is not 0
  some_met : (k was : Known) (j : ℕ) → words_at s h.words k j ≡ naming_word (Some was.version)
      → words_at s h.words k j ≢ 0
  some_met k was j named e = let both = sym named ∙ e in absurd (omega (arith, both))

  -- a look or a build by a caller, which has met something before, or meets it now
  module _ (m : Move) (work : IsWork m.act) (may : May m.act) (x : ℕ)
      (is : x ≡ slice_index h.words (word_of p m.act)) where
    -- a scan that stops has met what it finds
    stopped : (act : Act) → x ≡ slice_index h.words (word_of p act)
        → stops p m (finds h.index act x) act ≡ true → (was : Known)
        → finds h.index act x ≡ Some was → IsMet s h p was
    stopped (Looks l) is stop was e =
        let here : Bool = is_at_cursor p (looked_at l) (looked_word l) in
        let scans : Bool = m.scan && is_scanning p in
        let first = and_parts (scans && has_masks p && here)
        (meets p (finds h.index (Looks l) x)) stop in
        let second = and_parts (scans && has_masks p) here first.0 in
        let at = at_cursor p (looked_at l) (looked_word l) second.1 in
        let up = looked_up s h x was good.placed (found_up h.index l x was e) in
        record {
          masks = (and_parts scans (has_masks p) second.0).1;
          at = at.0;
          there = at.1;
          named = ap (slice_index h.words) (word_same s at.0.version (looked_at l).version
              (cursor_word p) (looked_word l) at.2 (sym at.3)) ∙ (sym is ∙ up.0);
          published = up.1;
        }
    stopped (Builds b) is stop was e = absurd (true≢false (sym stop))
    stopped (Ticks t) is stop was e = absurd (true≢false (sym stop))
    stopped (Shifts f) is stop was e = absurd (true≢false (sym stop))

    -- a store that shortens the word at the cursor passes it
    passed : (found : Option Known) (was : Known) (met : IsMet s h p was)
        → Shortens p m.act met.at (cursor_word p) → passes p m found m.act ≡ false → ⊥
    passed found was met short none =
        let here = cursor_at p short.at met.at (cursor_word p) met.there short.same refl in
        true≢false (sym (rw met.masks here) ∙ (ap (passes p m found) (sym short.is) ∙ none))

    -- a version that is published stays so
    still_there : (was : Known) → IsPublished h.index was
        → IsPublished (index_with h.index (publishes m.act x)) was
    still_there was there = index_more h.index (publishes m.act x) was
        (fresh_now lawful allowed h seen p good mine names make clean later m.act may x) there

    -- so what the caller has met afterwards is so
    pub met_own : HasMet s h p
        → HasMet s (heap_worked h p m.act x) (worked p m x (finds h.index m.act x))
    met_own has was e =
        let found : Option Known = finds h.index m.act x in
        let own : List Known = p.hands.own in
        let c : ℕ = p.cycle.scan.cursor in
        let passing : Bool = passes p m found m.act in
        let stopping : Bool = stops p m found m.act in
        let b = met_cases passing stopping found p.cycle.scan.met was e in
        let met : IsMet s h p was = ⊎_elim
        (λ (t : (stopping ≡ true) × (found ≡ Some was)). stopped m.act is t.0 was t.1)
        (λ (t : p.cycle.scan.met ≡ Some was). has was t) b.1 in
        let there = mine.hands.own met.at
        (slice_get_contains own (c / field_count) met.at met.there) in
        let word : words_at s (now m.act x) met.at (cursor_word p)
        ≡ words_at s h.words met.at (cursor_word p) = ⊎_elim
        (λ t. t)
        (λ (t : Shortens p m.act met.at (cursor_word p)). absurd (passed found was met t b.0))
        (word_stays m.act work may x is met.at (cursor_word p) there.published (cursor_low p)
        (some_met met.at was (cursor_word p) met.named)) in
        let cursor : cursor_after p m found ≡ c = stays_there passing c b.0 in
        record {
          masks = met.masks;
          at = met.at;
          there = (λ i. slice_get (own ++ listed (publishes m.act x)) (cursor i / field_count))
              ∙ (get_before own (listed (publishes m.act x)) (c / field_count)
              (slice_get_within own (c / field_count) met.at met.there) ∙ met.there);
          named = (λ i. words_at s (now m.act x) met.at (field_word (cursor i % field_count)))
              ∙ (word ∙ met.named);
          published = still_there was met.published;
        }

    -- and what another has met is so, since no word of another's versions is shortened
    pub met_other : (known : List Entry) (z : Part U) → z.number ≢ p.number
        → PartIsGood p.site h known z → HasMet s h z → HasMet s (heap_worked h p m.act x) z
    met_other known z apart theirs = met_stays s h (heap_worked h p m.act x) z
        (λ k was own there named. (
          ⊎_elim (λ t. t)
              (λ (t : Shortens p m.act k (cursor_word z)). absurd (apart
              (owners_apart s z.number p.number h.index k t.at (theirs.hands.own k own)
              (mine.hands.own t.at t.own) t.same)))
              (word_stays m.act work may x is k (cursor_word z) (theirs.hands.own k own).published
              (cursor_low z) (some_met k was (cursor_word z) named)),
          still_there was there,
        ))
