-- A caller that builds: what it and its heap show, and what its step has to leave.
use Rattle.std.proofs.Common.{◌≡◌, ◌≢◌, ◌<◌, ◌≤◌, ◌+◌, ◌*◌, ◌&&◌, ◌||◌, ◌==◌, not, nat_lt, ℕ, zero, suc, Bool, true, false, List, [], ◌∷◌, ◌++◌, length, Option, Some, None, IsSome, is_some, Contains, slice_set, slice_index_or, if◌then◌else◌, refl, sym, ap, ◌∙◌, subst, arith, inl, inr, ⊎_elim, eq-eqb, eqb-true, get_or-set_other, append-nil}
use Rattle.std.specs.Prelude.{slice_get}
use Rattle.std.proofs.lemmas.Bool.{and_parts}
use Rattle.std.proofs.lemmas.Bool.Decides.{nat_tests}
use Rattle.hm_moves.proofs.Words.{common_steps, length-append, Shape, version_count, Known, Part, HasRoom, without, with_held, Heap, ArePlaced, PartIsGood, Entry, word_count, Move, Builds, part_after, Name, IsThere, store_of, row_count, IsPublished}
use Rattle.hm_moves.specs.Acts.{next_version, built_version, build_finds, listed}
use Rattle.hm_moves.specs.After.{written_with, heap_after}
use Rattle.hm_moves.specs.Allowed.{Names}
use Rattle.hm_moves.proofs.Words.{MayLookInto}
use Rattle.hm_rounds.specs.Allowed as rounds_may
use Rattle.hm_rounds.specs.Parts as parts
use Rattle.hm_moves.specs.declared.part.End.{End}
use Rattle.hm_moves.specs.Places.{row_of}
use Rattle.hm_moves.proofs.Numbers.{row_below, version_below}
use Rattle.hm_moves.specs.Cycles.{cursor_after, mark_after, field_count, field_word, holds_from, known_from}
use Rattle.hm_moves.specs.Showing.{ShowsHeap, ShowsPart, role_shown, name_shown, version_shown, next_shown}
use Rattle.hm_moves.proofs.Live.{any_contains, any_found, from_scan, look_may, region_is, owner_at}
use Rattle.hm_rounds.specs.State as state
use Rattle.hm_rounds.specs.State.{State, put}
use Rattle.hm_rounds.specs.Bareness.{MayBeBare, ends_bareness}
use Rattle.hm_rounds.specs.Views as rounds
use Rattle.hm_rounds.specs.Rule as rule
use Rattle.hm_rounds.specs.Steps as steps
use Rattle.hm_rounds.specs.After as turned
use Rattle.hm_rounds.specs.Allowed.{HasPlace}
use Rattle.hm_moves.specs.declared.moving.Build.{Build}
use Rattle.hm_moves.proofs.Fields.{shown_as, any_shown, any_more, not_true, or_none, or_twice, or_cases, or_left, or_later, put_same, none_known}
use Rattle.hm_moves.proofs.Gone.{next_some, Acted}
use Rattle.hm_moves.proofs.Words.{AreTrue, AreChained}
use Rattle.hm_model.specs.History.{IsLegal}

-- what a list has stays where more comes behind it
pub get_before : (l m : List Known) (i : ℕ) → i < length l → slice_get (l ++ m) i ≡ slice_get l i
get_before [] m i low = absurd (omega (arith, low))
get_before (k ∷ ks) m zero low = refl
get_before (k ∷ ks) m (suc i) low = get_before ks m i (omega (arith, low))

not_less : (a b : ℕ) → a ≡ b → nat_lt a b ≡ false
not_less a b e = grind (arith, nat_tests, e)

-- what holds of a heap, of a caller that takes a step, and of the state that they show
pub record Ready {U : Type 0} (h : Heap) (seen : List Entry) (p : Part U) (moves : ℕ → ℕ)
    (x : State)
    : Type 0 where
  pub wide : length h.words ≡ word_count p.site.shape
  pub placed : ArePlaced p.site.shape h.index h.places.dead h.places.used
  pub contents : AreTrue p.site.shape h.words h.index
  pub chained : AreChained p.site.shape h.words h.index (store_of h.history)
  pub legal : IsLegal p.site.start h.history
  pub mine : PartIsGood p.site h seen p
  pub rules : rule.Good x
  pub shows : ShowsHeap p.site.shape h moves x
  pub part : ShowsPart p.site.shape moves x p

-- a move that builds, and the caller after it
abbrev pub move : Bool → Option Known → Build → Move
move by_scan o b = record { act = Builds b; scan = by_scan; let_go = o }

abbrev pub later : {U : Type 0} → Part U → Bool → Option Known → Build → ℕ → Option Known → Part U
later p by_scan o b w found = part_after p (move by_scan o b) w found

-- the bareness that the step before letting go says
abbrev pub bare_then : {U : Type 0} → Part U → Part U → Bool
bare_then p P = p.cycle.scan.bare && not (holds_from P)

module _ {U : Type 0} {h : Heap} {seen : List Entry} {p : Part U} {moves : ℕ → ℕ} {x : State}
    (ready : Ready h seen p moves x) where
  abbrev its : Shape
  its = p.site.shape

  abbrev me : ℕ
  me = p.number

  abbrev its_row : ℕ
  its_row = row_of p.site.shape p.number p.draft.region

  -- its To region is a row, in which a place is left where it has room
  pub its_row_low : its_row < row_count its
  its_row_low = row_below its p.number p.draft.region ready.mine.number ready.mine.draft.region

  pub its_room : HasRoom p → h.places.used its_row < its.versions
  its_room room = subst (λ (n : ℕ). n < its.versions) ready.mine.draft.used room

  -- its next version lies at the first unused place of that row
  pub next_at : (next_version p).0 ≡ its_row * its.versions + h.places.used its_row
  next_at = ap (λ (n : ℕ). its_row * its.versions + n) ready.mine.draft.used

  pub next_low : HasRoom p → (next_version p).0 < version_count its
  next_low room = version_below its its_row p.draft.used its_row_low room

  -- and is its next in the state
  pub next_here : HasRoom p → x.hands.next me ≡ version_shown (next_version p)
  next_here room = ready.part.hands.next ∙ next_some p room

  pub in_its_row : HasRoom p → x.shape.region (x.hands.next me) ≡ its_row
  in_its_row room = ap x.shape.region (next_here room)
      ∙ region_is its h moves x ready.shows (next_version p).0 its_row p.draft.used room refl

  -- a place is left in the state too
  pub has_place : HasRoom p → HasPlace x me
  has_place room = record {
    some = λ e. (let all = sym (next_here room) ∙ e in omega (arith, all));
    owner = ap x.shape.owner (in_its_row room)
        ∙ owner_at its h moves x ready.shows p.number p.draft.region ready.mine.number
        ready.mine.draft.region;
    to = ap x.roles (in_its_row room) ∙ (ready.shows.role its_row its_row_low
        ∙ ap role_shown ready.mine.draft.to);
    unused = ap x.uses.used (next_here room)
        ∙ (ready.shows.used its_row p.draft.used its_row_low room
        ∙ not_less p.draft.used (h.places.used its_row) ready.mine.draft.used);
    left = subst (λ (z : state.Shape). x.uses.filled (x.shape.region (x.hands.next me)) < z.places)
        (sym ready.shows.shape)
        (let a = ap x.uses.filled (in_its_row room) ∙ ready.shows.filled its_row its_row_low in
        let b = its_room room in omega (arith, a, b));
  }

  -- it is one of the callers of the state, and fields are the same there
  pub me_below : me < x.shape.callers
  me_below = subst (λ (z : state.Shape). me < z.callers) (sym ready.shows.shape) ready.mine.number

  pub fields_low : (f : ℕ) → f < field_count → f < x.shape.fields
  fields_low f low = subst (λ (z : state.Shape). f < z.fields) (sym ready.shows.shape) low

  pub fields_back : (f : ℕ) → f < x.shape.fields → f < field_count
  fields_back f low = subst (λ (z : state.Shape). f < z.fields) ready.shows.shape low

  -- what was passed is so where own versions are more, and the scan has come no further
  pub passed_before : (n : Option Known) (i f : ℕ) (k : Known) → slice_get (p.hands.own ++ listed n)
      i
      ≡ Some k
      → f < field_count → i * field_count + f < p.cycle.scan.cursor
      → x.scan.passed me (version_shown k.version) f ≡ true
  passed_before n i f k get low less =
      let short = ready.part.scan.short in
      let small : i < length p.hands.own = omega (arith, short, less) in
      ready.part.scan.passed i f k (sym (get_before p.hands.own (listed n) i small) ∙ get) low less

  pub short_before : (n : Option Known) → p.cycle.scan.cursor ≤ length (p.hands.own ++ listed n) *
      field_count
  short_before n =
      let short = ready.part.scan.short in
      let more = length-append p.hands.own (listed n) in omega (arith, short, more)

  -- a caller that was bare is said to be so still, where it holds nothing of from-space
  pub bare_then_is : (P : Part U) → p.cycle.scan.bare ≡ true → holds_from P ≡ false
      → put x.bare me (bare_then p P) me ≡ true
  bare_then_is P a b = put_same x.bare me (bare_then p P) ∙ grind (arith, a, b, common_steps)

  -- nothing more is there
  pub no_more : (n : Name) → IsThere (store_of h.history) n → IsThere (store_of (h.history ++ [])) n
  no_more n there = subst (λ (l : List Entry). IsThere (store_of l) n) (sym (append-nil h.history))
      there

  -- the next version stays where no place more is used
  abbrev pub next_in : ℕ → ℕ
  next_in used = if nat_lt used its.versions
      then suc ((me * its.regions + p.draft.region) * its.versions + used) else 0

  pub next_stays : x.hands.next me ≡ next_in (p.draft.used + 0)
  next_stays = ready.part.hands.next ∙ ap next_in (omega arith)

  pub room_stays : p.draft.used + 0 < its.versions → HasRoom p
  room_stays room = omega (arith, room)

  -- what it holds is held, and nothing is found or published
  pub held_stays : (v : ℕ) → x.hands.held me v ≡ ((any_shown p.hands.held v || false) || false)
  held_stays v = ready.part.hands.held v ∙ or_twice (any_shown p.hands.held v)

  pub held_one : (k : Known) → Contains p.hands.held k → x.hands.held me (version_shown k.version)
      ≡ true
  held_one k there = ready.part.hands.held (version_shown k.version)
      ∙ any_contains (λ m. version_shown m.version == version_shown k.version) p.hands.held k there
      (eq-eqb (version_shown k.version) (version_shown k.version) refl)

  -- so a word that may be written names what is held
  pub named_held : (word : ℕ) → Names p.hands.held word → word ≢ 0 → x.hands.held me word ≡ true
  named_held word (inl z) ne = absurd (ne z)
  named_held word (inr r) ne = ap (x.hands.held me) (r.2 ∙ omega arith) ∙ held_one r.0 r.1

  -- mark and written words stay
  pub mark_stays : x.scan.mark me ≡ (p.cycle.scan.mark || false)
  mark_stays = ready.part.scan.mark ∙ or_none p.cycle.scan.mark

  pub written_stays : (f : ℕ) → f < field_count → HasRoom p
      → IsSome (slice_index_or p.draft.written (field_word f) None) → x.hands.written me f ≡ true
  written_stays = ready.part.hands.written

  -- a word more is stored, which is not that of a field
  pub stored_else : (i word f : ℕ) → f < field_count → HasRoom p → field_word f ≢ i
      → IsSome (slice_index_or (slice_set p.draft.written i (Some word)) (field_word f) None)
      → x.hands.written me f ≡ true
  stored_else i word f low room ne some = written_stays f low room
      (ap is_some (sym (get_or-set_other p.draft.written i (field_word f) (Some word) None ne))
      ∙ some)

  -- what a caller may look into is published
  pub look_there : (k : Known) → MayLookInto p k → IsPublished h.index k
  look_there k (inl held) = ready.mine.hands.held k held
  look_there k (inr own) = (ready.mine.hands.own k own).published

  -- and may be looked into in the state
  pub look_into : (k : Known) → MayLookInto p k → rounds_may.MayLook x me (version_shown k.version)
  look_into k look = look_may its h moves x ready.shows ready.rules ready.placed p ready.part
      ready.mine.hands ready.mine.number k look

  -- it is one of the versions of the heap
  pub low_there : (k : Known) → IsPublished h.index k → k.version.0 < version_count its
  low_there k there = ready.placed.fits k there

module _ {U : Type 0} {h : Heap} {seen : List Entry} {p : Part U} {moves : ℕ → ℕ} {x : State}
    (ready : Ready h seen p moves x) (by_scan : Bool) (o : Option Known) where
  -- what is known of the step before a version is let go: which version it finds, and the state
  -- after it
  module _ (b : Build) (w : ℕ) (found : Option Known) (now : Heap) (uses : state.Uses)
      (versions : state.Versions)
      (store : state.Store) (scan : state.Scan) (hands : state.Hands) (bare : ℕ → Bool) where
    abbrev new : Option Known
    new = built_version b w

    abbrev turned_to : State
    turned_to = record x {
      uses = uses;
      versions = versions;
      store = store;
      scan = scan;
      hands = hands;
      bare = bare;
    }

    -- so much of that state makes it one that the caller shows
    pub acted_of : rule.Good turned_to → ShowsHeap p.site.shape now moves turned_to
        → scan.mark p.number ≡ mark_after p (move by_scan o b) found
        → ((i f : ℕ) (k : Known) → slice_get (p.hands.own ++ listed new) i ≡ Some k
        → f < field_count
        → i * field_count + f < cursor_after p (move by_scan o b) found
        → scan.passed p.number (version_shown k.version) f ≡ true)
        → cursor_after p (move by_scan o b) found ≤ length (p.hands.own ++ listed new) * field_count
        → scan.ends ≡ x.scan.ends
        → ((v : ℕ) → hands.held p.number v
        ≡ ((any_shown p.hands.held v || shown_as found v) || shown_as new
        v))
        → hands.next p.number ≡ next_shown (later p by_scan o b w found)
        → ((f : ℕ) → f < field_count → HasRoom (later p by_scan o b w found)
        → IsSome (slice_index_or (written_with p.draft.written (Builds b) new) (field_word f) None)
        → hands.written p.number f ≡ true)
        → (p.cycle.scan.bare ≡ true → holds_from (later p by_scan o b w found) ≡ false
        → bare p.number ≡ true)
        → Acted (later p by_scan o b w found) now moves turned_to p.hands.held found new o
        (written_with p.draft.written (Builds b) new) p.cycle.scan.bare
    acted_of rules_now shown marked passed short ended held_were next written_were bare_was =
        record {
          rule = rules_now;
          heap = shown;
          clock = record {
            seen = ready.part.clock.seen;
            reply = ready.part.clock.reply;
            wide = ready.part.clock.wide;
            replies = ready.part.clock.replies;
            moved = ready.part.clock.moved;
          };
          ties = record {
            wide = ready.part.ties.wide;
            roles = ready.part.ties.roles;
            single = ready.part.ties.single;
            join = ready.part.ties.join;
            done = ready.part.ties.done;
          };
          scan = record {
            wide = ready.part.scan.wide;
            loaded = ready.part.scan.loaded;
            from = ready.part.scan.from;
            mark = marked;
            passed = passed;
            short = short;
            ends = λ e there. ap (λ (z : ℕ → ℕ → ℕ → Bool). z p.number (name_shown e.name) e.rank)
                ended
                ∙ ready.part.scan.ends e
                (subst (λ (l : List End). Contains l e) (append-nil p.cycle.scan.ends)
                there);
            bare = λ e. absurd (cc);
            holds = λ e. absurd (cc);
          };
          held_were = held_were;
          held_are = refl;
          next = next;
          written_were = written_were;
          written_are = refl;
          bare_was = bare_was;
          bare_is = refl;
        }

  -- nothing that is held, or comes to be so, is known as from-space then
  module _ (b : Build) (w : ℕ) (found : Option Known)
      (low : (k : Known) → Contains (later p by_scan o b w found).hands.held k
      → k.version.0 < version_count p.site.shape) where
    -- what is held, or found, or published, is not known as from-space by a caller that stays bare
    pub clean_then : bare_then p (later p by_scan o b w found) ≡ true → (v : ℕ)
        → ((any_shown p.hands.held v || shown_as found v) || shown_as (built_version b w) v) ≡ true
        → rounds.known_from x.shape x.masks p.number v ≡ false
    clean_then e v is =
        let P : Part U = later p by_scan o b w found in
        let n : Option Known = built_version b w in
        let parts = and_parts p.cycle.scan.bare (not (holds_from P)) e in
        let now : holds_from P ≡ false = not_true (holds_from P) parts.1 in
        let before : holds_from p ≡ false = ready.part.scan.holds parts.0 in
        let left : List Known = without p.hands.held o in
        let new_more = any_more (with_held left found) n v in
        let found_more = any_more left found v in
        ⊎_elim
        (λ (t : any_shown p.hands.held v ≡ true).
        let r = any_found (λ k. version_shown k.version == v) p.hands.held t in
        by_known r.0 v r.2 (ready.placed.fits r.0 (ready.mine.hands.held r.0 r.1))
        (none_known p r.0 r.1 before))
        (λ (t : any_shown P.hands.held v ≡ true).
        let r = any_found (λ k. version_shown k.version == v) P.hands.held t in
        by_known r.0 v r.2 (low r.0 r.1) (none_known P r.0 r.1 now))
        (⊎_elim
        (λ (t : (any_shown p.hands.held v || shown_as found v) ≡ true).
        ⊎_elim (λ (u : any_shown p.hands.held v ≡ true). inl u)
        (λ (u : shown_as found v ≡ true).
        inr (new_more ∙ or_left (any_shown (with_held left found) v) (shown_as n v)
        (found_more ∙ or_later (any_shown left v) (shown_as found v) u)))
        (or_cases (any_shown p.hands.held v) (shown_as found v) t))
        (λ (t : shown_as n v ≡ true).
        inr (new_more ∙ or_later (any_shown (with_held left found) v) (shown_as n v) t))
        (or_cases (any_shown p.hands.held v || shown_as found v) (shown_as n v) is))
      where
        by_known : (k : Known) (v : ℕ) → (version_shown k.version == v) ≡ true
            → k.version.0 < version_count p.site.shape
            → known_from p k.version ≡ false → rounds.known_from x.shape x.masks p.number v ≡ false
        by_known k v at small none =
            ap (λ (n : ℕ). rounds.known_from x.shape x.masks p.number n)
            (sym (eqb-true (version_shown k.version) v at))
            ∙ (from_scan x p ready.shows.shape ready.part.scan k.version small ∙ none)

    -- so the caller may be said to be bare
    pub may_be_bare_then : (t : steps.Step) → ends_bareness t ≡ false
        → ((v : ℕ)
        → (turned.after x p.number (bare_then p (later p by_scan o b w found)) t).hands.held
        p.number v
        ≡ ((any_shown p.hands.held v || shown_as found v) || shown_as (built_version b w) v))
        → (turned.after x p.number (bare_then p (later p by_scan o b w found)) t).masks ≡ x.masks
        → MayBeBare x p.number (bare_then p (later p by_scan o b w found)) t
    may_be_bare_then t builds held masks e = inr record {
      was = ready.part.scan.bare (and_parts p.cycle.scan.bare
          (not (holds_from (later p by_scan o b w found))) e).0;
      stays = builds;
      held = λ v is. ap (λ (z : state.Masks). rounds.known_from x.shape z p.number v) masks
          ∙ clean_then e v (sym (held v) ∙ is);
    }

  -- the state after a step that builds, before a version is let go
  pub record Turned (b : Build) (w : ℕ) : Type 0 where
    pub now : State
    pub acted : Acted (later p by_scan o b w (build_finds h.index b w))
        (heap_after h p (Builds b) w) moves
        now p.hands.held
        (build_finds h.index b w) (built_version b w) o
        (written_with p.draft.written (Builds b) (built_version b w)) p.cycle.scan.bare
    pub others : (r : ℕ) → r ≢ p.number → parts.part_of now r ≡ parts.part_of x r
    pub roles : (row : ℕ) → now.roles row ≡ x.roles row

  -- what the caller holds afterwards lies among the versions of the heap
  abbrev pub AreLow : Build → ℕ → Type 0
  AreLow b w = (k : Known) → Contains (later p by_scan o b w (build_finds h.index b w)).hands.held k
      → k.version.0 < version_count p.site.shape
