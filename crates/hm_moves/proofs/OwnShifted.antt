-- The caller that makes a step on roles, and its rows afterwards.
use Rattle.std.proofs.Common.{◌≡◌, ◌≢◌, ◌⊎◌, ◌<◌, ℕ, Bool, true, false, List, [], ◌++◌, length, slice_set, Contains, refl, sym, ap, ◌∙◌, subst, arith, ⊎_elim, append-nil, if◌then◌else◌}
use Rattle.std.proofs.lemmas.Bool.{cases_eq}
use Rattle.hm_moves.proofs.Words.{get_or-map, Shape, IsAt, version_at, PlainStore, Entry, Heap, row_of, row_count, Places, Known, Part, HeapIsGood, PartIsGood, AreIndexed, AreApart, heap_after}
use Rattle.hm_shape.specs.declared.roles.Role.{Role}
use Rattle.hm_shape.specs.declared.roles.Role.TheVariants.{Free, To, From}
use Rattle.hm_shape.specs.declared.roles.Roles.{Roles}
use Rattle.hm_moves.specs.declared.moving.Act.TheVariants.{Shifts}
use Rattle.hm_moves.specs.declared.moving.Shift.{Shift}
use Rattle.hm_moves.specs.declared.moving.Shift.TheVariants.{LoadRoles, Join, Turn, Reuse}
use Rattle.hm_moves.specs.Acts.{shift_word, shifted_word}
use Rattle.hm_moves.specs.After.{is_row_of, freed_rows, places_shifted}
use Rattle.hm_moves.specs.Allowed.{MayShift, MayJoin, MayTurn, MayReuse}
use Rattle.hm_moves.specs.Cycles.{is_from, is_free, is_kept, role_at}
use Rattle.hm_moves.specs.Good.{IsDrafting, row_in}
use Rattle.hm_moves.specs.Shifts.{frees, fresh_draft, joined_role, readied, reused_role, taking, turned_role}
use Rattle.hm_moves.specs.Showing.{ShowsHeap, ShowsPart}
use Rattle.hm_rounds.specs.State.{State}
use Rattle.hm_rounds.specs.Rule as rounds
use Rattle.hm_moves.proofs.Numbers.{row_below}
use Rattle.hm_moves.proofs.Held.{none_written}
use Rattle.hm_moves.proofs.Dying.{row_of_at}
use Rattle.hm_moves.proofs.ShiftRows.{apart_behind, drafting_same, free_is, joined_free, joined_kept, left_apart, left_cases, left_still, no_free, not_both_left, not_both_right, not_freed, not_from, nothing_there, reused_kept, role_once, row_is, row_role, taken_else, taken_to, three_whole, turned_kept, zero_left}
use Rattle.hm_moves.proofs.Shifted.{beside, calls_shifted, free_alive, free_empty, freed_parts, left_gone}

module _ {U : Type 0} (lawful : U → PlainStore → Type 0) (allowed : U → PlainStore → Entry → Type 0)
    (h : Heap) (seen : List Entry) (p : Part U) (good : HeapIsGood lawful allowed p.site h)
    (mine : PartIsGood p.site h seen p) (moves : ℕ → ℕ) (x : State)
    (shows : ShowsHeap p.site.shape h moves x) (rule : rounds.Good x)
    (shown : ShowsPart p.site.shape moves x p) where
  abbrev s : Shape
  s = p.site.shape

  abbrev own_row : ℕ → ℕ
  own_row g = row_of s p.number g

  abbrev freed : ℕ → Bool
  freed = freed_rows p h.places

  -- the roles that a caller knows as its own are those of its rows
  role_own : (g : ℕ) → g < s.regions → role_at p.cycle.ties.roles g ≡ h.places.role (own_row g)
  role_own g low = role_once (role_at p.cycle.ties.roles g) (h.places.role (own_row g))
      (sym (shown.ties.roles g low) ∙ shows.role (own_row g)
      (row_below s p.number g mine.number low))

  roles_low : (g : ℕ) → g < s.regions → g < length p.cycle.ties.roles.0
  roles_low g low = let wide : length p.cycle.ties.roles.0 ≡ 8 = shown.ties.wide in
      let four : s.regions ≡ 4 = s.regions_fit in omega arith

  -- the rows afterwards
  abbrev rows : Shift → Places
  rows f = places_shifted p h.places f

  abbrev words : Shift → ℕ → List ℕ
  words f z = slice_set h.words (shift_word s p.number f) (shifted_word f z)

  -- the caller's own rows after a join: one is To, and what it kept is From
  module _ (region : ℕ) (roles : Roles) (may : MayJoin p region roles) where
    abbrev joined : Places
    joined = rows (Join region roles)

    join_is : (g : ℕ) → g < s.regions
        → joined.role (own_row g)
        ≡ role_at (taking p.cycle.ties.roles (joined_role (frees p)) region) g
    join_is g low = row_role s p.number roles freed h.places g low ∙ ap (λ (r : Roles). role_at r g)
        may.is

    join_to : joined.role (own_row region) ≡ To
    join_to = join_is region may.takes.below
        ∙ taken_to p.cycle.ties.roles (joined_role (frees p)) region
        (roles_low region may.takes.below)

    join_else : (g : ℕ) → g < s.regions → g ≢ region
        → joined.role (own_row g) ≡ joined_role (frees p) (h.places.role (own_row g))
    join_else g low ne = join_is g low
        ∙ (taken_else p.cycle.ties.roles (joined_role (frees p)) region g ne (roles_low g low)
        ∙ ap (joined_role (frees p)) (role_own g low))

    -- the region that is taken was Free, or From and is freed
    join_taken : (h.places.role (own_row region) ≡ Free)
        ⊎ ((h.places.role (own_row region) ≡ From) × (frees p ≡ true))
    join_taken = joined_free (frees p) (h.places.role (own_row region))
        (ap (λ (r : Role). is_free (joined_role (frees p) r))
        (sym (role_own region may.takes.below))
        ∙ may.takes.passes)

    freed_taken : h.places.role (own_row region) ≡ From → frees p ≡ true → freed (own_row region)
        ≡ true
    freed_taken from e =
        let a = row_is s p.number region may.takes.below in let b = ap is_from from in
        three_whole (is_row_of s p.number (own_row region))
        (is_from (h.places.role (own_row region)))
        (frees p) a b e

    join_live : joined.dead (own_row region) ≡ false
    join_live = ⊎_elim
        (λ (free : h.places.role (own_row region) ≡ Free).
        not_both_left (h.places.dead (own_row region)) (freed (own_row region))
        (free_alive lawful allowed h seen p good mine moves x shows rule shown (own_row region)
        (row_below s p.number region mine.number may.takes.below) free))
        (λ (t : (h.places.role (own_row region) ≡ From) × (frees p ≡ true)).
        not_both_right (h.places.dead (own_row region)) (freed (own_row region))
        (freed_taken t.0 t.1))
        join_taken

    join_used : joined.used (own_row region) ≡ 0
    join_used = ⊎_elim
        (λ (free : h.places.role (own_row region) ≡ Free).
        zero_left (freed (own_row region)) (h.places.used (own_row region))
        (free_empty lawful allowed h seen p good mine moves x shows rule shown (own_row region)
        (row_below s p.number region mine.number may.takes.below) free))
        (λ (t : (h.places.role (own_row region) ≡ From) × (frees p ≡ true)).
        rw (freed_taken t.0 t.1) refl)
        join_taken

    join_given : (k : Known) → (g i : ℕ) → IsAt s k.version p.number g i
        → joined_role (frees p) (h.places.role (own_row g)) ≡ From
        → joined.role (row_in s k.version) ≡ From
    join_given k g i at from =
        ap joined.role (row_of_at s k.version p.number g i at)
        ∙ (join_else g at.region_fits
        (λ e. no_free (joined_role (frees p) (h.places.role (own_row g))) from
        (ap (λ (n : ℕ). is_free (joined_role (frees p) (h.places.role (own_row n)))) e
        ∙ (ap (λ (r : Role). is_free (joined_role (frees p) r))
        (sym (role_own region may.takes.below))
        ∙ may.takes.passes))) ∙ from)

    join_hands : AreIndexed s p.number h.index joined
        (readied p (Shifts (Join region roles)) 0).hands
    join_hands = record {
      held = mine.hands.held;
      own = λ k there. absurd (nothing_there k there);
      kept = λ k there. absurd (nothing_there k there);
      left = λ k there. ⊎_elim
          (λ (c : (frees p ≡ false) × Contains p.hands.left k). mine.hands.left k c.1)
          (λ (c : Contains p.hands.own k). let own = mine.hands.own k c in
          record { region = own.region; place = own.place; at = own.at })
          (left_cases (frees p) p.hands.left p.hands.own k there);
      given = λ k there. ⊎_elim
          (λ (c : (frees p ≡ false) × Contains p.hands.left k). let lies = mine.hands.left k c.1 in
          let from : h.places.role (own_row lies.region) ≡ From =
          ap h.places.role (sym (row_of_at s k.version p.number lies.region lies.place lies.at))
          ∙ mine.hands.given k c.1 in
          join_given k lies.region lies.place lies.at
          (ap (λ (b : Bool). joined_role b (h.places.role (own_row lies.region))) c.0
          ∙ ap (joined_role false) from))
          (λ (c : Contains p.hands.own k). let own = mine.hands.own k c in
          let kept : is_kept (h.places.role (own_row own.region)) ≡ true =
          ap (λ (r : ℕ). is_kept (h.places.role r))
          (sym (row_of_at s k.version p.number own.region own.place own.at)) ∙ mine.hands.kept k
          c in
          join_given k own.region own.place own.at
          (joined_kept (frees p) (h.places.role (own_row own.region)) kept))
          (left_cases (frees p) p.hands.left p.hands.own k there);
      alive = λ k there lives. ⊎_elim
          (λ (c : (frees p ≡ false) × Contains p.hands.left k). mine.hands.alive k c.1
          (not_freed (h.places.dead (row_in s k.version)) (freed (row_in s k.version)) (frees p)
          lives
          (λ e. (freed_parts lawful allowed h seen p good mine moves x shows rule shown
          (row_in s k.version) e).2) c.0))
          (λ (c : Contains p.hands.own k). (mine.hands.own k c).published)
          (left_cases (frees p) p.hands.left p.hands.own k there);
      all = λ k own. subst (λ (l : List Known). Contains l k)
          (sym (append-nil ((if frees p then [] else p.hands.left) ++ p.hands.own)))
          (left_still (frees p) p.hands.left p.hands.own k
          (λ e c. left_gone lawful allowed h seen p good mine moves x shows rule shown e k own c)
          (mine.hands.all k own));
      once = subst AreApart
          (sym (append-nil ((if frees p then [] else p.hands.left) ++ p.hands.own)))
          (left_apart (frees p) p.hands.left p.hands.own mine.hands.once);
    }

  -- the caller's own rows after a turn: one that was Free is To
  module _ (region : ℕ) (roles : Roles) (may : MayTurn p region roles) where
    abbrev turned : Places
    turned = rows (Turn region roles)

    turn_is : (g : ℕ) → g < s.regions
        → turned.role (own_row g) ≡ role_at (taking p.cycle.ties.roles turned_role region) g
    turn_is g low = row_role s p.number roles (λ row. false) h.places g low
        ∙ ap (λ (r : Roles). role_at r g) may.is

    turn_to : turned.role (own_row region) ≡ To
    turn_to = turn_is region may.takes.below
        ∙ taken_to p.cycle.ties.roles turned_role region (roles_low region may.takes.below)

    turn_else : (g : ℕ) → g < s.regions → g ≢ region
        → turned.role (own_row g) ≡ turned_role (h.places.role (own_row g))
    turn_else g low ne = turn_is g low
        ∙ (taken_else p.cycle.ties.roles turned_role region g ne (roles_low g low)
        ∙ ap turned_role (role_own g low))

    turn_taken : is_free (h.places.role (own_row region)) ≡ true
    turn_taken = ap is_free (sym (role_own region may.takes.below)) ∙ may.takes.passes

    turn_free : h.places.role (own_row region) ≡ Free
    turn_free = free_is (h.places.role (own_row region)) turn_taken

    turn_low : own_row region < row_count s
    turn_low = row_below s p.number region mine.number may.takes.below

    turn_kept : (k : Known) (g i : ℕ) → IsAt s k.version p.number g i
        → is_kept (h.places.role (own_row g)) ≡ true → is_kept (turned.role (row_in s k.version))
        ≡ true
    turn_kept k g i at kept =
        ap (λ (r : ℕ). is_kept (turned.role r)) (row_of_at s k.version p.number g i at)
        ∙ ⊎_elim
        (λ (e : g ≡ region). ap (λ (n : ℕ). is_kept (turned.role (own_row n))) e
        ∙ ap is_kept turn_to)
        (λ (ne : g ≢ region). ap is_kept (turn_else g at.region_fits ne)
        ∙ turned_kept (h.places.role (own_row g)) kept)
        (cases_eq g region)

    turn_given : (k : Known) (g i : ℕ) → IsAt s k.version p.number g i
        → h.places.role (own_row g) ≡ From → turned.role (row_in s k.version) ≡ From
    turn_given k g i at from =
        ap turned.role (row_of_at s k.version p.number g i at)
        ∙ (turn_else g at.region_fits (λ e. no_free (h.places.role (own_row g)) from
        (ap (λ (n : ℕ). is_free (h.places.role (own_row n))) e ∙ turn_taken))
        ∙ ap turned_role from)

    turn_hands : AreIndexed s p.number h.index turned p.hands
    turn_hands = record {
      held = mine.hands.held;
      own = mine.hands.own;
      kept = λ k there. let own = mine.hands.own k there in
          turn_kept k own.region own.place own.at
          (ap (λ (r : ℕ). is_kept (h.places.role r))
          (sym (row_of_at s k.version p.number own.region own.place own.at)) ∙ mine.hands.kept k
          there);
      left = mine.hands.left;
      given = λ k there. let lies = mine.hands.left k there in
          turn_given k lies.region lies.place lies.at
          (ap h.places.role (sym (row_of_at s k.version p.number lies.region lies.place lies.at))
          ∙ mine.hands.given k there);
      alive = λ k there lives. mine.hands.alive k there
          (not_freed (h.places.dead (row_in s k.version)) false false lives (λ e. e) refl);
      all = mine.hands.all;
      once = mine.hands.once;
    }

  -- the caller's own rows after a reuse
  module _ (roles : Roles) (may : MayReuse p roles) where
    abbrev reused : Places
    reused = rows (Reuse roles)

    reuse_is : (g : ℕ) → g < s.regions
        → reused.role (own_row g) ≡ reused_role (h.places.role (own_row g))
    reuse_is g low = row_role s p.number roles freed h.places g low
        ∙ (ap (λ (r : Roles). role_at r g) may.is
        ∙ (get_or-map reused_role p.cycle.ties.roles.0 g Free Free (roles_low g low)
        ∙ ap reused_role (role_own g low)))

    -- its To row is not freed
    reuse_stays : freed (own_row p.draft.region) ≡ false
    reuse_stays = not_from (is_row_of s p.number (own_row p.draft.region))
        (is_from (h.places.role (own_row p.draft.region))) (frees p) (ap is_from mine.draft.to)

    reuse_kept : (k : Known) (g i : ℕ) → IsAt s k.version p.number g i
        → is_kept (h.places.role (own_row g)) ≡ true → is_kept (reused.role (row_in s k.version))
        ≡ true
    reuse_kept k g i at kept =
        ap (λ (r : ℕ). is_kept (reused.role r)) (row_of_at s k.version p.number g i at)
        ∙ (ap is_kept (reuse_is g at.region_fits) ∙ reused_kept (h.places.role (own_row g)) kept)

    reuse_hands : AreIndexed s p.number h.index reused (record p.hands { left = [] })
    reuse_hands = record {
      held = mine.hands.held;
      own = mine.hands.own;
      kept = λ k there. let own = mine.hands.own k there in
          reuse_kept k own.region own.place own.at
          (ap (λ (r : ℕ). is_kept (h.places.role r))
          (sym (row_of_at s k.version p.number own.region own.place own.at)) ∙ mine.hands.kept k
          there);
      left = λ k there. absurd (nothing_there k there);
      given = λ k there. absurd (nothing_there k there);
      alive = λ k there. absurd (nothing_there k there);
      all = λ k own. left_still true p.hands.left p.hands.own k
          (λ e c. left_gone lawful allowed h seen p good mine moves x shows rule shown may.frees k
          own c)
          (mine.hands.all k own);
      once = apart_behind p.hands.left p.hands.own mine.hands.once;
    }

  -- a new draft lies in the region that is taken
  fresh_drafting : (region : ℕ) (places : Places) (list : List ℕ) (history : List Entry)
      → region < s.regions
      → places.role (own_row region) ≡ To → places.dead (own_row region) ≡ false
      → places.used (own_row region) ≡ 0
      → IsDrafting s p.number (fresh_draft region) p.hands.held record {
        words = list;
        index = h.index;
        places = places;
        history = history;
      }
  fresh_drafting region places list history low to live used = record {
    region = low;
    to = to;
    live = live;
    used = sym used;
    wide = refl;
    written = λ room j w e. absurd (none_written j w e);
    named = λ j w n e. absurd (none_written j w e);
  }

  draft_shifted : (f : Shift) → (may : MayShift p f) → (z : ℕ)
      → IsDrafting s p.number (readied p (Shifts f) z).draft p.hands.held
      (heap_after h p (Shifts f) z)
  draft_shifted (LoadRoles of) may z =
      drafting_same s p.number h.places h.places
      (λ g low. record { used = refl; role = refl; dead = refl })
      p.draft p.hands.held h (words (LoadRoles of) z) (h.history ++ []) refl
      (beside lawful allowed h seen p good mine moves x shows rule shown (LoadRoles of) may z)
      mine.draft
  draft_shifted (Join region roles) may z =
      fresh_drafting region (rows (Join region roles)) (words (Join region roles) z)
      (h.history ++ [])
      may.takes.below (join_to region roles may) (join_live region roles may)
      (join_used region roles may)
  draft_shifted (Turn region roles) may z =
      fresh_drafting region (rows (Turn region roles)) (words (Turn region roles) z)
      (h.history ++ [])
      may.takes.below (turn_to region roles may)
      (not_both_left (h.places.dead (own_row region)) false
      (free_alive lawful allowed h seen p good mine moves x shows rule shown (own_row region)
      (turn_low region roles may) (turn_free region roles may)))
      (zero_left false (h.places.used (own_row region))
      (free_empty lawful allowed h seen p good mine moves x shows rule shown (own_row region)
      (turn_low region roles may) (turn_free region roles may)))
  draft_shifted (Reuse roles) may z = record {
    region = mine.draft.region;
    to = reuse_is roles may p.draft.region mine.draft.region ∙ ap reused_role mine.draft.to;
    live = not_both_left (h.places.dead (own_row p.draft.region)) (freed (own_row p.draft.region))
        mine.draft.live;
    used = mine.draft.used ∙ sym (rw (reuse_stays roles may) refl);
    wide = mine.draft.wide;
    written = λ room j w e. beside lawful allowed h seen p good mine moves x shows rule shown
        (Reuse roles) may z (version_at s p.number p.draft.region p.draft.used) j
        ∙ mine.draft.written room j w e;
    named = mine.draft.named;
  }

  hands_shifted : (f : Shift) → (may : MayShift p f) → (z : ℕ)
      → AreIndexed s p.number h.index (rows f) (readied p (Shifts f) z).hands
  hands_shifted (LoadRoles of) may z = record {
    held = mine.hands.held;
    own = mine.hands.own;
    kept = mine.hands.kept;
    left = mine.hands.left;
    given = mine.hands.given;
    alive = mine.hands.alive;
    all = mine.hands.all;
    once = mine.hands.once;
  }
  hands_shifted (Join region roles) may z = join_hands region roles may
  hands_shifted (Turn region roles) may z =
      let same = turn_hands region roles may in record {
        held = same.held;
        own = same.own;
        kept = same.kept;
        left = same.left;
        given = same.given;
        alive = same.alive;
        all = same.all;
        once = same.once;
      }
  hands_shifted (Reuse roles) may z = reuse_hands roles may

  -- the caller that makes the shift
  pub own_shifted : (f : Shift) → MayShift p f → (z : ℕ)
      → PartIsGood p.site (heap_after h p (Shifts f) z) seen (readied p (Shifts f) z)
  own_shifted f may z = record {
    site = refl;
    number = mine.number;
    draft = draft_shifted f may z;
    hands = hands_shifted f may z;
    calls = calls_shifted lawful allowed h seen p good mine moves x shows rule shown seen
        p.calls.mine p.number mine.calls;
  }
