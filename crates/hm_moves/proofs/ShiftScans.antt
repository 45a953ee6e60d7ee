-- What a caller knows of from-space after a step on roles shows what the step leaves.
use Rattle.std.proofs.Common.{◌≡◌, ◌≢◌, ℕ, zero, suc, ◌+◌, ◌*◌, ◌==◌, ◌&&◌, ◌||◌, ◌<◌, ◌≤◌, not, nat_lt, Bool, true, false, List, [], ◌∷◌, length, map, slice_index_or, slice_set, Option, Some, None, is_some, if◌then◌else◌, refl, sym, ap, ◌∙◌, arith, ⊎_elim, eq-eqb, eqb-true, length-set, get_or-set_same, get_or-set_other}
use Rattle.std.proofs.lemmas.Bool.{and_parts}
use Rattle.hm_shape.specs.declared.roles.Roles.{Roles}
use Rattle.hm_moves.proofs.Words.{Part, Heap, row_of, eqb_tells, length-map}
use Rattle.hm_moves.specs.declared.moving.Shift.TheVariants.{LoadRoles, Join, Turn, Reuse}
use Rattle.hm_moves.specs.declared.moving.Act.TheVariants.{Shifts}
use Rattle.hm_moves.specs.Cycles.{gives_from, is_first, is_from, is_open, is_scanning, mask_of, role_at}
use Rattle.hm_moves.specs.Decoding.{roles_in}
use Rattle.hm_moves.specs.Shifts.{readied}
use Rattle.hm_moves.specs.Showing.{AreRolesOf, ShowsHeap, ShowsPart, ShowsScan, version_shown}
use Rattle.hm_moves.proofs.Decoded.{roles_back}
use Rattle.hm_moves.proofs.Live.{owner_at}
use Rattle.hm_moves.proofs.Numbers.{row_below}
use Rattle.hm_rounds.specs.State.{State, put_table}
use Rattle.hm_rounds.specs.Phases as phases
use Rattle.hm_rounds.specs.Steps as steps
use Rattle.hm_rounds.specs.Views as views
use Rattle.hm_rounds.specs.After.{after}
use Rattle.hm_moves.proofs.TickFacts.{first_shown, open_shown, put_here, put_row_here}
use Rattle.hm_moves.proofs.StoredRoles.{from_row}

-- a mask that is loaded in First is there, and others stay
masks_wide : (e : Bool) (l : List (Option Roles)) (of : ℕ) (o : Option Roles)
    → length (if e then slice_set l of o else l) ≡ length l
masks_wide true l of o = length-set l of o
masks_wide false l of o = refl

mask_then : (e : Bool) (l : List (Option Roles)) (of r : ℕ) (o : Option Roles) → of < length l
    → slice_index_or (if e then slice_set l of o else l) r None
    ≡ (if (r == of) && e then o else slice_index_or l r None)
mask_then true l of r o low = ⊎_elim
    (λ (t : ((r == of) ≡ true) × (r ≡ of)). ap (λ n. slice_index_or (slice_set l of o) n None) t.1
    ∙ (get_or-set_same l of o None low
    ∙ sym (ap (λ b. if b && true then o else slice_index_or l r None) t.0)))
    (λ (t : ((r == of) ≡ false) × (r ≢ of)). get_or-set_other l of r o None t.1
    ∙ sym (ap (λ b. if b && true then o else slice_index_or l r None) t.0))
    (eqb_tells r of)
mask_then false l of r o low = ⊎_elim
    (λ (t : ((r == of) ≡ true) × (r ≡ of)). sym
    (ap (λ b. if b && false then o else slice_index_or l r None) t.0))
    (λ (t : ((r == of) ≡ false) × (r ≢ of)). sym
    (ap (λ b. if b && false then o else slice_index_or l r None) t.0))
    (eqb_tells r of)

loaded_then : (l e : Bool) (o : Option Roles) (new : Roles) → l ≡ is_some o
    → (l || e) ≡ is_some (if e then Some new else o)
loaded_then true true o new is = refl
loaded_then false true o new is = refl
loaded_then true false o new is = is
loaded_then false false o new is = is

from_then : (l e f m : Bool) (o : Option Roles) (new : Roles) (g : ℕ)
    → (e ≡ true → f ≡ is_from (role_at new g))
    → (l ≡ true → m ≡ gives_from o g) → (l || e) ≡ true
    → (if e then f else m) ≡ gives_from (if e then Some new else o) g
from_then l true f m o new g here there on = here refl
from_then true false f m o new g here there on = there refl
from_then false false f m o new g here there on = grind arith

abbrev none_of_roles : Option Roles
none_of_roles = None

-- no masks are left
no_masks : (l : List (Option Roles)) (r : ℕ)
    → is_some (slice_index_or (map (λ (m : Option Roles). none_of_roles) l) r none_of_roles) ≡ false
no_masks [] r = refl
no_masks (m ∷ l) zero = refl
no_masks (m ∷ l) (suc r) = no_masks l r

passed_then : (scanning : Bool) (n cursor : ℕ) (was : Bool) → n < (if scanning then 0 else cursor)
    → (n < cursor → was ≡ true) → (was && not scanning) ≡ true
passed_then true n cursor was low is = absurd (omega arith)
passed_then false n cursor was low is = let t = is low in grind arith

pub not_true : false ≡ true → ⊥
not_true is = grind arith

short_then : (scanning : Bool) (cursor most : ℕ) → cursor ≤ most → (if scanning then 0 else cursor)
    ≤ most
short_then true cursor most low = omega arith
short_then false cursor most low = low

module _ {A : Type 0} where
  -- a table that is changed is the new one
  put_table_here : (facts : ℕ → ℕ → ℕ → A) (at : ℕ) (table : ℕ → ℕ → A) (item part : ℕ)
      → put_table facts at table at item part ≡ table item part
  put_table_here facts at table item part = rw (eq-eqb at at refl) refl

module _ (h : Heap) {U : Type 0} (moves : ℕ → ℕ) (x : State) (p : Part U)
    (shows : ShowsHeap p.site.shape h moves x)
    (mine : ShowsPart p.site.shape moves x p) (low : p.number < p.site.shape.callers) where
  -- a caller scans in the state where it does
  first_there : phases.is_first (x.clock.seen_phase p.number) ≡ is_first p.cycle.clock.stage.phase
  first_there = ap phases.is_first mine.clock.seen.phase_is ∙ first_shown p.cycle.clock.stage.phase

  pub open_same : nat_lt (x.clock.replied p.number) (x.clock.seen p.number) ≡ is_open p
  open_same = open_shown p.cycle.clock.reply p.cycle.clock.stage.number (x.clock.replied p.number)
      (x.clock.seen p.number) (x.clock.reply p.number) mine.clock.reply mine.clock.seen.number_is

  scanning_there : views.is_scanning x.clock p.number ≡ is_scanning p
  scanning_there = ap (λ e. e && nat_lt (x.clock.replied p.number) (x.clock.seen p.number))
      first_there
      ∙ ap (λ e. is_first p.cycle.clock.stage.phase && e) open_same

  module _ (of w : ℕ) (little : of < p.site.shape.callers)
      (says : AreRolesOf p.site.shape h.places.role of w) where
    mask_now : (r : ℕ) → mask_of (readied p (Shifts (LoadRoles of)) w) r
        ≡ (if (r == of) && is_first p.cycle.clock.stage.phase then Some (roles_in w)
        else mask_of p r)
    mask_now r = mask_then (is_first p.cycle.clock.stage.phase) p.cycle.scan.masks of r
        (Some (roles_in w))
        (let a = mine.scan.wide in omega arith)

    roles_say : (g : ℕ) → g < p.site.shape.regions
        → is_from (h.places.role (row_of p.site.shape of g)) ≡ is_from (role_at (roles_in w) g)
    roles_say g narrow = sym (ap (λ (z : Roles). is_from (role_at z g)) (ap roles_in says.word_is
        ∙ roles_back says.roles says.wide) ∙ ap is_from (says.each g narrow))

    abbrev loads : ℕ → Bool
    loads r = (r == of) && is_first p.cycle.clock.stage.phase

    loads_there : (r : ℕ) → ((r == of) && phases.is_first (x.clock.seen_phase p.number)) ≡ loads r
    loads_there r = ap (λ e. (r == of) && e) first_there

    loaded_now : (r : ℕ) → (after x p.number false (steps.Shifts (steps.LoadRoles of))).masks.loaded
        p.number r
        ≡ (x.masks.loaded p.number r || loads r)
    loaded_now r = put_row_here x.masks.loaded p.number (λ other. x.masks.loaded p.number other
        || ((other == of) && phases.is_first (x.clock.seen_phase p.number))) r
        ∙ ap (λ e. x.masks.loaded p.number r || e) (loads_there r)

    from_now : (r g : ℕ) → r < p.site.shape.callers → g < p.site.shape.regions
        → (after x p.number false (steps.Shifts (steps.LoadRoles of))).masks.from p.number
        (row_of p.site.shape r g)
        ≡ (if loads r then phases.is_from (x.roles (row_of p.site.shape r g))
        else x.masks.from p.number (row_of p.site.shape r g))
    from_now r g below narrow =
        let row : ℕ = row_of p.site.shape r g in
        put_row_here x.masks.from p.number (λ region.
        if (x.shape.owner region == of) && phases.is_first (x.clock.seen_phase p.number)
        then phases.is_from (x.roles region) else x.masks.from p.number region) row
        ∙ (ap (λ n. if (n == of) && phases.is_first (x.clock.seen_phase p.number)
        then phases.is_from
        (x.roles row)
        else x.masks.from p.number row) (owner_at p.site.shape h moves x shows r g below narrow)
        ∙ ap (λ e. if e then phases.is_from (x.roles row) else x.masks.from p.number row)
        (loads_there r))

    loads_from : (r g : ℕ) → r < p.site.shape.callers → g < p.site.shape.regions → loads r ≡ true
        → phases.is_from (x.roles (row_of p.site.shape r g)) ≡ is_from (role_at (roles_in w) g)
    loads_from r g below narrow is =
        from_row h moves x p shows mine low (row_of p.site.shape r g)
        (row_below p.site.shape r g below narrow)
        ∙ (ap (λ n. is_from (h.places.role (row_of p.site.shape n g)))
        (eqb-true r of (and_parts (r == of) (is_first p.cycle.clock.stage.phase) is).0)
        ∙ roles_say g narrow)

    -- a load of roles leaves the scan of a caller so
    pub scan_roles : ShowsScan (readied p (Shifts (LoadRoles of)) w)
        (after x p.number false (steps.Shifts (steps.LoadRoles of)))
    scan_roles = record {
      wide = masks_wide (is_first p.cycle.clock.stage.phase) p.cycle.scan.masks of
          (Some (roles_in w))
          ∙ mine.scan.wide;
      loaded = λ r below. loaded_now r
          ∙ (loaded_then (x.masks.loaded p.number r) (loads r) (mask_of p r) (roles_in w)
          (mine.scan.loaded r below)
          ∙ sym (ap is_some (mask_now r)));
      from = λ r g below narrow on. from_now r g below narrow
          ∙ (from_then (x.masks.loaded p.number r) (loads r)
          (phases.is_from (x.roles (row_of p.site.shape r g)))
          (x.masks.from p.number (row_of p.site.shape r g)) (mask_of p r) (roles_in w) g
          (loads_from r g below narrow) (mine.scan.from r g below narrow) (sym (loaded_now r) ∙ on)
          ∙ sym (ap (λ o. gives_from o g) (mask_now r)));
      mark = put_here x.scan.mark p.number (x.scan.mark p.number
          && not ((of == p.number) && views.is_scanning x.clock p.number))
          ∙ (ap (λ m. m && not ((of == p.number) && views.is_scanning x.clock p.number))
          mine.scan.mark
          ∙ ap (λ e. p.cycle.scan.mark && not ((of == p.number) && e)) scanning_there);
      passed = λ i f k there few short.
          put_table_here x.scan.passed p.number
          (λ version field. x.scan.passed p.number version field
          && not (views.is_scanning x.clock p.number)) (version_shown k.version) f
          ∙ (ap (λ e. x.scan.passed p.number (version_shown k.version) f && not e) scanning_there
          ∙ passed_then (is_scanning p) (i * 5 + f) p.cycle.scan.cursor
          (x.scan.passed p.number (version_shown k.version) f) short
          (λ less. mine.scan.passed i f k there few less));
      short = short_then (is_scanning p) p.cycle.scan.cursor (length p.hands.own * 5)
          mine.scan.short;
      ends = λ e there. absurd (let a = there.1 in omega arith);
      bare = λ is. absurd (not_true is);
      holds = λ is. absurd (not_true is);
    }

  -- a join drops the masks
  pub scan_joined : (region row next w : ℕ) (roles : Roles)
      → ShowsScan (readied p (Shifts (Join region roles)) w)
      (after x p.number false (steps.Shifts (steps.TakeJoin row next)))
  scan_joined region row next w roles = record {
    wide = length-map p.cycle.scan.masks (λ (m : Option Roles). none_of_roles) ∙ mine.scan.wide;
    loaded = λ r below. put_row_here x.masks.loaded p.number (λ owner. false) r
        ∙ sym (no_masks p.cycle.scan.masks r);
    from = λ r g below narrow on. absurd (not_true
        (sym (put_row_here x.masks.loaded p.number (λ owner. false) r) ∙ on));
    mark = mine.scan.mark;
    passed = λ i f k there few short. absurd (omega arith);
    short = omega arith;
    ends = mine.scan.ends;
    bare = λ is. absurd (not_true is);
    holds = λ is. absurd (not_true is);
  }

  -- and so does a reuse
  pub scan_reused : (w : ℕ) (roles : Roles) → ShowsScan (readied p (Shifts (Reuse roles)) w)
      (after x p.number false (steps.Shifts steps.Reuse))
  scan_reused w roles = record {
    wide = length-map p.cycle.scan.masks (λ (m : Option Roles). none_of_roles) ∙ mine.scan.wide;
    loaded = λ r below. put_row_here x.masks.loaded p.number (λ owner. false) r
        ∙ sym (no_masks p.cycle.scan.masks r);
    from = λ r g below narrow on. absurd (not_true
        (sym (put_row_here x.masks.loaded p.number (λ owner. false) r) ∙ on));
    mark = mine.scan.mark;
    passed = λ i f k there few short. absurd (omega arith);
    short = omega arith;
    ends = mine.scan.ends;
    bare = λ is. absurd (not_true is);
    holds = λ is. absurd (not_true is);
  }

  -- a turn leaves the scan
  pub scan_turned : (region row next w : ℕ) (roles : Roles)
      → ShowsScan (readied p (Shifts (Turn region roles)) w)
      (after x p.number p.cycle.scan.bare (steps.Shifts (steps.Turn row next)))
  scan_turned region row next w roles = record {
    wide = mine.scan.wide;
    loaded = mine.scan.loaded;
    from = mine.scan.from;
    mark = mine.scan.mark;
    passed = mine.scan.passed;
    short = mine.scan.short;
    ends = mine.scan.ends;
    bare = λ is. put_here x.bare p.number p.cycle.scan.bare ∙ is;
    holds = mine.scan.holds;
  }
