-- A step on roles is a step of the rules of use again.
use Rattle.std.proofs.Common.{◌≡◌, ◌≢◌, ℕ, ◌<◌, Bool, false, List, slice_index, refl, sym, ◌∙◌, subst, inr, ltb-true}
use Rattle.hm_shape.specs.declared.roles.Role.TheVariants.{Free}
use Rattle.hm_shape.specs.declared.roles.Roles.{Roles}
use Rattle.hm_moves.proofs.Words.{roles_at, Part, row_of, Core, Good, Carries, PlainStore, View, Entry, heap_after}
use Rattle.hm_moves.specs.declared.moving.Shift.{Shift}
use Rattle.hm_moves.specs.declared.moving.Shift.TheVariants.{LoadRoles, Join, Turn, Reuse}
use Rattle.hm_moves.specs.declared.moving.Act.TheVariants.{Shifts}
use Rattle.hm_moves.specs.Acts.{shift_word}
use Rattle.hm_moves.specs.Allowed.{MayJoin, MayReuse, MayShift, MayTurn}
use Rattle.hm_moves.specs.Cycles.{role_at}
use Rattle.hm_moves.specs.Good.{Collects}
use Rattle.hm_moves.specs.Shifts.{readied}
use Rattle.hm_moves.specs.Showing.{ShowsHeap, ShowsPart, next_shown}
use Rattle.hm_moves.proofs.Barely.{held_clean}
use Rattle.hm_moves.proofs.Collected.{collected, replaced}
use Rattle.hm_moves.proofs.Rows.{free_shown}
use Rattle.hm_rounds.specs.State.{State}
use Rattle.hm_rounds.specs.Steps as steps
use Rattle.hm_rounds.specs.Regions as regions
use Rattle.hm_rounds.specs.After.{after}
use Rattle.hm_rounds.specs.Runs.{MayTake}
use Rattle.hm_rounds.specs.Rule as rounds
use Rattle.hm_rounds.proofs.Steps.{good_step}
use Rattle.hm_rounds.proofs.Parting.{part_else}
use Rattle.hm_moves.proofs.StoredRoles.{frees_there}
use Rattle.hm_moves.proofs.ShiftHeaps.{heap_joined, heap_reused, heap_turned, role_joined_else, role_reused_else, role_turned_else}
use Rattle.hm_moves.proofs.ShiftParts.{below_there, clock_shifted, hands_joined, hands_loaded, hands_reused, hands_turned, heap_loaded, heap_roles, join_may, join_present, takes_unsaid, ties_joined, ties_loaded, ties_reused, ties_turned, turn_may}
use Rattle.hm_moves.proofs.ShiftScans.{scan_joined, scan_reused, scan_roles, scan_turned}

module _ {U : Type 0} (lawful : U → PlainStore → Type 0) (allowed : U → PlainStore → Entry → Type 0)
    (c : Core U) (id place : ℕ) (v : View U) (p : Part U) (good : Good lawful allowed p.site c)
    (at : Carries c.views id place v p) (seen : List Entry) where
  abbrev x : State
  x = good.collects.state

  abbrev heap : ShowsHeap p.site.shape c.heap good.collects.moves x
  heap = good.collects.heap

  abbrev mine : ShowsPart p.site.shape good.collects.moves x p
  mine = good.collects.parts id place v p at

  abbrev rule : rounds.Good x
  rule = good.collects.rule

  low : p.number < p.site.shape.callers
  low = (good.parts id place v p at).number

  -- the machine after a step on roles, where nothing was let go yet
  abbrev pub shift_made : Shift → Core U
  shift_made f = replaced lawful allowed c id place v p
      (readied p (Shifts f) (slice_index c.heap.words (shift_word p.site.shape p.number f))) seen
      (heap_after c.heap p (Shifts f)
      (slice_index c.heap.words (shift_word p.site.shape p.number f))) good
      at refl

  -- a step on roles leaves a machine that shows what the step leaves
  shift_of : (f : Shift) (b : Bool) (step : steps.Shift) → MayTake x p.number b (steps.Shifts step)
      → ShowsHeap p.site.shape
      (heap_after c.heap p (Shifts f)
      (slice_index c.heap.words (shift_word p.site.shape p.number f)))
      good.collects.moves (after x p.number b (steps.Shifts step))
      → ShowsPart p.site.shape good.collects.moves (after x p.number b (steps.Shifts step))
      (readied p (Shifts f) (slice_index c.heap.words (shift_word p.site.shape p.number f)))
      → ((r g : ℕ) → r ≢ p.number → r < p.site.shape.callers → g < p.site.shape.regions
      → regions.shifted x p.number step (row_of p.site.shape r g)
      ≡ x.roles (row_of p.site.shape r g))
      → Collects p.site (shift_made f)
  shift_of f b step go shown own roles =
      collected lawful allowed c id place v p
      (readied p (Shifts f) (slice_index c.heap.words (shift_word p.site.shape p.number f))) seen
      (heap_after c.heap p (Shifts f)
      (slice_index c.heap.words (shift_word p.site.shape p.number f))) good
      at refl
      (after x p.number b (steps.Shifts step)) good.collects.moves
      (good_step x p.number b (steps.Shifts step) go rule)
      shown own (λ r ne. part_else x p.number b (steps.Shifts step) r ne) roles (λ r ne. refl)

  -- a load of roles
  collects_loaded : (of : ℕ) → of < p.site.shape.callers → Collects p.site
      (shift_made (LoadRoles of))
  collects_loaded of little =
      let w : ℕ = slice_index c.heap.words (roles_at p.site.shape of) in
      shift_of (LoadRoles of) false (steps.LoadRoles of)
      (takes_unsaid c.heap good.collects.moves x p heap mine low (steps.LoadRoles of) tt)
      (subst (λ z. ShowsHeap p.site.shape z good.collects.moves
      (after x p.number false (steps.Shifts (steps.LoadRoles of))))
      (sym (heap_loaded c.heap good.collects.moves x p heap mine low of))
      (heap_roles c.heap good.collects.moves x p heap mine low of))
      record {
        shape = refl;
        clock = clock_shifted c.heap good.collects.moves x p heap mine low false
            (steps.LoadRoles of)
            (LoadRoles of) w;
        ties = ties_loaded c.heap good.collects.moves x p heap mine low of w;
        scan = scan_roles c.heap good.collects.moves x p heap mine low of w little
            (heap.roles of little);
        hands = hands_loaded c.heap good.collects.moves x p heap mine low of w;
      }
      (λ r g ne below narrow. refl)

  -- a join
  collects_joined : (region : ℕ) (roles : Roles) → MayJoin p region roles
      → Collects p.site (shift_made (Join region roles))
  collects_joined region roles go =
      let w : ℕ = slice_index c.heap.words (roles_at p.site.shape p.number) in
      let row : ℕ = row_of p.site.shape p.number region in
      let next : ℕ = next_shown (readied p (Shifts (Join region roles)) w) in
      shift_of (Join region roles) false (steps.TakeJoin row next)
      (takes_unsaid c.heap good.collects.moves x p heap mine low (steps.TakeJoin row next)
      (join_may c.heap good.collects.moves x p heap mine low region roles go))
      (heap_joined c.heap good.collects.moves x p heap mine low region next go.takes.below roles
      go.is
      good.heap.wide
      (join_present c.heap good.collects.moves x p heap mine low region roles go rule))
      record {
        shape = refl;
        clock = clock_shifted c.heap good.collects.moves x p heap mine low false
            (steps.TakeJoin row next)
            (Join region roles) w;
        ties = ties_joined c.heap good.collects.moves x p heap mine low region next w go.takes.below
            roles
            go.is;
        scan = scan_joined c.heap good.collects.moves x p heap mine low region row next w roles;
        hands = hands_joined c.heap good.collects.moves x p heap mine low region row w roles;
      }
      (λ r g ne below narrow. role_joined_else c.heap good.collects.moves x p heap mine low region
      next
      go.takes.below
      roles go.is r g below narrow ne)

  -- a turn
  collects_turned : (region : ℕ) (roles : Roles) → MayTurn p region roles
      → Collects p.site (shift_made (Turn region roles))
  collects_turned region roles go =
      let w : ℕ = slice_index c.heap.words (roles_at p.site.shape p.number) in
      let row : ℕ = row_of p.site.shape p.number region in
      let next : ℕ = next_shown (readied p (Shifts (Turn region roles)) w) in
      let free : role_at p.cycle.ties.roles region ≡ Free =
      free_shown (role_at p.cycle.ties.roles region) go.takes.passes in
      shift_of (Turn region roles) p.cycle.scan.bare (steps.Turn row next)
      record {
        below = below_there c.heap good.collects.moves x p heap mine low;
        allowed = turn_may c.heap good.collects.moves x p heap mine low region roles go;
        truly = λ is. inr record {
          was = mine.scan.bare is;
          stays = refl;
          held = held_clean p.site.shape c.heap good.collects.moves x heap rule good.heap.placed p
              mine
              (good.parts id place v p at).hands low (mine.scan.holds is);
        };
      }
      (heap_turned c.heap good.collects.moves x p heap mine low region next go.takes.below roles
      go.is free
      good.heap.wide p.cycle.scan.bare)
      record {
        shape = refl;
        clock = clock_shifted c.heap good.collects.moves x p heap mine low p.cycle.scan.bare
            (steps.Turn row next)
            (Turn region roles) w;
        ties = ties_turned c.heap good.collects.moves x p heap mine low region next w go.takes.below
            roles
            go.is free;
        scan = scan_turned c.heap good.collects.moves x p heap mine low region row next w roles;
        hands = hands_turned c.heap good.collects.moves x p heap mine low region row w roles;
      }
      (λ r g ne below narrow. role_turned_else c.heap good.collects.moves x p heap mine low region
      next
      go.takes.below
      roles go.is free r g below narrow ne)

  -- a reuse
  collects_reused : (roles : Roles) → MayReuse p roles → Collects p.site (shift_made (Reuse roles))
  collects_reused roles go =
      let w : ℕ = slice_index c.heap.words (roles_at p.site.shape p.number) in
      shift_of (Reuse roles) false steps.Reuse
      (takes_unsaid c.heap good.collects.moves x p heap mine low steps.Reuse
      (ltb-true (x.ties.done p.number) (x.clock.seen_done p.number)
      (frees_there c.heap good.collects.moves x p heap mine low ∙ go.frees)))
      (heap_reused c.heap good.collects.moves x p heap mine low roles go.is go.frees good.heap.wide)
      record {
        shape = refl;
        clock = clock_shifted c.heap good.collects.moves x p heap mine low false steps.Reuse
            (Reuse roles) w;
        ties = ties_reused c.heap good.collects.moves x p heap mine low w roles go.is go.frees;
        scan = scan_reused c.heap good.collects.moves x p heap mine low w roles;
        hands = hands_reused c.heap good.collects.moves x p heap mine low w roles;
      }
      (λ r g ne below narrow. role_reused_else c.heap good.collects.moves x p heap mine low roles
      go.is
      go.frees r g
      below narrow ne)

  -- the machine after a step on roles shows a state that the rules lead to
  pub collects_shifted : (f : Shift) → MayShift p f → Collects p.site (shift_made f)
  collects_shifted (LoadRoles of) go = collects_loaded of go
  collects_shifted (Join region roles) go = collects_joined region roles go
  collects_shifted (Turn region roles) go = collects_turned region roles go
  collects_shifted (Reuse roles) go = collects_reused roles go
