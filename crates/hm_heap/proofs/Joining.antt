-- A caller that has not joined may join.
use Rattle.std.proofs.Common.{◌≡◌, ◌≤◌, ◌||◌, Bool, true, false, true≢false, List, [], ◌∷◌, filter, length, take, ap, arith}
use Rattle.hm_shape.specs.declared.roles.Role.{Role}
use Rattle.hm_shape.specs.declared.roles.Role.TheVariants.{Free, To, Old, From}
use Rattle.hm_shape.specs.declared.stage.Phase.{Phase}
use Rattle.hm_shape.specs.declared.stage.Phase.TheVariants.{Idle, Join, First, Second}
use Rattle.hm_model.specs.declared.entry.Entry.{Entry}
use Rattle.hm_model.specs.Store.{PlainStore}
use Rattle.hm_moves.specs.Allowed.{free_count}
use Rattle.hm_moves.specs.Cycles.{is_free, is_idle, is_open}
use Rattle.hm_moves.specs.Shifts.{frees, joined_role}
use Rattle.hm_cells.specs.Facts.{Facts, IsSound}
use Rattle.hm_cells.proofs.Frees.{two_free}
use Rattle.hm_cycle.specs.Roles.{MayJoinNow, free_joined}
use Rattle.hm_heap.specs.declared.tending.Act.TheVariants as act
use Rattle.hm_heap.specs.Acting.{act_of}
use Rattle.hm_heap.proofs.Inverted.{act_says}

-- what is Free is so for a join
free_more : (f : Bool) (l : List Role) → length (filter is_free l) ≤ length (filter (λ (r : Role). is_free (joined_role f r)) l)
free_more f [] = omega arith
free_more f (Free ∷ l) = let h = free_more f l in omega (arith, h)
free_more f (To ∷ l) = free_more f l
free_more f (Old ∷ l) = free_more f l
free_more true (From ∷ l) = let h = free_more true l in omega (arith, h)
free_more false (From ∷ l) = free_more false l

-- a stage that is not Idle is not replied to
pub here_open : (phase : Phase) (o : Bool) → is_idle phase ≡ false → (is_idle phase || o) ≡ true → o ≡ true
here_open Idle o running here = absurd (true≢false running)
here_open Join o running here = here
here_open First o running here = here
here_open Second o running here = here

module _ {U : Type 0} (lawful : U → PlainStore → Type 0) (allowed : U → PlainStore → Entry → Type 0) (s : Facts U)
    (sound : IsSound lawful allowed s) (is : act.Join ≡ act_of s) where
  -- the stage is not replied to
  pub join_open : is_open s.part ≡ true
  join_open =
      let says = act_says s act.Join is in
      here_open s.part.cycle.clock.stage.phase (is_open s.part) (ap is_idle says.0) says.2

  -- two regions are Free
  pub two_joined : 2 ≤ free_joined s.part
  two_joined =
      let says = act_says s act.Join is in
      let two = two_free s.part sound.old sound.sure.roles sound.listed says.1 in
      let more : free_count s.part ≤ free_joined s.part =
      free_more (frees s.part) (take s.part.site.shape.regions s.part.cycle.ties.roles.0) in
      omega (arith, two, more)

  pub may_join : MayJoinNow s.part
  may_join = record {
    phase = (act_says s act.Join is).0;
    open_yet = join_open;
    room = let two = two_joined in omega (arith, two);
  }
