-- What a join and a reuse make of a caller's regions.
use Rattle.std.specs.Prelude.{◌≡◌, ℕ, zero, suc, ◌<◌, Bool, true, false, [], filter, length, map, take, Some, None, if◌then◌else◌}
use Rattle.hm_shape.specs.declared.reply.ReplyKind.TheVariants.{Joined}
use Rattle.hm_shape.specs.declared.roles.Role.{Role}
use Rattle.hm_shape.specs.declared.roles.Role.TheVariants.{From}
use Rattle.hm_shape.specs.declared.stage.Phase.TheVariants.{Join}
use Rattle.hm_moves.specs.declared.part.Part.{Part}
use Rattle.hm_moves.specs.Cycles.{is_free, is_from, is_open, role_at}
use Rattle.hm_moves.specs.CycleSteps.{IsLowest}
use Rattle.hm_moves.specs.Shifts.{frees, joined_role, joined_roles, reused_roles}
use Rattle.hm_cells.specs.Facts.{Facts}
use Rattle.hm_cells.specs.Calls.{replying}
use Rattle.hm_cycle.specs.Standing.{Standing, standing_of}

module _ {U : Type 0} where
  -- a region is Free for a join where it is so, or where the join frees it
  abbrev pub is_free_then : Part U → Role → Bool
  is_free_then p role = is_free (joined_role (frees p) role)

  -- so many of a caller's regions are Free for a join
  abbrev pub free_joined : Part U → ℕ
  free_joined p = length (filter (is_free_then p) (take p.site.shape.regions p.cycle.ties.roles.0))

  -- so many of them are From
  abbrev pub from_count : Part U → ℕ
  from_count p = length (filter is_from (take p.site.shape.regions p.cycle.ties.roles.0))

  -- a reuse frees all of these where the caller has seen more cycles done than at its join
  abbrev pub freed_count : Part U → ℕ
  freed_count p = if frees p then from_count p else 0

  -- a region that a call makes Free was From, and its owner has seen more cycles done than at its
  -- join
  abbrev pub FreesRightly : Facts U → Facts U → Type 0
  FreesRightly s t = (region : ℕ) → region < s.part.site.shape.regions
      → is_free (role_at t.part.cycle.ties.roles region) ≡ true
      → is_free (role_at s.part.cycle.ties.roles region) ≡ false
      → (role_at s.part.cycle.ties.roles region ≡ From)
      × (s.part.cycle.ties.done < s.part.cycle.clock.stage.done)

  -- a caller may join where it has seen a Join and not replied to it, and a region is Free for that
  pub record MayJoinNow (p : Part U) : Type 0 where
    pub phase : p.cycle.clock.stage.phase ≡ Join
    pub open_yet : is_open p ≡ true
    pub room : 0 < free_joined p

  -- where a caller stands after a join that takes a region, with its reply
  abbrev pub standing_joined : Facts U → ℕ → Standing
  standing_joined s region = record (standing_of s) {
    reply = Some (replying s Joined);
    roles = joined_roles s.part region;
    region = region;
    used = 0;
    own = [];
    joined = true;
    done = s.part.cycle.clock.stage.done;
    masks = map (λ mask. None) s.part.cycle.scan.masks;
    cursor = 0;
  }

  -- a join takes the lowest region that is Free for it
  pub record Joins (s t : Facts U) : Type 0 where
    pub region : ℕ
    pub lowest : IsLowest s.part (is_free_then s.part) region
    pub stands : standing_of t ≡ standing_joined s region

  -- where a caller stands after a reuse that frees a region
  abbrev pub standing_reused : Facts U → Standing
  standing_reused s = record (standing_of s) {
    roles = reused_roles s.part;
    joined = false;
    masks = map (λ mask. None) s.part.cycle.scan.masks;
    cursor = 0;
  }

  -- a reuse that has no region to free leaves all as it was
  abbrev pub Reuses : Facts U → ℕ → Facts U → Type 0
  Reuses s zero t = t ≡ s
  Reuses s (suc n) t = standing_of t ≡ standing_reused s
