-- What is counted of rows once a caller frees some of them, and once a cycle ends.
use Rattle.std.specs.Prelude.{◌≡◌, ℕ, ◌+◌, ◌-◌, ◌*◌, ◌/◌, ◌&&◌, ◌||◌, Bool, false, List, Option, None, if◌then◌else◌, nat_lt}
use Rattle.hm_shape.specs.declared.shape.Shape.{Shape}
use Rattle.hm_moves.specs.declared.part.Known.{Known}
use Rattle.hm_moves.specs.declared.moving.Act.{Act}
use Rattle.hm_moves.specs.declared.moving.Act.TheVariants.{Looks, Builds, Ticks, Shifts}
use Rattle.hm_moves.specs.declared.moving.Shift.TheVariants.{LoadRoles, Join, Turn, Reuse}
use Rattle.hm_moves.specs.After.{ends_cycle, is_row_of}
use Rattle.hm_moves.specs.Cycles.{is_from, role_at}
use Rattle.hm_core.specs.declared.machine.Row.{Row}
use Rattle.hm_core.specs.Hands.{HandState}
use Rattle.hm_core.specs.Running.{index_of, role_in, row_at}

-- a row that is freed has no used places, is not dead, and counts as freed once more
abbrev pub row_freed : Row → Row
row_freed r = record r { used = 0; freed = r.freed + 1; dead = false }

-- or is it not
abbrev pub row_freed_if : Bool → Row → Row
row_freed_if freed r = if freed then row_freed r else r

-- and a row is dead from now on, or as it was
abbrev pub row_dead_if : Bool → Row → Row
row_dead_if dies r = record r { dead = r.dead || dies }

-- some rows are freed, and the others are as they were
abbrev pub AreFreed : (ℕ → Bool) → List Row → List Row → Type 0
AreFreed freed old new = (row : ℕ) → row_at new row ≡ row_freed_if (freed row) (row_at old row)

-- and so for rows that die
abbrev pub AreDead : (ℕ → Bool) → List Row → List Row → Type 0
AreDead dies old new = (row : ℕ) → row_at new row ≡ row_dead_if (dies row) (row_at old row)

-- of versions in rows that die nothing is known
abbrev pub AreForgotten : Shape → (ℕ → Bool) → List (Option Known) → List (Option Known) → Type 0
AreForgotten s dies old new =
    (v : ℕ) → index_of new v ≡ (if dies (v / s.versions) then None else index_of old v)

-- a join and a reuse free rows, where their caller has seen more cycles done than when it joined
abbrev pub frees_by : HandState → Act → Bool
frees_by h (Looks l) = false
frees_by h (Builds b) = false
frees_by h (Ticks t) = false
frees_by h (Shifts (LoadRoles of)) = false
frees_by h (Shifts (Join region roles)) = nat_lt h.cycle.ties.done h.cycle.clock.stage.done
frees_by h (Shifts (Turn region roles)) = false
frees_by h (Shifts (Reuse roles)) = nat_lt h.cycle.ties.done h.cycle.clock.stage.done

-- those of the caller that are From
abbrev pub is_freed_by : Shape → ℕ → HandState → Act → ℕ → Bool
is_freed_by s q h act row =
    frees_by h act
    && (is_row_of s q row && is_from (role_at h.cycle.ties.roles (row - q * s.regions)))

-- an act that found x ends a cycle
abbrev pub ends_by : Act → ℕ → Bool
ends_by (Looks l) x = false
ends_by (Builds b) x = false
ends_by (Ticks t) x = ends_cycle t x
ends_by (Shifts f) x = false

-- at its end the rows that are From die
abbrev pub is_ended : Bool → Shape → List HandState → ℕ → Bool
is_ended ends s hands row = ends && is_from (role_in s hands row)
