-- How much tending is left to a caller, and how the trait of workers sees its pass.
use Rattle.std.specs.Prelude.{ℕ, ◌+◌, ◌*◌, ◌-◌, ◌^◌, ◌==◌, ◌&&◌, not, nat_lt, Bool, false, Option, Some, None, if◌then◌else◌}
use Rattle.hm_model.specs.Sight.{Sight}
use Rattle.hm_moves.specs.declared.part.Part.{Part}
use Rattle.hm_moves.specs.Cycles.{is_open}
use Rattle.hm_cells.specs.Facts.{Facts, sight_of}

-- this is the number of the First in which a scan ended clean
abbrev pub is_of : Option ℕ → ℕ → Bool
is_of None number = false
is_of (Some n) number = n == number

module _ {U : Type 0} where
  -- a caller has given up regions in a cycle that is done by now
  abbrev pub may_free : Part U → Bool
  may_free p = p.cycle.ties.joined && nat_lt p.cycle.ties.done p.cycle.clock.stage.done

  -- its scan ended clean in the First that it has seen, and it has met no from-space since
  abbrev pub is_scanned : Facts U → Bool
  is_scanned s = is_of s.scanned s.part.cycle.clock.stage.number && not s.part.cycle.scan.mark

  -- in one stage a caller frees at most once, scans clean and replies
  abbrev pub left_in : Facts U → ℕ
  left_in s = (if may_free s.part then 3 else 0)
      + (if is_open s.part then (if is_scanned s then 1 else 2) else 0)

  -- and there are so many stages yet
  abbrev pub to_go_of : Facts U → ℕ
  to_go_of s = 8 * (2 ^ 32 - s.part.cycle.clock.stage.number) + left_in s

  -- a pass, as the trait of workers sees it
  abbrev pub working_sight : Facts U → Sight U
  working_sight s = record (sight_of s) { to_go = to_go_of s }
