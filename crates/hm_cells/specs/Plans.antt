-- Which move it is that a call plans.
use Rattle.std.specs.Prelude.{Bool, false, Some, None}
use Rattle.hm_moves.specs.declared.moving.Act.{Act}
use Rattle.hm_moves.specs.declared.moving.Act.TheVariants.{Looks, Builds, Ticks, Shifts}
use Rattle.hm_moves.specs.declared.moving.Build.TheVariants as build
use Rattle.hm_moves.specs.declared.moving.Look.TheVariants.{LoadLink}
use Rattle.hm_moves.specs.declared.moving.Move.{Move}
use Rattle.hm_moves.specs.declared.moving.Shift.TheVariants as shift
use Rattle.hm_moves.specs.declared.moving.Tick.TheVariants as tick
use Rattle.hm_moves.specs.Acts.{field_look}
use Rattle.hm_moves.specs.Decoding.{seen_of}
use Rattle.hm_cells.specs.declared.plan.Plan.{Plan}
use Rattle.hm_cells.specs.declared.plan.Plan.TheVariants.{LoadField, LoadLink as LinkLoad, StoreOwn, Publish, LinkStore, LinkCopy, Shorten, LoadStage, MoveStage, LoadReply, StoreReply, LoadRoles, StoreRoles}
use Rattle.hm_cells.specs.Calls.{copied, drafted, linked, move_in, own_at, replying, stored, wanted}
use Rattle.hm_cells.specs.Facts.{Facts, known_at}
use Rattle.hm_cells.specs.Owns.{shift_to}

-- whether a plan is one of a scan
abbrev pub planned_scan : Plan → Bool
planned_scan (LoadField v i scan) = scan
planned_scan (LinkLoad v want scan) = scan
planned_scan (StoreOwn i word) = false
planned_scan Publish = false
planned_scan (LinkStore v want) = false
planned_scan (LinkCopy v) = false
planned_scan (Shorten v i u) = false
planned_scan LoadStage = false
planned_scan (MoveStage to) = false
planned_scan (LoadReply of) = false
planned_scan (StoreReply kind) = false
planned_scan (LoadRoles of) = false
planned_scan (StoreRoles roles) = false

module _ {U : Type 0} where
  -- what a pass does by a plan
  abbrev pub planned_act : Facts U → Plan → Act
  planned_act s (LoadField v i scan) = Looks (field_look (known_at s v) i)
  planned_act s (LinkLoad v want scan) =
      Looks (LoadLink (known_at s v) (wanted s (known_at s v) want))
  planned_act s (StoreOwn i word) = Builds (build.StoreOwn i word)
  planned_act s Publish = Builds (build.Publish (drafted s.part))
  planned_act s (LinkStore v want) =
      Builds (build.LinkStore (known_at s v) (linked s (known_at s v) want)
      (Some (stored s (known_at s v) want)))
  planned_act s (LinkCopy v) =
      Builds (build.LinkStore (known_at s v) (copied s (known_at s v)) None)
  planned_act s (Shorten v i u) = Builds (build.Shorten (own_at s v) i (known_at s u))
  planned_act s LoadStage = Ticks tick.LoadStage
  planned_act s (MoveStage to) = Ticks (tick.MoveStage s.part.cycle.clock.stage (seen_of to))
  planned_act s (LoadReply of) = Ticks (tick.LoadReply of)
  planned_act s (StoreReply kind) = Ticks (tick.StoreReply (replying s kind))
  planned_act s (LoadRoles of) = Shifts (shift.LoadRoles of)
  planned_act s (StoreRoles roles) = Shifts (shift_to s.part roles)

  -- the move
  abbrev pub planned : Facts U → Plan → Move
  planned s plan = move_in s (planned_scan plan) (planned_act s plan)
