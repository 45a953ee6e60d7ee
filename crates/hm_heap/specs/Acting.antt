-- What a tend does: in the stage that its caller sees, the first case that applies.
use Rattle.std.specs.Prelude.{◌≡◌, ℕ, ◌*◌, ◌||◌, not, nat_le, Bool, Some, if◌then◌else◌}
use Rattle.hm_shape.specs.declared.stage.Phase.{Phase}
use Rattle.hm_shape.specs.declared.stage.Phase.TheVariants as phases
use Rattle.hm_shape.specs.declared.stage.Stage.{Stage}
use Rattle.hm_model.specs.declared.entry.Entry.{Entry}
use Rattle.hm_model.specs.declared.worker.Tended.{Tended}
use Rattle.hm_model.specs.declared.worker.Tended.TheVariants as tended
use Rattle.hm_model.specs.Store.{PlainStore}
use Rattle.hm_model.specs.Tending.{ComesNearer, KeepsNames, moves_after}
use Rattle.hm_moves.specs.Cycles.{is_idle, is_open}
use Rattle.hm_moves.specs.Decoding.{seen_of}
use Rattle.hm_cells.specs.Calls.{replying}
use Rattle.hm_cells.specs.Facts.{Facts, IsNext, Made, room_of, sight_of}
use Rattle.hm_ops.specs.Resting.{Keeps}
use Rattle.hm_cycle.specs.declared.stage.Begun.{Begun}
use Rattle.hm_cycle.specs.declared.stage.Begun.TheVariants as begun
use Rattle.hm_cycle.specs.declared.stage.Moved.{Moved}
use Rattle.hm_cycle.specs.declared.stage.Moved.TheVariants as moved
use Rattle.hm_cycle.specs.Cycling.{Advances, Begins, advanced_moves, begun_moves, kind_by, stage_seen}
use Rattle.hm_cycle.specs.Roles.{Joins, Reuses, freed_count}
use Rattle.hm_cycle.specs.Standing.{Stays, standing_of}
use Rattle.hm_scan.specs.declared.scanning.Scanned.{Scanned}
use Rattle.hm_scan.specs.declared.scanning.Scanned.TheVariants as scanned
use Rattle.hm_scan.specs.Scanning.{ScansTo}
use Rattle.hm_heap.specs.declared.tending.Act.{Act}
use Rattle.hm_heap.specs.declared.tending.Act.TheVariants as act
use Rattle.hm_heap.specs.Tending.{is_scanned, may_free, to_go_of}

-- what a call of the cycle, or a scan, answers is told so
abbrev pub told_begun : Begun → Tended
told_begun begun.Begun = tended.Advanced
told_begun (begun.Running stage) = tended.Overtaken stage
told_begun begun.Spent = tended.Spent

abbrev pub told_moved : Moved → Tended
told_moved moved.Advanced = tended.Advanced
told_moved (moved.NotYet caller) = tended.Waits caller
told_moved (moved.Overtaken stage) = tended.Overtaken stage
told_moved moved.Spent = tended.Spent

abbrev pub told_scanned : Scanned → Tended
told_scanned (scanned.Clean copied) = tended.Scanned copied
told_scanned scanned.NoRoom = tended.NoRoom

module _ {U : Type 0} where
  -- what is to be done in a phase by a caller that has not replied to it
  abbrev pub act_in : Facts U → Phase → Act
  act_in s phases.Idle =
      if nat_le s.part.site.shape.versions (room_of s.part) then act.Rest else act.Begin
  act_in s phases.Join = if s.part.cycle.ties.joined then act.Lack else act.Join
  act_in s phases.First = if is_scanned s then act.Reply else act.Scan
  act_in s phases.Second = act.Reply

  -- what is to be done in the stage that a caller has seen
  abbrev pub act_of : Facts U → Act
  act_of s =
      if may_free s.part then act.Reuse
      else if is_idle s.part.cycle.clock.stage.phase || is_open s.part
      then act_in s s.part.cycle.clock.stage.phase
      else act.Advance

  -- a reply is Clean where its caller is unmarked
  pub record Answers (s : Facts U) (clean : Bool) (t : Facts U) : Type 0 where
    pub clean_is : clean ≡ not s.part.cycle.scan.mark
    pub stands : standing_of t
        ≡ record (standing_of s) { reply = Some (replying s (kind_by clean)) }

  -- the same or a later stage is seen, and nothing else is changed of where a caller stands
  pub record Sees (s t : Facts U) : Type 0 where
    pub stage : Stage
    pub later : IsNext (stage_seen s) (seen_of stage)
    pub stands : standing_of t ≡ record (standing_of s) { stage = seen_of stage }
    pub stays : Stays s t

  -- a stage is seen, after so many moves of it, and nothing else is changed of where a caller stands
  abbrev pub StandsSeeing : Facts U → ℕ → Facts U → Type 0
  StandsSeeing s moves t =
      standing_of t ≡ record (standing_of s) { stage = stage_seen t; moves = moves }

  -- so many versions are freed: those of the regions that were given up
  pub record Frees (s : Facts U) (n : ℕ) (t : Facts U) : Type 0 where
    pub count : n ≡ freed_count s.part * s.part.site.shape.versions
    pub reuses : Reuses s n t

  module _ (lawful : U → PlainStore → Type 0) (allowed : U → PlainStore → Entry → Type 0) where
    -- an act, and what is told of it
    abbrev pub Acts : Act → Facts U → Tended → Facts U → Type 0
    Acts act.Reuse s answer t = (n : ℕ) × (answer ≡ tended.Freed n) × Frees s n t
    Acts act.Rest s answer t = (answer ≡ tended.Nothing) × (t ≡ s)
    Acts act.Begin s answer t =
        (b : Begun) × (answer ≡ told_begun b) × Begins lawful allowed s b t
        × StandsSeeing s (begun_moves b s.part.cycle.clock.moves) t
    Acts act.Join s answer t = (answer ≡ tended.Joined) × Joins s t
    Acts act.Lack s answer t = (answer ≡ tended.NoRoom) × (t ≡ s)
    Acts act.Scan s answer t = (e : Scanned) × (answer ≡ told_scanned e) × ScansTo s e t
    Acts act.Reply s answer t = (clean : Bool) × (answer ≡ tended.Replied clean) × Answers s clean t
    Acts act.Advance s answer t =
        (e : Moved) × (answer ≡ told_moved e) × Advances lawful allowed s e t
        × StandsSeeing s (advanced_moves e s.part.cycle.clock.moves) t

    -- a tend loads the stage, and does the first act that applies then
    pub record Tends (s : Facts U) (answer : Tended) (t : Facts U) : Type 0 where
      pub seen : Facts U
      pub sees : Sees s seen
      pub acts : Acts (act_of seen) seen answer t

    -- no entry is made, the stage was moved where that is told, less tending is left where anything
    -- was done, and the pass rests
    pub record GoesOn (m : Made U) (s : Facts U) (answer : Tended) (t : Facts U) : Type 0 where
      pub names : KeepsNames (sight_of s) (sight_of t)
      pub moves : t.part.cycle.clock.moves ≡ moves_after answer s.part.cycle.clock.moves
      pub nearer : ComesNearer answer (to_go_of s) (to_go_of t)
      pub tends : t.tends ≡ s.tends
      pub keeps : Keeps lawful allowed t m
