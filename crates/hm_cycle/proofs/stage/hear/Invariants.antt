-- The replies of the callers before this one are loaded, and are to the stage that was seen.
use Rattle.std.proofs.Common.{◌≡◌}
use Rattle.hm_cycle.specs.Cycling.{Hears, Knows}
use Rattle.hm_cycle.specs.Standing.{Keeps, standing_of}
use Rattle.hm_cycle.proofs.stage.hear.Given as goal

abbrev pub invariant-loop-caller : goal.invariant-loop-caller
invariant-loop-caller g l = record {
  hears : Hears g.U.Usage.lawful g.U.Usage.allowed l.fn.pass l.caller l.pass;
  knows : Knows l.pass.part l.caller l.marked;
  stands : standing_of l.pass ≡ standing_of l.fn.pass;
  keeps : Keeps g.U.Usage.lawful g.U.Usage.allowed l.fn.pass l.pass;
}
