-- Each tend comes after those before it.
use Rattle.std.proofs.Common.{arith}
use Rattle.hm_desk.proofs.Tended.{moved_most, moved_none, names_none, names_then}
use Rattle.hm_desk.proofs.tending.make_room.Goals as goal

pub loop-moves-init : goal.loop-moves-init
loop-moves-init g c = record { same = names_none _; tends = omega arith; moves = omega arith; most = omega arith }

pub loop-moves-preserved-in-Advanced : goal.loop-moves-preserved-in-Advanced
loop-moves-preserved-in-Advanced g c = record {
  same = names_then _ _ _ c.loop-moves.invariant.same c.tend.ensures.same;
  tends = omega (arith, c.loop-moves.invariant.tends, c.tend.ensures.tends);
  moves = let one = moved_most c.tend.result (g.C.Caller.sight c.loop-moves.c).moves in
      omega (arith, c.loop-moves.invariant.moves, c.tend.ensures.moves, one);
  most = omega (arith, c.loop-moves-test.true);
}

pub loop-moves-preserved : goal.loop-moves-preserved
loop-moves-preserved g c = record {
  same = names_then _ _ _ c.loop-moves.invariant.same c.tend.ensures.same;
  tends = omega (arith, c.loop-moves.invariant.tends, c.tend.ensures.tends);
  moves = let none = moved_none c.tend.result (g.C.Caller.sight c.loop-moves.c).moves c.in_default.not-Advanced in
      omega (arith, c.loop-moves.invariant.moves, c.tend.ensures.moves, none);
  most = c.loop-moves.invariant.most;
}

pub returns-in-Freed : goal.returns-in-Freed
returns-in-Freed g c = record {
  same = names_then _ _ _ c.loop-moves.invariant.same c.tend.ensures.same;
  tends = omega (arith, c.loop-moves.invariant.tends, c.tend.ensures.tends);
  moves = let one = moved_most c.tend.result (g.C.Caller.sight c.loop-moves.c).moves in
      omega (arith, c.loop-moves.invariant.moves, c.tend.ensures.moves, one, c.loop-moves-test.true);
}

pub returns-in-Nothing : goal.returns-in-Nothing
returns-in-Nothing g c = record {
  same = names_then _ _ _ c.loop-moves.invariant.same c.tend.ensures.same;
  tends = omega (arith, c.loop-moves.invariant.tends, c.tend.ensures.tends);
  moves = let one = moved_most c.tend.result (g.C.Caller.sight c.loop-moves.c).moves in
      omega (arith, c.loop-moves.invariant.moves, c.tend.ensures.moves, one, c.loop-moves-test.true);
}
