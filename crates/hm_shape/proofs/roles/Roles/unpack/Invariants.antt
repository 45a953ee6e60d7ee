-- So many roles are given.
use Rattle.hm_shape.proofs.Turns.{Unpacks}
use Rattle.hm_shape.proofs.roles.Roles.unpack.Given as goal

abbrev pub invariant-loop-role : goal.invariant-loop-role
invariant-loop-role l = Unpacks l.word l.role-items l.role-index l.rest
