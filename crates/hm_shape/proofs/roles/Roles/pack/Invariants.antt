-- The word has the roles that were taken.
use Rattle.hm_shape.proofs.Turns.{Packs}
use Rattle.hm_shape.proofs.roles.Roles.pack.Given as goal

abbrev pub invariant-loop-role : goal.invariant-loop-role
invariant-loop-role l = Packs l.self.0 l.role-iterator.iter.rest.now l.word
