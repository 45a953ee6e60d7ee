-- The parts of a version are its place, and it has no other.
use Rattle.hm_shape.proofs.Numbering.{IsAt-parts, owner_of-at}
use Rattle.hm_shape.proofs.version.Version.owner.Goals as goal

pub returns-clause-there : goal.returns-clause-there
returns-clause-there c = IsAt-parts c.args.shape c.args.self.now c.requires

pub returns-clause-only : goal.returns-clause-only
returns-clause-only c = owner_of-at c.args.shape c.args.self.now
