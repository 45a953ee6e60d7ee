use Rattle.std.proofs.Common.{arith}
use Rattle.hm_plain.proofs.CallFacts.{copies_place}
use Rattle.hm_plain.proofs.caller.PlainCallerCaller.copy_root.Goals as goal

pub returns-clause-names : goal.returns-clause-names
returns-clause-names g c = let s = c.self.inside in copies_place s.diary s.objects s.roots c.args.from c.args.to c.args.self.now c.self.view_is (omega arith)
