use Rattle.std.proofs.Common.{None, arith}
use Rattle.hm_plain.proofs.CallFacts.{sets_place}
use Rattle.hm_plain.proofs.caller.PlainCallerCaller.clear_root.Goals as goal

pub returns-clause-names : goal.returns-clause-names
returns-clause-names g c = let s = c.self.inside in sets_place s.diary s.diary s.objects s.objects s.roots c.args.r.0 None c.args.self.now c.self.view_is (omega arith)
