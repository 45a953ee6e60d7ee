use Rattle.std.proofs.Common.{arith}
use Rattle.hm_plain.proofs.HandFacts.{found_below, agree_found, fetches_ref}
use Rattle.hm_plain.proofs.caller.PlainCallerCaller.fetch_ref.Goals as goal

pub invariant_of-self : goal.invariant_of-self
invariant_of-self g c =
    let s = c.self.inside in
    let found = c.read.result.refs in
    agree_found s.diary s.objects s.roots found c.args.into.0 c.args.i c.self.invariant (found_below s.diary s.objects s.roots found c.read.new.self c.self.view_is c.self.invariant c.read.ensures.there)

pub returns-clause-fetched : goal.returns-clause-fetched
returns-clause-fetched g c =
    let s = c.self.inside in
    fetches_ref g.U.Usage.lawful g.U.Usage.allowed s.diary s.objects s.roots c.args.from c.args.into c.read.result c.args.i c.is_some.result c.args.self.now c.read.new.self c.self.view_is (omega arith) c.read.ensures.fetched
    c.read.ensures.roots c.is_some.ensures
