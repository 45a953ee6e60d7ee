use Rattle.std.proofs.Common.{arith}
use Rattle.hm_plain.proofs.HandFacts.{found_below, agree_hand, fetches_all}
use Rattle.hm_plain.proofs.caller.PlainCallerCaller.fetch.Goals as goal

pub invariant_of-self : goal.invariant_of-self
invariant_of-self g c =
    let s = c.self.inside in
    let found = c.read-answer.result.refs in
    rw c.copy_from_slice.ensures.after
    (agree_hand s.diary s.objects s.roots found c.args.hand.0 _ c.self.invariant (found_below s.diary s.objects s.roots found c.read-answer.new.self c.self.view_is c.self.invariant c.read-answer.ensures.there))

pub returns-clause-fetched : goal.returns-clause-fetched
returns-clause-fetched g c =
    let s = c.self.inside in
    rw (c.copy_from_slice.ensures.after, c.snapshot.ensures)
    (fetches_all g.U.Usage.lawful g.U.Usage.allowed s.diary s.objects s.roots _ c.args.from c.args.hand c.read-answer.result c.args.self.now c.read-answer.new.self c.self.view_is (omega arith) (omega arith) (omega arith) c.read-answer.ensures.fetched
    c.read-answer.ensures.roots)
