use Rattle.hm_plain.specs.Indices.{indexed_name}
use Rattle.hm_plain.specs.Calls.{contents_of_object}
use Rattle.hm_plain.proofs.CallFacts.{may_fetch, fetches_adds, there_fetch}
use Rattle.hm_plain.proofs.caller.PlainCaller.read.Goals as goal

pub enter-requires : goal.enter-requires
enter-requires g c =
    let s = c.self.inside in may_fetch g.U.Usage.lawful g.U.Usage.allowed g.U.Usage.laws s.diary s.objects s.roots c.unwrap-at.result (contents_of_object c.at-answer.result.now) c.self.invariant c.at-answer.ensures.holds

pub returns-clause-fetched : goal.returns-clause-fetched
returns-clause-fetched g c =
    let s = c.self.inside in
    fetches_adds g.U.Usage.lawful g.U.Usage.allowed g.U.Usage.laws s.diary c.enter.new.self s.objects s.roots c.args.from c.unwrap-at.result (contents_of_object c.at-answer.result.now) c.args.self.now c.self.view_is c.unwrap-at.ensures
    c.enter.ensures

pub returns-clause-there : goal.returns-clause-there
returns-clause-there g c =
    let s = c.self.inside in
    there_fetch g.U.Usage.lawful g.U.Usage.allowed g.U.Usage.laws s.diary c.enter.new.self s.objects s.roots c.at-answer.result.now.refs (indexed_name c.unwrap-at.result) (contents_of_object c.at-answer.result.now) c.self.invariant
    c.enter.ensures c.at-answer.ensures.refs
