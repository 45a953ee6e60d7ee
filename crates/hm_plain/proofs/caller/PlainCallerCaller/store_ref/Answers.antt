use Rattle.hm_plain.proofs.CallFacts.{stands_refer, index_below}
use Rattle.hm_plain.proofs.caller.PlainCallerCaller.store_ref.Goals as goal

pub store-requires-clause-field : goal.store-requires-clause-field
store-requires-clause-field g c =
    let s = c.self.inside in stands_refer s.diary s.objects s.roots c.args.i c.index_at-value.result c.args.self.now c.self.view_is c.self.invariant c.requires.field (rw c.index_at-value.ensures (index_below s.diary s.objects s.roots c.args.value c.self.invariant))
