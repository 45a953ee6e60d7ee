use Rattle.std.proofs.Common.{refl, arith}
use Rattle.hm_model.specs.declared.entry.Entry.TheVariants.{Create}
use Rattle.hm_plain.specs.Indices.{indexed_name, indexed_names}
use Rattle.hm_plain.proofs.AgreeFacts.{agree_create}
use Rattle.hm_plain.proofs.CallFacts.{indices_below, may_create, creates_adds, continues_adds}
use Rattle.hm_plain.proofs.caller.PlainCallerCaller.create.Goals as goal

pub add-at-requires-clause-refs : goal.add-at-requires-clause-refs
add-at-requires-clause-refs g c = let s = c.self.inside in rw c.indices_at-refs.ensures (indices_below s.diary s.objects s.roots c.args.refs c.self.invariant)

pub enter-requires : goal.enter-requires
enter-requires g c =
    let s = c.self.inside in
    may_create g.U.Usage.lawful g.U.Usage.allowed g.U.Usage.laws s.diary s.objects s.roots c.indices_at-refs.result c.add-at.result c.args.refs c.args.numbers c.args.self.now c.self.view_is c.self.invariant
    c.indices_at-refs.ensures c.add-at.ensures.index (omega arith) (omega arith) c.requires.allowed

pub invariant_of-self : goal.invariant_of-self
invariant_of-self g c =
    let s = c.self.inside in
    agree_create g.U.Usage.lawful g.U.Usage.allowed g.U.Usage.laws s.diary c.enter.new.self s.objects c.add-at.new.self s.roots c.args.into.0 c.add-at.result (indexed_names c.indices_at-refs.result) c.args.numbers c.self.invariant c.add-at.ensures.index
    c.enter.ensures c.add-at.ensures.takes

pub returns-clause-created : goal.returns-clause-created
returns-clause-created g c =
    let s = c.self.inside in
    creates_adds g.U.Usage.lawful g.U.Usage.allowed g.U.Usage.laws s.diary c.enter.new.self s.objects c.add-at.new.self s.roots c.indices_at-refs.result c.add-at.result c.args.into c.args.refs c.args.numbers _ c.args.self.now c.self.view_is
    c.indices_at-refs.ensures (omega arith) c.enter.ensures c.add-at.ensures.takes

pub returns-clause-same : goal.returns-clause-same
returns-clause-same g c =
    let s = c.self.inside in
    continues_adds g.U.Usage.lawful g.U.Usage.allowed g.U.Usage.laws s.diary c.enter.new.self s.objects c.add-at.new.self s.roots _ (Create 0 (indexed_name c.add-at.result) (indexed_names c.indices_at-refs.result) c.args.numbers) c.args.self.now
    c.self.view_is refl c.enter.ensures
