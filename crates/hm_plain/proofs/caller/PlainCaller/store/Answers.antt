use Rattle.std.proofs.Common.{refl}
use Rattle.hm_model.specs.declared.entry.Entry.TheVariants.{Store}
use Rattle.hm_model.specs.Effect.{with_field}
use Rattle.hm_plain.specs.Calls.{field_of}
use Rattle.hm_plain.specs.Indices.{indexed_name}
use Rattle.hm_plain.proofs.AgreeFacts.{agree_store}
use Rattle.hm_plain.proofs.CallFacts.{within_field, may_store, stores_adds, continues_adds}
use Rattle.hm_plain.proofs.caller.PlainCaller.store.Goals as goal

pub enter-requires : goal.enter-requires
enter-requires g c =
    let s = c.self.inside in
    may_store g.U.Usage.lawful g.U.Usage.allowed g.U.Usage.laws s.diary s.objects s.roots c.args.at c.unwrap-at.result (field_of c.args.change) c.args.self.now c.self.view_is c.self.invariant c.unwrap-at.ensures c.requires.field
    c.requires.allowed

pub store-requires-clause-field : goal.store-requires-clause-field
store-requires-clause-field g c =
    let s = c.self.inside in within_field s.diary s.objects s.roots c.args.change c.args.self.now c.self.view_is c.self.invariant c.requires.field

pub invariant_of-self : goal.invariant_of-self
invariant_of-self g c =
    let s = c.self.inside in
    agree_store g.U.Usage.lawful g.U.Usage.allowed g.U.Usage.laws s.diary c.enter.new.self s.objects c.store.new.self s.roots c.unwrap-at.result (with_field (field_of c.args.change)) (Store 0 (indexed_name c.unwrap-at.result) (field_of c.args.change))
    c.self.invariant c.enter.ensures refl refl c.store.ensures

pub returns-clause-stored : goal.returns-clause-stored
returns-clause-stored g c =
    let s = c.self.inside in
    stores_adds g.U.Usage.lawful g.U.Usage.allowed g.U.Usage.laws s.diary c.enter.new.self s.objects c.store.new.self s.roots c.args.at c.unwrap-at.result (field_of c.args.change) (with_field (field_of c.args.change)) c.args.self.now
    c.self.view_is c.unwrap-at.ensures c.enter.ensures c.store.ensures

pub returns-clause-same : goal.returns-clause-same
returns-clause-same g c =
    let s = c.self.inside in
    continues_adds g.U.Usage.lawful g.U.Usage.allowed g.U.Usage.laws s.diary c.enter.new.self s.objects c.store.new.self s.roots s.roots (Store 0 (indexed_name c.unwrap-at.result) (field_of c.args.change)) c.args.self.now c.self.view_is refl
    c.enter.ensures
