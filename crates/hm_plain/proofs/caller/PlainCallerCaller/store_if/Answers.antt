use Rattle.std.proofs.Common.{arith, refl}
use Rattle.hm_model.specs.declared.entry.Tried.TheVariants.{Stored}
use Rattle.hm_model.specs.declared.entry.Entry.TheVariants.{StoreIf}
use Rattle.hm_model.specs.Effect.{with_all}
use Rattle.hm_plain.specs.Calls.{contents_of_object}
use Rattle.hm_plain.specs.Indices.{indexed_name, indexed_names}
use Rattle.hm_plain.proofs.AgreeFacts.{agree_store}
use Rattle.hm_plain.proofs.CallFacts.{indices_below, may_store_if, stores_all_adds, finds_changed_adds, continues_adds}
use Rattle.hm_plain.proofs.caller.PlainCallerCaller.store_if.Goals as goal

pub enter-requires : goal.enter-requires
enter-requires g c =
    let s = c.self.inside in
    may_store_if g.U.Usage.lawful g.U.Usage.allowed g.U.Usage.laws s.diary s.objects s.roots c.indices_at-refs.result c.unwrap-at.result c.args.stamp c.args.at c.args.refs c.args.numbers (contents_of_object c.at.result.now) c.tried-answer.result
    c.args.self.now c.self.view_is c.self.invariant c.indices_at-refs.ensures c.unwrap-at.ensures c.at.ensures.holds c.tried-answer.ensures (omega arith) (omega arith) c.requires.allowed

pub replace-requires-clause-refs : goal.replace-requires-clause-refs
replace-requires-clause-refs g c = let s = c.self.inside in rw c.indices_at-refs.ensures (indices_below s.diary s.objects s.roots c.args.refs c.self.invariant)

pub invariant_of-self : goal.invariant_of-self
invariant_of-self g c =
    let s = c.self.inside in
    agree_store g.U.Usage.lawful g.U.Usage.allowed g.U.Usage.laws s.diary c.enter.new.self s.objects c.replace.new.self s.roots c.unwrap-at.result (with_all (indexed_names c.indices_at-refs.result) c.args.numbers)
    (StoreIf 0 (indexed_name c.unwrap-at.result) c.args.stamp (indexed_names c.indices_at-refs.result) c.args.numbers Stored) c.self.invariant (rw c.in-Stored.is at c.enter.ensures) refl refl c.replace.ensures

pub returns-in-Stored-clause-stored : goal.returns-in-Stored-clause-stored
returns-in-Stored-clause-stored g c =
    let s = c.self.inside in
    stores_all_adds g.U.Usage.lawful g.U.Usage.allowed g.U.Usage.laws s.diary c.enter.new.self s.objects c.replace.new.self s.roots c.indices_at-refs.result c.unwrap-at.result c.args.stamp c.args.at c.args.refs c.args.numbers
    (with_all (indexed_names c.indices_at-refs.result) c.args.numbers) c.args.self.now c.self.view_is c.indices_at-refs.ensures c.unwrap-at.ensures (rw c.in-Stored.is at c.enter.ensures) c.replace.ensures

pub returns-in-Stored-clause-same : goal.returns-in-Stored-clause-same
returns-in-Stored-clause-same g c =
    let s = c.self.inside in
    continues_adds g.U.Usage.lawful g.U.Usage.allowed g.U.Usage.laws s.diary c.enter.new.self s.objects c.replace.new.self s.roots s.roots
    (StoreIf 0 (indexed_name c.unwrap-at.result) c.args.stamp (indexed_names c.indices_at-refs.result) c.args.numbers c.tried-answer.result) c.args.self.now c.self.view_is refl c.enter.ensures

pub returns-in-Changed-clause-changed : goal.returns-in-Changed-clause-changed
returns-in-Changed-clause-changed g c =
    let s = c.self.inside in
    finds_changed_adds g.U.Usage.lawful g.U.Usage.allowed g.U.Usage.laws s.diary c.enter.new.self s.objects s.roots c.indices_at-refs.result c.unwrap-at.result c.args.stamp c.in-Changed.stamp c.args.at c.args.refs c.args.numbers c.args.self.now
    c.self.view_is c.indices_at-refs.ensures c.unwrap-at.ensures (rw c.in-Changed.is at c.enter.ensures)

pub returns-in-Changed-clause-same : goal.returns-in-Changed-clause-same
returns-in-Changed-clause-same g c =
    let s = c.self.inside in
    continues_adds g.U.Usage.lawful g.U.Usage.allowed g.U.Usage.laws s.diary c.enter.new.self s.objects s.objects s.roots s.roots
    (StoreIf 0 (indexed_name c.unwrap-at.result) c.args.stamp (indexed_names c.indices_at-refs.result) c.args.numbers c.tried-answer.result) c.args.self.now c.self.view_is refl c.enter.ensures
