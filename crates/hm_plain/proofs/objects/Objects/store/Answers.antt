use Rattle.hm_model.specs.Effect.{with_field}
use Rattle.hm_plain.specs.Calls.{field_of}
use Rattle.hm_plain.proofs.StockFacts.{changes_one}
use Rattle.hm_plain.proofs.objects.Objects.store.Goals as goal

pub returns : goal.returns
returns c =
    let o = c.self.inside in
    changes_one o.items.items o.used o.room c.args.index c.index_mut.result.now c.store.new.self (with_field (field_of c.args.change)) c.args.self.now c.self.view_is c.requires.index c.requires.room
    c.index_mut.ensures.value c.store.ensures.contents
