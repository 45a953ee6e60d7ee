use Rattle.hm_model.specs.Effect.{with_all}
use Rattle.hm_plain.specs.Indices.{indexed_names}
use Rattle.hm_plain.proofs.StockFacts.{changes_one}
use Rattle.hm_plain.proofs.objects.Objects.replace.Goals as goal

pub returns : goal.returns
returns c =
    let o = c.self.inside in
    changes_one o.items.items o.used o.room c.args.index c.index_mut.result.now c.replace.new.self (with_all (indexed_names c.args.refs) c.args.numbers) c.args.self.now c.self.view_is c.requires.index c.requires.room
    c.index_mut.ensures.value c.replace.ensures.contents
