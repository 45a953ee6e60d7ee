use Rattle.std.proofs.Common.{◌≡◌, ◌∙◌, ap, refl, slice_index, subst, sym}
use Rattle.hm_model.specs.Sight.{Sight}
use Rattle.hm_model.specs.Calls.{Fetches, FetchesNumber}
use Rattle.hm_model.proofs.SightFacts.{continues_enters, continues_then}
use Rattle.hm_cells.specs.Facts.{sight_of}
use Rattle.hm_ops.specs.Walking.{contents_at}
use Rattle.hm_ops.proofs.CopiedBehind.{continues_behind, number_behind}
use Rattle.hm_ops.proofs.fetching.fetch_number.Goals as goal

pub returns-clause-fetched : goal.returns-clause-fetched
returns-clause-fetched g c =
    let L = g.U.Usage.lawful in
    let A = g.U.Usage.allowed in
    let at = c.walk-at in
    let read = c.read_number-number in
    let same : sight_of read.new.pass ≡ sight_of at.new.pass = read.ensures.reads.same in
    number_behind L A (sight_of c.args.pass.now) read.new.pass c.copy_behind.new.pass c.copy_behind.ensures.copies
    (ap (λ (x : Sight g.row.U.Denot). x.room) same ∙ at.ensures.room)
    (ap (λ (x : Sight g.row.U.Denot). x.copying) same ∙ at.ensures.untended.copying)
    c.args.from c.args.i read.result
    record {
      answer = contents_at at.new.pass at.result;
      fetch = subst (λ (x : Sight g.row.U.Denot). Fetches L A (sight_of c.args.pass.now) x c.args.from
          (contents_at at.new.pass at.result)) (sym same) at.ensures.fetch;
      value = read.ensures.value;
      roots = ap (λ (x : Sight g.row.U.Denot). x.roots) same ∙ at.ensures.names;
    }

pub returns-clause-same : goal.returns-clause-same
returns-clause-same g c =
    let L = g.U.Usage.lawful in
    let A = g.U.Usage.allowed in
    let at = c.walk-at in
    let read = c.read_number-number in
    continues_then L A (sight_of c.args.pass.now) (sight_of read.new.pass) (sight_of c.copy_behind.new.pass)
    (subst (Rattle.hm_model.specs.Sight.Continues L A (sight_of c.args.pass.now)) (sym read.ensures.reads.same)
    (continues_enters L A (sight_of c.args.pass.now) (sight_of at.new.pass)
    _ at.ensures.fetch.entry at.ensures.untended))
    (continues_behind L A (sight_of c.args.pass.now) read.new.pass c.copy_behind.new.pass c.copy_behind.ensures.copies)
