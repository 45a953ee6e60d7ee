use Rattle.std.proofs.Common.{◌∙◌, ap}
use Rattle.hm_model.specs.declared.object.Name.{Name}
use Rattle.hm_model.specs.Sight.{name_at}
use Rattle.hm_model.proofs.CallFacts.{fetches_rests}
use Rattle.hm_model.proofs.SightFacts.{continues_enters, continues_rests, continues_then}
use Rattle.hm_cells.specs.Facts.{sight_of}
use Rattle.hm_ops.specs.Walking.{contents_at}
use Rattle.hm_ops.proofs.CopiedBehind.{continues_behind, ref_behind}
use Rattle.hm_ops.proofs.fetching.fetch_ref.Goals as goal

pub returns-clause-fetched : goal.returns-clause-fetched
returns-clause-fetched g c =
    let L = g.U.Usage.lawful in
    let A = g.U.Usage.allowed in
    let at = c.walk-at in
    let read = c.read_reference-is_some in
    let reads = read.ensures.reads in
    ref_behind L A (sight_of c.args.pass.now) read.new.pass c.copy_behind.new.pass c.copy_behind.ensures.copies
    (reads.rests.room ∙ at.ensures.room)
    (reads.rests.untended.copying ∙ at.ensures.untended.copying)
    c.args.from c.args.i c.args.into read.result
    record {
      answer = contents_at at.new.pass at.result;
      fetch = fetches_rests L A (sight_of c.args.pass.now) (sight_of at.new.pass) (sight_of read.new.pass) c.args.from
          (contents_at at.new.pass at.result) at.ensures.fetch reads.rests;
      value = read.ensures.value;
      roots = record {
        here = reads.names.here;
        others = λ k other. reads.names.others k other
            ∙ ap (λ (l : Rattle.std.proofs.Common.List (Rattle.std.proofs.Common.Option Name)). name_at l k) at.ensures.names;
      };
    }

pub returns-clause-same : goal.returns-clause-same
returns-clause-same g c =
    let L = g.U.Usage.lawful in
    let A = g.U.Usage.allowed in
    let at = c.walk-at in
    let read = c.read_reference-is_some in
    continues_then L A (sight_of c.args.pass.now) (sight_of at.new.pass) (sight_of c.copy_behind.new.pass)
    (continues_enters L A (sight_of c.args.pass.now) (sight_of at.new.pass)
    _ at.ensures.fetch.entry at.ensures.untended)
    (continues_then L A (sight_of at.new.pass) (sight_of read.new.pass) (sight_of c.copy_behind.new.pass)
    (continues_rests L A (sight_of at.new.pass) (sight_of read.new.pass) read.ensures.reads.rests)
    (continues_behind L A (sight_of c.args.pass.now) read.new.pass c.copy_behind.new.pass c.copy_behind.ensures.copies))
