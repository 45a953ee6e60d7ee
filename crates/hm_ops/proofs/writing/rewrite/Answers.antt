use Rattle.std.proofs.Common.{◌+◌, ◌∙◌, ap, map, subst}
use Rattle.hm_model.specs.Store.{Refs}
use Rattle.hm_ops.specs.Storing.{Copies}
use Rattle.hm_ops.specs.Writing.{name_by}
use Rattle.hm_ops.proofs.WholeDrafts.{names_back}
use Rattle.hm_ops.proofs.OneStep.{rest_works, work_rests}
use Rattle.hm_ops.proofs.WrittenWords.{places_kept}
use Rattle.hm_ops.proofs.writing.rewrite.Goals as goal

pub write_copy-requires-clause-works : goal.write_copy-requires-clause-works
write_copy-requires-clause-works g c =
    rest_works g.U.Usage.lawful g.U.Usage.allowed c.args.pass.now c.args.cells.now c.requires.keeps

pub write_copy-requires-clause-kept : goal.write_copy-requires-clause-kept
write_copy-requires-clause-kept g c =
    let words = c.reference_words-words in
    places_kept c.args.pass.now c.args.refs words.result words.ensures

pub returns-clause-copies : goal.returns-clause-copies
returns-clause-copies g c =
    let words = c.reference_words-words in
    let s = c.args.pass.now in
    subst (λ (refs : Refs). Copies s record {
      stamp = c.args.stamp + 1;
      refs = refs;
      numbers = c.args.numbers;
    } c.write_copy.new.pass) (ap (map (name_by s)) words.ensures ∙ names_back s c.args.refs)
    c.write_copy.ensures.copies

pub returns-clause-keeps : goal.returns-clause-keeps
returns-clause-keeps g c =
    work_rests g.U.Usage.lawful g.U.Usage.allowed c.write_copy.new.pass c.args.cells.now
    c.write_copy.ensures.works (c.write_copy.ensures.copies.hand ∙ c.requires.keeps.resting.rest.hand)
