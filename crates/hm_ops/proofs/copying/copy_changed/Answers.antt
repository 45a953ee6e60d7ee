use Rattle.std.proofs.Common.{◌≡◌, ◌+◌, ◌∙◌, ℕ, List, [], All, map, ap, sym, subst, arith}
use Rattle.hm_model.specs.declared.object.Contents.{Contents}
use Rattle.hm_model.specs.Effect.{with_field}
use Rattle.hm_cells.specs.Facts.{with_hand}
use Rattle.hm_cells.specs.Calls.{field_of}
use Rattle.hm_ops.specs.Resting.{Works}
use Rattle.hm_ops.specs.Copying.{given}
use Rattle.hm_ops.proofs.Hands.{reordered_none}
use Rattle.hm_ops.proofs.OneStep.{handed_works, work_rests}
use Rattle.hm_cells.specs.declared.want.WantField.{WantField}
use Rattle.hm_ops.specs.Walking.{contents_at}
use Rattle.hm_ops.specs.Writing.{NamesKept, name_by}
use Rattle.hm_ops.proofs.ChangedCopies.{changed_kept, copied, given_kept, number_changed, read_all, reference_changed, taken_alone}
use Rattle.hm_ops.proofs.copying.copy_changed.Goals as goal
use Rattle.hm_ops.proofs.copying.copy_changed.Goals.{in-Number, in-Refer}

pub write_copy-requires-clause-kept : goal.write_copy-requires-clause-kept
write_copy-requires-clause-kept g c =
    let t = c.take_references-named.new.pass in
    let words = c.words_of-words in
    let all : All (NamesKept t) words.result =
    subst (All (NamesKept t)) (sym words.ensures)
    (given_kept t c.read_numbers-numbers.new.pass.hand c.take_references-named.result
    c.take_references-named.ensures.takes.hand) in
    elim c.match-field.branch [
      | in-Number w ↦ subst (All (NamesKept t)) (sym w.words-is) all
      | in-Refer w ↦
          subst (All (NamesKept t))
          (sym (w.words-is ∙ ap (λ (x : ℕ). Rattle.std.proofs.Common.set words.result w.in-Refer.i x)
          w.reference_word.ensures))
          (changed_kept t words.result w.in-Refer.i w.in-Refer.value all)
    ]

pub returns-clause-copies : goal.returns-clause-copies
returns-clause-copies g c =
    let s = c.args.pass.now in
    let t = c.take_references-named.new.pass in
    let v = c.args.v in
    let stamp = c.read_stamp-stamp in
    let numbers = c.read_numbers-numbers in
    let words = c.words_of-words in
    let read =
    read_all g.U.Usage.lawful g.U.Usage.allowed c.args.cells.now s stamp.new.pass numbers.new.pass t v
    stamp.result numbers.result words.result c.take_references-named.result stamp.ensures.reads
    stamp.ensures.value numbers.ensures.reads numbers.ensures.value c.take_references-named.ensures.takes
    words.ensures c.requires.rooted in
    let x : Contents = record {
      stamp = stamp.result + 1;
      refs = map (name_by t) c.match-field.words;
      numbers = c.match-field.numbers;
    } in
    copied s t v stamp.result words.result numbers.result read c.args.field x c.write_copy.new.pass
    c.release_all.new.pass
    (elim c.match-field.branch [
      | in-Number w ↦
          ap (λ (field : WantField). with_field (field_of s field) (contents_at s v)) w.in-Number.is
          ∙ (number_changed s t v stamp.result words.result numbers.result read w.in-Number.i
          w.in-Number.value
          ∙ (λ j. record {
            stamp = stamp.result + 1;
            refs = map (name_by t) (sym w.words-is j);
            numbers = sym w.numbers-is j;
          }))
      | in-Refer w ↦
          ap (λ (field : WantField). with_field (field_of s field) (contents_at s v)) w.in-Refer.is
          ∙ (reference_changed s t v stamp.result words.result numbers.result read w.in-Refer.i
          w.in-Refer.value
          ∙ (λ j. record {
            stamp = stamp.result + 1;
            refs = map (name_by t) (sym (w.words-is ∙ ap
                (λ (y : ℕ). Rattle.std.proofs.Common.set words.result w.in-Refer.i y)
                w.reference_word.ensures) j);
            numbers = sym w.numbers-is j;
          }))
    ])
    c.write_copy.ensures.copies c.requires.rooted
    (c.release_all.ensures [] (taken_alone t.hand c.read_numbers-numbers.new.pass.hand
    c.write_copy.new.pass.hand c.take_references-named.result
    c.read_numbers-numbers.ensures.reads.keeps.resting.rest.hand
    c.take_references-named.ensures.takes.hand c.write_copy.ensures.copies.hand)
    ∙ ap (with_hand c.write_copy.new.pass) (reordered_none (given c.take_references-named.result)))

pub returns-clause-keeps : goal.returns-clause-keeps
returns-clause-keeps g c =
    let u = c.write_copy.new.pass in
    let empty = c.release_all.ensures [] (taken_alone c.take_references-named.new.pass.hand
    c.read_numbers-numbers.new.pass.hand u.hand c.take_references-named.result
    c.read_numbers-numbers.ensures.reads.keeps.resting.rest.hand
    c.take_references-named.ensures.takes.hand c.write_copy.ensures.copies.hand)
    ∙ ap (with_hand u) (reordered_none (given c.take_references-named.result)) in
    work_rests g.U.Usage.lawful g.U.Usage.allowed c.release_all.new.pass c.args.cells.now
    (subst (λ (f : _). Works g.U.Usage.lawful g.U.Usage.allowed f c.args.cells.now) (sym empty)
    (handed_works g.U.Usage.lawful g.U.Usage.allowed u c.args.cells.now [] c.write_copy.ensures.works
    (λ v held. absurd (let low = held.1 in omega arith)) (omega arith)))
    (ap (λ (f : _). f.hand) empty)
