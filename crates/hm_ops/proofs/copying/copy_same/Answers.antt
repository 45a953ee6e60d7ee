use Rattle.std.proofs.Common.{All, sym, subst}
use Rattle.hm_ops.specs.Copying.{given}
use Rattle.hm_ops.specs.Resting.{Works}
use Rattle.hm_ops.specs.Writing.{NamesKept}
use Rattle.hm_ops.proofs.ChangedCopies.{copied_same, given_kept, hand_then, released_works}
use Rattle.hm_ops.proofs.WrittenWords.{kept_same}
use Rattle.hm_ops.proofs.copying.copy_same.Goals as goal

pub load_numbers-numbers-requires-clause-kept : goal.load_numbers-numbers-requires-clause-kept
load_numbers-numbers-requires-clause-kept g c =
    let stamp = c.load_stamp-stamp in
    kept_same c.args.pass.now stamp.new.pass stamp.ensures.loads.stays.roots stamp.ensures.hand c.args.v
    c.requires.kept

pub take_references-named-requires-clause-kept : goal.take_references-named-requires-clause-kept
take_references-named-requires-clause-kept g c =
    let stamp = c.load_stamp-stamp in
    let numbers = c.load_numbers-numbers in
    kept_same stamp.new.pass numbers.new.pass numbers.ensures.loads.stays.roots numbers.ensures.hand c.args.v
    (kept_same c.args.pass.now stamp.new.pass stamp.ensures.loads.stays.roots stamp.ensures.hand c.args.v
    c.requires.kept)

pub write_copy-requires-clause-kept : goal.write_copy-requires-clause-kept
write_copy-requires-clause-kept g c =
    let named = c.take_references-named in
    subst (All (NamesKept named.new.pass)) (sym c.words_of.ensures)
    (given_kept named.new.pass c.load_numbers-numbers.new.pass.hand named.result named.ensures.takes.hand)

pub release_all-requires : goal.release_all-requires
release_all-requires g c =
    let stamp = c.load_stamp-stamp in
    let numbers = c.load_numbers-numbers in
    let named = c.take_references-named in (
      c.args.pass.now.hand,
      hand_then g.U.Usage.lawful g.U.Usage.allowed c.args.cells.now c.args.pass.now stamp.new.pass numbers.new.pass
          named.new.pass c.write_copy.new.pass c.args.v c.args.scan stamp.result numbers.result
          c.words_of.result named.result stamp.ensures.loads stamp.ensures.value stamp.ensures.hand
          numbers.ensures.loads numbers.ensures.value numbers.ensures.hand named.ensures.takes
          c.words_of.ensures c.requires.kept c.write_copy.ensures.copies c.write_copy.ensures.works.sound,
    )

pub returns-clause-copies : goal.returns-clause-copies
returns-clause-copies g c =
    let stamp = c.load_stamp-stamp in
    let numbers = c.load_numbers-numbers in
    let named = c.take_references-named in
    copied_same g.U.Usage.lawful g.U.Usage.allowed c.args.cells.now c.args.pass.now stamp.new.pass numbers.new.pass
    named.new.pass c.write_copy.new.pass c.args.v c.args.scan stamp.result numbers.result
    c.words_of.result named.result stamp.ensures.loads stamp.ensures.value stamp.ensures.hand
    numbers.ensures.loads numbers.ensures.value numbers.ensures.hand named.ensures.takes
    c.words_of.ensures c.requires.kept c.write_copy.ensures.copies c.write_copy.ensures.works.sound
    c.release_all.new.pass
    (c.release_all.ensures c.args.pass.now.hand (hand_then g.U.Usage.lawful g.U.Usage.allowed c.args.cells.now c.args.pass.now stamp.new.pass numbers.new.pass
    named.new.pass c.write_copy.new.pass c.args.v c.args.scan stamp.result numbers.result
    c.words_of.result named.result stamp.ensures.loads stamp.ensures.value stamp.ensures.hand
    numbers.ensures.loads numbers.ensures.value numbers.ensures.hand named.ensures.takes
    c.words_of.ensures c.requires.kept c.write_copy.ensures.copies c.write_copy.ensures.works.sound))

pub returns-clause-works : goal.returns-clause-works
returns-clause-works g c =
    let stamp = c.load_stamp-stamp in
    let numbers = c.load_numbers-numbers in
    let named = c.take_references-named in
    let same = hand_then g.U.Usage.lawful g.U.Usage.allowed c.args.cells.now c.args.pass.now stamp.new.pass numbers.new.pass
    named.new.pass c.write_copy.new.pass c.args.v c.args.scan stamp.result numbers.result
    c.words_of.result named.result stamp.ensures.loads stamp.ensures.value stamp.ensures.hand
    numbers.ensures.loads numbers.ensures.value numbers.ensures.hand named.ensures.takes
    c.words_of.ensures c.requires.kept c.write_copy.ensures.copies c.write_copy.ensures.works.sound in
    subst (λ (f : _). Works g.U.Usage.lawful g.U.Usage.allowed f c.args.cells.now)
    (sym (c.release_all.ensures c.args.pass.now.hand same))
    (released_works g.U.Usage.lawful g.U.Usage.allowed c.args.cells.now c.write_copy.new.pass
    c.args.pass.now.hand (given named.result) (given named.result) c.write_copy.ensures.works same)
