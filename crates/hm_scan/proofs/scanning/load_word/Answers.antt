use Rattle.std.proofs.Common.{◌%◌, arith}
use Rattle.hm_scan.proofs.Looks.{link_looked, link_works, own_lookable, reference_hand, reference_looked, reference_works, word_field}
use Rattle.hm_scan.proofs.scanning.load_word.Goals as goal

pub load_link-requires-clause-look : goal.load_link-requires-clause-look
load_link-requires-clause-look g c = own_lookable c.args.pass.now c.args.own c.requires.at

pub returns-then-i-eq-LINK-clause-looked : goal.returns-then-i-eq-LINK-clause-looked
returns-then-i-eq-LINK-clause-looked g c =
    link_looked g.U.Usage.lawful g.U.Usage.allowed c.args.cells.now c.args.pass.now c.load_link.new.pass
    c.requires.keeps c.load_link.ensures.sound c.requires.way c.args.own c.args.i c.requires.at c.requires.word
    c.load_link.result c.if-i-eq-LINK.true c.load_link.ensures.took

pub returns-then-i-eq-LINK-clause-works : goal.returns-then-i-eq-LINK-clause-works
returns-then-i-eq-LINK-clause-works g c =
    link_works g.U.Usage.lawful g.U.Usage.allowed c.args.cells.now c.args.pass.now c.load_link.new.pass
    c.requires.keeps c.load_link.ensures.sound c.requires.way c.args.own c.args.i c.requires.at c.requires.word
    c.load_link.result c.if-i-eq-LINK.true c.load_link.ensures.took

pub load_field-requires-clause-look : goal.load_field-requires-clause-look
load_field-requires-clause-look g c = own_lookable c.args.pass.now c.args.own c.requires.at

pub returns-clause-looked : goal.returns-clause-looked
returns-clause-looked g c =
    let w = word_field (c.args.pass.now.part.cycle.scan.cursor % 5) c.args.i (omega arith) c.requires.word
    c.if-i-eq-LINK.false in
    reference_looked g.U.Usage.lawful g.U.Usage.allowed c.args.cells.now c.args.pass.now c.load_field.new.pass
    c.requires.keeps c.load_field.ensures.sound c.requires.way c.args.own c.args.i c.requires.at c.requires.word
    c.named.result c.load_field.result w.0 w.1 w.2 c.load_field.ensures.took c.named.ensures.named

pub returns-clause-hand : goal.returns-clause-hand
returns-clause-hand g c =
    let w = word_field (c.args.pass.now.part.cycle.scan.cursor % 5) c.args.i (omega arith) c.requires.word
    c.if-i-eq-LINK.false in
    reference_hand g.U.Usage.lawful g.U.Usage.allowed c.args.cells.now c.args.pass.now c.load_field.new.pass
    c.requires.keeps c.load_field.ensures.sound c.requires.way c.args.own c.args.i c.requires.at c.requires.word
    c.named.result c.load_field.result w.0 w.1 w.2 c.load_field.ensures.took c.named.ensures.named

pub returns-clause-works : goal.returns-clause-works
returns-clause-works g c =
    let w = word_field (c.args.pass.now.part.cycle.scan.cursor % 5) c.args.i (omega arith) c.requires.word
    c.if-i-eq-LINK.false in
    reference_works g.U.Usage.lawful g.U.Usage.allowed c.args.cells.now c.args.pass.now c.load_field.new.pass
    c.requires.keeps c.load_field.ensures.sound c.requires.way c.args.own c.args.i c.requires.at c.requires.word
    c.named.result c.load_field.result w.0 w.1 w.2 c.load_field.ensures.took c.named.ensures.named
