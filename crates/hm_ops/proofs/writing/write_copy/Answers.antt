use Rattle.std.proofs.Common.{◌≡◌, ◌+◌, [], ◌∷◌, length, rules}
use Rattle.hm_ops.proofs.WholeDrafts.{copies_all}
use Rattle.hm_ops.proofs.WrittenWords.{words_last, writes_all}
use Rattle.hm_ops.proofs.writing.write_copy.Goals as goal

pub write-requires-2-clause-lasting : goal.write-requires-2-clause-lasting
write-requires-2-clause-lasting g c =
    let w = c.write.ensures.wrote in
    λ i low. words_last c.args.pass.now c.write.new.pass c.args.words w.roots w.hand c.requires.kept (2 + i) i
    low

pub returns-clause-copies : goal.returns-clause-copies
returns-clause-copies g c =
    let four : length c.args.words ≡ 4 = search rules in
    let ten : length c.args.numbers ≡ 10 = search rules in
    copies_all g.U.Usage.lawful g.U.Usage.allowed c.args.cells.now c.args.pass.now c.write-3.new.pass
    c.args.stamp c.args.numbers c.args.words four ten c.requires.works.sound c.requires.kept
    (writes_all c.args.pass.now c.write.new.pass c.write-2.new.pass c.write-3.new.pass 0
    (0 ∷ c.args.stamp ∷ []) c.args.words c.args.numbers four ten c.requires.kept c.write.ensures.wrote
    c.write-2.ensures.wrote c.write-3.ensures.wrote) c.write-3.ensures.works.sound
