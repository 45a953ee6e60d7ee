use Rattle.std.proofs.Common.{◌≡◌, ◌+◌, ◌∙◌, [], ◌∷◌, ap, length, rules}
use Rattle.std.proofs.lemmas.List.{length-map}
use Rattle.hm_ops.proofs.WholeDrafts.{drafts_all}
use Rattle.hm_ops.proofs.OneStep.{rest_works, work_rests}
use Rattle.hm_ops.proofs.WrittenWords.{places_kept, words_last, writes_all}
use Rattle.hm_ops.proofs.writing.draft.Goals as goal

pub write-requires-clause-works : goal.write-requires-clause-works
write-requires-clause-works g c =
    rest_works g.U.Usage.lawful g.U.Usage.allowed c.args.pass.now c.args.cells.now c.requires.keeps

pub write-requires-2-clause-lasting : goal.write-requires-2-clause-lasting
write-requires-2-clause-lasting g c =
    let words = c.reference_words-words in
    let w = c.write.ensures.wrote in
    λ i low. words_last c.args.pass.now c.write.new.pass words.result w.roots w.hand
    (places_kept c.args.pass.now c.args.refs words.result words.ensures) (2 + i) i low

pub returns-clause-drafts : goal.returns-clause-drafts
returns-clause-drafts g c =
    let four : length c.args.refs ≡ 4 = search rules in
    let ten : length c.args.numbers ≡ 10 = search rules in
    let words = c.reference_words-words in
    let wide : length words.result ≡ 4 = ap length words.ensures ∙ (length-map c.args.refs _ ∙ four) in
    drafts_all c.args.pass.now c.write-3.new.pass c.args.refs c.args.numbers words.result four ten words.ensures
    (writes_all c.args.pass.now c.write.new.pass c.write-2.new.pass c.write-3.new.pass 1 (0 ∷ []) words.result
    c.args.numbers wide ten (places_kept c.args.pass.now c.args.refs words.result words.ensures)
    c.write.ensures.wrote c.write-2.ensures.wrote c.write-3.ensures.wrote)

pub returns-clause-keeps : goal.returns-clause-keeps
returns-clause-keeps g c =
    let hand = c.write-3.ensures.wrote.hand ∙ (c.write-2.ensures.wrote.hand ∙ c.write.ensures.wrote.hand) in
    work_rests g.U.Usage.lawful g.U.Usage.allowed c.write-3.new.pass c.args.cells.now
    c.write-3.ensures.works (hand ∙ c.requires.keeps.resting.rest.hand)
