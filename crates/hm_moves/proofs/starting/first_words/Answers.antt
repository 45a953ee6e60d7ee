-- Behind what is laid come words of 0.
use Rattle.std.proofs.Common.{◌≡◌, ◌++◌, ◌-◌, List, ℕ, length, replicate, take, sym, ap, ◌∙◌, subst, rules}
use Rattle.hm_moves.proofs.Words.{flat_map, take_all, word_count, all_known, AreFirst, known_words, laid_words}
use Rattle.std.specs.Vec.{vec_len}
use Rattle.hm_moves.proofs.FirstWords.{first_are, laid_fits}
use Rattle.hm_moves.proofs.starting.first_words.Goals as goal

pub returns-clause-words : goal.returns-clause-words
returns-clause-words c =
    let s = c.args.shape in
    let start = c.args.start in
    let laid : c.lay_all.new.words.items ≡ laid_words s start =
    c.in_ok-lay_all.ensures.laid
    ∙ ap (λ (l : List ℕ). l ++ flat_map known_words (all_known start)) c.in_ok-words.ensures in
    let wide : vec_len c.lay_all.new.words ≡ length (laid_words s start) = search rules
    ∙ ap length laid in
    let count : c.word_count.result ≡ word_count s = c.word_count.ensures in
    c.in_ok-resize.ensures.items
    ∙ ((λ i. take (count i) (laid i) ++ replicate (count i - wide i) 0)
    ∙ ap (λ (l : List ℕ). l ++ replicate (word_count s - length (laid_words s start)) 0)
    (take_all (word_count s) (laid_words s start) (laid_fits s start c.in_ok-lay_all.ensures.sized
    c.requires)))

pub returns-clause-first : goal.returns-clause-first
returns-clause-first c =
    subst (AreFirst c.args.shape c.args.start) (sym (returns-clause-words c))
    (first_are c.args.shape c.args.start c.in_ok-lay_all.ensures.sized c.requires)
