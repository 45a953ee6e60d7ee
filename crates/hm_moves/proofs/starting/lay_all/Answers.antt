-- The side objects are laid one after another, then the common object.
use Rattle.std.proofs.Common.{◌≡◌, ◌∷◌, [], List, ℕ, Option, length, OnOk, sym, subst, rules}
use Rattle.hm_moves.proofs.Words.{Numbers}
use Rattle.hm_moves.proofs.FirstWords.{AreLaid, all_laid, four_sides, none_laid, one_laid}
use Rattle.hm_moves.proofs.starting.lay_all.Goals as goal

pub returns-clause-laid : goal.returns-clause-laid
returns-clause-laid c =
    let before : List ℕ = c.args.words.now.items in
    let after : List ℕ = c.lay_side-4.new.words.items in
    let four : length c.args.start.sides ≡ 4 = search rules in
    let words : List ℕ = c.in_ok-lay_side.field-0 ∷ c.in_ok-lay_side-2.field-0 ∷
    c.in_ok-lay_side-3.field-0
    ∷ c.in_ok-lay_side-4.field-0 ∷ [] in
    let sides : AreLaid before 0 c.args.start.sides words after =
    subst (λ (sides : List (Option Numbers)). AreLaid before 0 sides words after)
    (sym (four_sides c.args.start.sides four))
    (one_laid before 0 _ _ _ _ _ _ after c.in_ok-lay_side.ensures
    (one_laid _ _ _ _ _ _ _ _ after c.in_ok-lay_side-2.ensures
    (one_laid _ _ _ _ _ _ _ _ after c.in_ok-lay_side-3.ensures
    (one_laid _ _ _ _ _ _ _ _ after c.in_ok-lay_side-4.ensures (none_laid after _))))) in
    subst (λ (l : List ℕ). OnOk c.lay.result (c.lay.new.words.items ≡ l))
    (all_laid c.args.start before words after sides) c.lay.ensures
