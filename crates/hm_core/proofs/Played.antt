-- One step more is played.
use Rattle.std.proofs.Common.{◌≡◌, ◌<◌, ◌+◌, ℕ, List, [], ◌∷◌, ◌++◌, length, get_or, take, refl, sym, subst}
use Rattle.hm_core.proofs.Words.{Step, Moment, Plays, take_more, Answers}

-- the last of some steps
plays_last : (m l n : Moment) (steps : List Step) (step : Step) → Plays m steps l → Answers l step n
    → Plays m (steps ++ step ∷ []) n
plays_last m l n [] step same answers = (n, rw (sym same) answers, refl)
plays_last m l n (s ∷ steps) step (k, one, rest) answers =
    (k, one, plays_last k l n steps step rest answers)

-- the next of a list
pub plays_more : (m l n : Moment) (steps : List Step) (i : ℕ) (step : Step) → i < length steps
    → step ≡ get_or steps i step → Plays m (take i steps) l → Answers l step n
    → Plays m (take (i + 1) steps) n
plays_more m l n steps i step low is plays answers =
    rw (take_more steps i step low) (plays_last m l n (take i steps) (get_or steps i step) plays
    (subst (λ (s : Step). Answers l s n) is answers))
