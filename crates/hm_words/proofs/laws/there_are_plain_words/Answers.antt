-- There are words in the plain form.
use Rattle.std.proofs.Common.{◌≢◌, zero, suc, List, [], ◌∷◌, refl, codes, arith}
use Rattle.std.specs.List.{All, AllPairs}
use Rattle.hm_words.specs.Commands.{high, versions}
use Rattle.hm_words.specs.Plain.{Given, IsGiven, is_file_word}
use Rattle.hm_words.proofs.laws.there_are_plain_words.Goals as goal

abbrev options : List Given
options = (high, codes "20") ∷ (versions, codes "512") ∷ []

-- the one pair of options has two names
apart : high ≢ versions
apart e = cc

once : AllPairs (λ a b. a.0 ≢ b.0) options
once zero zero d low below = absurd (omega arith)
once zero (suc zero) d low below = apart
once zero (suc (suc j)) d low below = absurd (omega arith)
once (suc i) zero d low below = absurd (omega arith)
once (suc i) (suc zero) d low below = absurd (omega arith)
once (suc i) (suc (suc j)) d low below = absurd (omega arith)

numbers : All IsGiven options
numbers zero d lt = record {
  digits =
      (omega arith, (omega arith, (omega arith, tt)));
  least_at_most = omega arith;
  at_most =
      omega arith;
}
numbers (suc zero) d lt =
    record {
      digits = (omega arith, (omega arith, (omega arith, (omega arith, tt))));
      least_at_most
          = omega arith;
      at_most = omega arith;
    }
numbers (suc (suc k)) d lt = absurd (omega arith)

names : All (λ file. Rattle.std.specs.Prelude.IsTrue (is_file_word file)) (codes "f" ∷ [])
names zero d lt = refl
names (suc k) d lt = absurd (omega arith)

pub returns-clause-replay : goal.returns-clause-replay
returns-clause-replay c = record {
  once = once;
  numbers = numbers;
  some = omega arith;
  fits = omega arith;
  names = names;
  prices = omega arith;
}

pub returns-clause-generate : goal.returns-clause-generate
returns-clause-generate c = record {
  of_number = record {
    digits = (omega arith, (omega arith, tt));
    least_at_most =
        omega arith;
    at_most = omega arith;
  };
  of_count = record {
    digits =
        (omega arith, (omega arith, (omega arith, (omega arith, tt))));
    least_at_most =
        omega arith;
    at_most = omega arith;
  };
  of_copies = record {
    digits =
        (omega arith, (omega arith, (omega arith, (omega arith, tt))));
    least_at_most =
        omega arith;
    at_most = omega arith;
  };
}
