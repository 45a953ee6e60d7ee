-- `get_one` reads the number that has to be there.
use Rattle.std.proofs.Common.{◌∙◌, ap, sym, subst, refl, arith}
use Rattle.std.specs.Prelude.{IsSome, unwrap_or}
use Rattle.std.specs.Str.Parse.{ParsesUnsigned, ExplainsUnsignedError, HasUnsignedDigitsIfOk}
use Rattle.clap.specs.Words.{found_of}
use Rattle.hm_words.proofs.Numbers.{number_there}
use Rattle.hm_words.proofs.read.required_number.Goals as goal

pub unwrap-requires : goal.unwrap-requires
unwrap-requires c = subst IsSome
    (sym (number_there _ (λ bs r. ParsesUnsigned 64 10 bs r × ExplainsUnsignedError 10 bs r ×
    HasUnsignedDigitsIfOk bs r)
    64 0 18446744073709551615 0 (found_of c.args.matches.now) c.args.name.now c.get_one.result
    c.get_one.ensures.value (λ t x g. g.0) (omega arith)
    c.requires.number c.requires.there)) refl

pub returns : goal.returns
returns c = ap (λ o. unwrap_or o 0)
    (sym c.unwrap.ensures
    ∙ number_there _ (λ bs r. ParsesUnsigned 64 10 bs r × ExplainsUnsignedError 10 bs r ×
    HasUnsignedDigitsIfOk bs r)
    64 0 18446744073709551615 0 (found_of c.args.matches.now) c.args.name.now c.get_one.result
    c.get_one.ensures.value (λ t x g. g.0) (omega arith)
    c.requires.number c.requires.there)
