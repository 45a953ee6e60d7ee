-- `get_one` reads the number that was found.
use Rattle.std.proofs.Common.{◌∙◌, arith}
use Rattle.std.specs.Str.Parse.{ParsesUnsigned, ExplainsUnsignedError, HasUnsignedDigitsIfOk}
use Rattle.clap.specs.Words.{found_of}
use Rattle.hm_words.proofs.Numbers.{number_found}
use Rattle.hm_words.proofs.read.number_or.Goals as goal

pub returns : goal.returns
returns c = c.unwrap_or.ensures
    ∙ number_found _ (λ bs r. ParsesUnsigned 32 10 bs r × ExplainsUnsignedError 10 bs r ×
    HasUnsignedDigitsIfOk bs r) 32 0 4294967295 c.args.default
    (found_of c.args.matches.now) c.args.name.now c.get_one.result c.get_one.ensures.none
    c.get_one.ensures.value (λ t x g. g.0) (omega arith) c.requires
