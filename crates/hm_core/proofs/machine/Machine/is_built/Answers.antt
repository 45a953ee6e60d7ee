use Rattle.std.proofs.Common.{Some, sym, ◌∙◌, eqb}
use Rattle.hm_core.proofs.Words.{option_eq}
use Rattle.hm_core.proofs.EntryTests.{word_told, not_false}
use Rattle.hm_core.proofs.machine.Machine.is_built.Goals as goal

pub returns-clause-built : goal.returns-clause-built
returns-clause-built c =
    let stamp = word_told c.written.result c.args.contents.now.stamp
    (not_false (option_eq eqb c.written.result (Some c.args.contents.now.stamp))
    (sym c.ne.ensures ∙ c.if-ne.false)) in (
      λ h. record {
        sized = c.requires.sized;
        stamp = sym c.written.ensures ∙ stamp;
        refs = c.are_spelled.ensures.0 c.if-not-are_spelled.false;
        numbers = c.are_numbers.ensures.0 h;
      },
      λ b. c.are_numbers.ensures.1 b.numbers,
    )
