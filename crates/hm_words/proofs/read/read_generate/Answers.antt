-- What was found is what the words after `generate` ask for.
use Rattle.std.proofs.Common.{◌≡◌, ◌∙◌, ap, subst, true, arith, codes}
use Rattle.clap.specs.Words.{App, found_of, matches_of, rows_of}
use Rattle.hm_words.specs.Commands.{versions}
use Rattle.hm_words.specs.Asked.{accepts, texts}
use Rattle.hm_words.specs.Reading.{IsParsedBy}
use Rattle.hm_words.proofs.Answered.{generate_answer, generate_count, generate_number, generate_some, generate_versions, generate_within}
use Rattle.hm_words.proofs.Numbers.{number_wider, setting_fits}
use Rattle.hm_words.proofs.read.read_generate.Goals as goal

pub number_or-requires : goal.number_or-requires
number_or-requires c = setting_fits (rows_of (found_of c.in_ok-matches.matches)) versions
    (generate_versions c.in_ok-matches.matches
    (subst (λ (a : App). IsParsedBy a c.in_ok-matches.matches) c.in_ok-generate_command.ensures
    c.in_ok-matches.ensures.parsed))

pub required_number-requires : goal.required_number-requires
required_number-requires c =
    let is = c.in_ok-generate_command.ensures in
    let accepted = subst (λ (a : App). accepts a (texts c.args.words.now) ≡ true) is
    c.in_ok-matches.ensures.accepted in
    let rows = c.in_ok-matches.ensures.rows
    ∙ ap (λ (a : App). matches_of a (texts c.args.words.now)) is in
    let parsed = subst (λ (a : App). IsParsedBy a c.in_ok-matches.matches) is
    c.in_ok-matches.ensures.parsed in
    record {
      there = (generate_some c.in_ok-matches.matches
          (texts c.args.words.now) parsed accepted rows).0;
      number = generate_number c.in_ok-matches.matches parsed;
    }

pub required_number-requires-2 : goal.required_number-requires-2
required_number-requires-2 c =
    let is = c.in_ok-generate_command.ensures in
    let accepted = subst (λ (a : App). accepts a (texts c.args.words.now) ≡ true) is
    c.in_ok-matches.ensures.accepted in
    let rows = c.in_ok-matches.ensures.rows
    ∙ ap (λ (a : App). matches_of a (texts c.args.words.now)) is in
    let parsed = subst (λ (a : App). IsParsedBy a c.in_ok-matches.matches) is
    c.in_ok-matches.ensures.parsed in
    record {
      there = (generate_some c.in_ok-matches.matches
          (texts c.args.words.now) parsed accepted rows).1;
      number = number_wider (codes "COUNT") 0 1000000 0 18446744073709551615
          (rows_of (found_of c.in_ok-matches.matches)) (omega arith) (omega arith)
          (generate_count c.in_ok-matches.matches parsed);
    }

pub returns-clause-asked : goal.returns-clause-asked
returns-clause-asked c =
    let is = c.in_ok-generate_command.ensures in
    let accepted = subst (λ (a : App). accepts a (texts c.args.words.now) ≡ true) is
    c.in_ok-matches.ensures.accepted in
    let rows = c.in_ok-matches.ensures.rows
    ∙ ap (λ (a : App). matches_of a (texts c.args.words.now)) is in
    generate_answer (texts c.args.words.now)
    (rows_of (found_of c.in_ok-matches.matches)) c.number_or.result c.required_number.result
    c.required_number-2.result
    accepted rows c.number_or.ensures c.required_number.ensures c.required_number-2.ensures

pub returns-clause-within : goal.returns-clause-within
returns-clause-within c =
    generate_within c.in_ok-matches.matches c.number_or.result c.required_number-2.result
    (subst (λ (a : App). IsParsedBy a c.in_ok-matches.matches) c.in_ok-generate_command.ensures
    c.in_ok-matches.ensures.parsed)
    c.number_or.ensures c.required_number-2.ensures
