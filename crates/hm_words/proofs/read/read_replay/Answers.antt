-- What was found is what the words after `replay` ask for.
use Rattle.std.proofs.Common.{◌≡◌, ◌∙◌, ◌<◌, ap, subst, sym, length, true}
use Rattle.clap.specs.Words.{App, found_of, matches_of, rows_of}
use Rattle.hm_words.specs.Asked.{accepts, texts}
use Rattle.hm_words.specs.Reading.{IsParsedBy}
use Rattle.hm_words.proofs.Answered.{replay_answer, replay_settings, replay_some, settings_within}
use Rattle.hm_words.proofs.read.read_replay.Goals as goal

pub settings_of-settings-requires : goal.settings_of-settings-requires
settings_of-settings-requires c =
    replay_settings c.in_ok-matches.matches
    (subst (λ (a : App). IsParsedBy a c.in_ok-matches.matches) c.in_ok-replay_command.ensures
    c.in_ok-matches.ensures.parsed)

pub returns-clause-asked : goal.returns-clause-asked
returns-clause-asked c =
    let is = c.in_ok-replay_command.ensures in
    let accepted = subst (λ (a : App). accepts a (texts c.args.words.now) ≡ true) is
    c.in_ok-matches.ensures.accepted in
    let rows = c.in_ok-matches.ensures.rows
    ∙ ap (λ (a : App). matches_of a (texts c.args.words.now)) is in
    replay_answer (texts c.args.words.now)
    (rows_of (found_of c.in_ok-matches.matches)) c.settings_of-settings.result _
    accepted rows c.settings_of-settings.ensures c.if-settings.false c.in_ok-files.ensures

pub returns-clause-within : goal.returns-clause-within
returns-clause-within c =
    let is = c.in_ok-replay_command.ensures in
    let accepted = subst (λ (a : App). accepts a (texts c.args.words.now) ≡ true) is
    c.in_ok-matches.ensures.accepted in
    let rows = c.in_ok-matches.ensures.rows
    ∙ ap (λ (a : App). matches_of a (texts c.args.words.now)) is in
    let parsed = subst (λ (a : App). IsParsedBy a c.in_ok-matches.matches) is
    c.in_ok-matches.ensures.parsed in (
      settings_within (rows_of (found_of c.in_ok-matches.matches)) c.settings_of-settings.result
          (replay_settings c.in_ok-matches.matches parsed)
          c.settings_of-settings.ensures c.if-settings.false,
      subst (λ files. 0 < length files) (sym c.in_ok-files.ensures)
          (replay_some c.in_ok-matches.matches (texts c.args.words.now) parsed accepted rows),
    )
