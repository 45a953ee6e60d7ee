-- The refusal says why there is no report.
use Rattle.std.proofs.Common.{◌∙◌, Result, IfErr, ap, subst}
use Rattle.hm_words.specs.Asked.{asked, texts}
use Rattle.hm_replay.specs.declared.refusal.Refused.{Refused}
use Rattle.hm_replay.specs.Outcomes.{IsWhy, names_lost}
use Rattle.hm_replay.specs.Refusals.{unread_of}
use Rattle.hm_replay.proofs.Outcomes.{failed_same}
use Rattle.hm_replay.proofs.Told.{closed_late, plain_taken, too_many, words_two}
use Rattle.hm_replay.proofs.outcome.run.Goals as goal

pub returns-clause-failures : goal.returns-clause-failures
returns-clause-failures g c other =
    failed_same c.in-Err.refused _ _ _ (λ e. other (c.status.ensures ∙ e))
    (c.replay_words-closed.ensures.failures
    ∙ ap (λ (r : Result (Unit {0}) Refused). names_lost (unread_of r) (asked (texts c.args.words.now))
    (g.S.Shelf.failed c.args.shelf.now)) c.in-Err.is)

pub returns-clause-why : goal.returns-clause-why
returns-clause-why g c some = record {
  refused = c.in-Err.refused;
  has_status = c.status.ensures;
  cause = subst (λ (r : Result (Unit {0}) Refused). IfErr r (IsWhy (g.S.Shelf.told c.args.shelf.now)
      (asked (texts c.args.words.now)) c.replay_words-closed.result.closed c.replay_words-closed.result.full))
      c.in-Err.is c.replay_words-closed.ensures.why;
  failures = c.replay_words-closed.ensures.failures
      ∙ ap (λ (r : Result (Unit {0}) Refused). names_lost (unread_of r) (asked (texts c.args.words.now))
      (g.S.Shelf.failed c.args.shelf.now)) c.in-Err.is;
  line = c.tell.ensures.line;
}

pub returns-clause-closed : goal.returns-clause-closed
returns-clause-closed g c =
    closed_late _ _ c.in-Err.refused _ c.in-Err.is c.status.ensures c.replay_words-closed.ensures.closed

pub returns-clause-files : goal.returns-clause-files
returns-clause-files g c =
    too_many (asked (texts c.args.words.now)) _ c.in-Err.refused _ c.in-Err.is c.status.ensures
    c.replay_words-closed.ensures.files

pub returns-clause-plain : goal.returns-clause-plain
returns-clause-plain g c = λ plain.
    plain_taken (texts c.args.words.now) _
    (λ is. c.replay_words-closed.ensures.words (words_two c.in-Err.refused _ _ c.in-Err.is c.status.ensures is)) plain
