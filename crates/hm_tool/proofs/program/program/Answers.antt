-- Why the program ends is what the replay told, or that the report could not be written out.
use Rattle.std.proofs.Common.{ap}
use Rattle.hm_tool.specs.Program.{asked_of}
use Rattle.hm_tool.proofs.Ends.{files-later, lines-later, plain-later, why-ended}
use Rattle.hm_tool.proofs.program.program.Goals as goal

pub returns-clause-why : goal.returns-clause-why
returns-clause-why g c =
    let replayed = c.replay_words-status.ensures in
    let ended = c.finish_report-status.ensures in
    let written = g.E.Sink.written in
    let faults = g.E.Sink.faults in
    why-ended _ _ _ _ _ _ _ _ _ _ _ _ _ _ _ _ _ c.finish.ensures.written c.finish.ensures.faults _ ended.same ended.write
    replayed.headline replayed.failures (λ e. (ap written (replayed.untold e), ap faults (replayed.untold e))) replayed.why
    (λ e. (ap written (ended.quiet e), ap faults (ended.quiet e))) ended.told

pub returns-clause-lines : goal.returns-clause-lines
returns-clause-lines g c =
    lines-later (asked_of c.args.words) _ _ _ _ _ _ c.finish_report-status.ensures.same
    c.finish_report-status.ensures.puts c.replay_words-status.ensures.lines

pub returns-clause-files : goal.returns-clause-files
returns-clause-files g c =
    files-later (asked_of c.args.words) _ _ c.finish_report-status.ensures.same c.replay_words-status.ensures.files

pub returns-clause-plain : goal.returns-clause-plain
returns-clause-plain g c = λ plain.
    plain-later _ _ c.finish_report-status.ensures.same c.finish_report-status.ensures.write
    (c.replay_words-status.ensures.plain plain)
