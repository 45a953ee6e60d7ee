use Rattle.hm_core.proofs.Moments.{word_past}
use Rattle.hm_core.proofs.machine.Machine.word.Goals as goal

pub returns-clause-past : goal.returns-clause-past
returns-clause-past c =
    word_past c.args.self.now c.word_at.ensures.sound c.args.i c.word_at.result
    c.word_at.ensures.word
