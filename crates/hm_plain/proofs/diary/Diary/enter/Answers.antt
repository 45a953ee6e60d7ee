use Rattle.hm_plain.proofs.ViewFacts.{caller_of-entry_of}
use Rattle.hm_plain.proofs.diary.Diary.enter.Goals as goal

pub step-requires-clause-own : goal.step-requires-clause-own
step-requires-clause-own g c = caller_of-entry_of c.args.call.now
