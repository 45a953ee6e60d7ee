use Rattle.hm_plain.proofs.ViewFacts.{opening_kept}
use Rattle.hm_plain.proofs.diary.Diary.open.Goals as goal

pub of_words-requires : goal.of_words-requires
of_words-requires g c = opening_kept g.U.Usage.lawful g.U.Usage.allowed c.args.usage c.args.start c.args.versions c.requires.sized c.requires.lawful
