use Rattle.hm_plain.specs.Calls.{entry_of}
use Rattle.hm_plain.proofs.diary.Diary.enter.Given as goal

abbrev pub ghosts-step : goal.ghosts-step
ghosts-step g a = record { entry = entry_of a._call.now }
