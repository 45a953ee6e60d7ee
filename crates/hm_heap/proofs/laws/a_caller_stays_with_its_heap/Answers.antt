use Rattle.hm_heap.proofs.Staying.{fits_still}
use Rattle.hm_heap.proofs.laws.a_caller_stays_with_its_heap.Goals as goal

pub returns-clause-fits : goal.returns-clause-fits
returns-clause-fits g c = λ m s t same fits. fits_still s t same m fits
