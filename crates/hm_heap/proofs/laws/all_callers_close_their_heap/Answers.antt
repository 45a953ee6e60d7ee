use Rattle.hm_heap.proofs.Staying.{all_still}
use Rattle.hm_heap.proofs.laws.all_callers_close_their_heap.Goals as goal

pub returns : goal.returns
returns g c = λ m old new all same. all_still m old new all same
