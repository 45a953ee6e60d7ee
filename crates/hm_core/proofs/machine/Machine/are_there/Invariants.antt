use Rattle.std.proofs.Common.{◌<◌, ℕ, get_or, Option, IfSome}
use Rattle.hm_core.proofs.Words.{Name, IsThere, store_of}
use Rattle.hm_core.proofs.machine.Machine.are_there.Given as goal

abbrev pub invariant-loop-name : goal.invariant-loop-name
invariant-loop-name l = (k : ℕ) (d : Option Name) → k < l.name-index
    → IfSome (get_or l.refs k d) (IsThere (store_of l.self.history))
