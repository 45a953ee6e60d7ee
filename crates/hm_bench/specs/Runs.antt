-- What a caller has made in a run: so many entries of one kind.
use Rattle.std.specs.Prelude.{◌≡◌, ℕ, List, ◌++◌, All, length}
use Rattle.hm_model.specs.declared.entry.Entry.{Entry}
use Rattle.hm_model.specs.declared.entry.Entry.TheVariants as entry
use Rattle.hm_model.specs.Sight.{Sight}
use Rattle.hm_bench.specs.declared.call.Call.{Call}
use Rattle.hm_bench.specs.declared.call.Call.TheVariants as call

-- an entry is of the kind that a call makes
abbrev pub IsOf : Call → Entry → Type 0
IsOf call.Create (entry.Create number name refs numbers) = Unit {0}
IsOf call.Fetch (entry.Fetch number name answer) = Unit {0}
IsOf call.Store (entry.Store number name field) = Unit {0}
IsOf call other = ⊥

module _ {U : Type 0} where
  -- a caller has made so many entries of a call's kind, and no other
  pub record Makes (call : Call) (n : ℕ) (c d : Sight U) : Type 0 where
    pub own : List Entry
    pub mine : d.mine ≡ c.mine ++ own
    pub count : length own ≡ n
    pub kind : All (IsOf call) own
