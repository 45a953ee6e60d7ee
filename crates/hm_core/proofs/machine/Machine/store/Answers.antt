use Rattle.std.proofs.Common.{subst}
use Rattle.hm_core.proofs.Words.{Moment, any_store, any_entry, core_of, site_of, IsSafe}
use Rattle.hm_core.specs.Tables.{moment_of}
use Rattle.hm_moves.proofs.Safe.{safe_good}
use Rattle.hm_core.proofs.machine.Machine.store.Goals as goal

pub returns-clause-safe : goal.returns-clause-safe
returns-clause-safe c =
    let m = moment_of c.self.inside in
    subst (λ (x : Moment). IsSafe (site_of x) (core_of x)) c.self.view_is
    (safe_good any_store any_entry (site_of m) (core_of m) (c.self.invariant.sound.good tt))
