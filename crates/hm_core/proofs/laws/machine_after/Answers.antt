use Rattle.std.proofs.lemmas.Result.{on_err_weaker, on_ok_weaker}
use Rattle.hm_core.proofs.laws.machine_after.Goals as goal

pub returns-clause-played : goal.returns-clause-played
returns-clause-played c =
    on_ok_weaker c.apply_all-played.result (λ plays. record {
      first = c.in_ok-machine.machine;
      fresh = c.in_ok-machine.ensures.fresh;
      site = c.apply_all-played.ensures.site;
      plays = plays;
    }) c.apply_all-played.ensures.played

pub returns-clause-memory : goal.returns-clause-memory
returns-clause-memory c =
    on_err_weaker c.apply_all-played.result (λ stops. record {
      first = c.in_ok-machine.machine;
      fresh = c.in_ok-machine.ensures.fresh;
      site = c.apply_all-played.ensures.site;
      stops = stops;
    }) c.apply_all-played.ensures.memory
