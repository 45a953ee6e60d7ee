use Rattle.std.proofs.Common.{◌≡◌, take}
use Rattle.hm_core.proofs.Words.{Leads, Plays, any_store, any_entry, core_of, site_of}
use Rattle.hm_core.proofs.machine.Machine.play.Given as goal

abbrev pub invariant-loop-step : goal.invariant-loop-step
invariant-loop-step l = record {
  played : Plays l.initial.self (take l.step-index l.steps) l.self;
  led : Leads any_store any_entry (core_of l.initial.self) (core_of l.self);
  site : site_of l.self ≡ site_of l.initial.self;
}
