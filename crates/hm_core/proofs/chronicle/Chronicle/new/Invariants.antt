-- No maker has a place so far.
use Rattle.std.proofs.Common.{◌≡◌, [], map, replicate}
use Rattle.hm_core.proofs.chronicle.Chronicle.new.Given as goal

abbrev pub invariant-loop : goal.invariant-loop
invariant-loop l = map (λ places. places.items) l.places.items ≡ replicate l.counter []
