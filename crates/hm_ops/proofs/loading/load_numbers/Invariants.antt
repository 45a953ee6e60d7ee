use Rattle.std.proofs.Common.{◌≡◌, ◌<◌, ℕ, length, slice_index}
use Rattle.hm_ops.specs.Resting.{Works}
use Rattle.hm_ops.specs.Walking.{Loads, contents_at}
use Rattle.hm_ops.proofs.loading.load_numbers.Given as goal

abbrev pub invariant-loop-i : goal.invariant-loop-i
invariant-loop-i g l = record {
  loads : Loads l.fn.pass l.v l.scan l.pass;
  hand : l.pass.hand ≡ l.fn.pass.hand;
  works : Works g.U.Usage.lawful g.U.Usage.allowed l.pass l.cells;
  ten : length l.numbers ≡ 10;
  numbers : (j : ℕ) → j < l.i → slice_index l.numbers j ≡ slice_index (contents_at l.fn.pass l.v).numbers j;
}
