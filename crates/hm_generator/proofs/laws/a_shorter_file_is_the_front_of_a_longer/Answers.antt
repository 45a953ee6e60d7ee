-- The orders are a function of the rows, one by one.
use Rattle.std.proofs.lemmas.List.FromFn.{take-map-range_with_len}
use Rattle.hm_generator.specs.Generated.{order_at}
use Rattle.hm_generator.proofs.laws.a_shorter_file_is_the_front_of_a_longer.Goals as goal

pub returns : goal.returns
returns c = record {
  front = λ number count shorter within.
      take-map-range_with_len (order_at number) 1 count shorter within;
}
