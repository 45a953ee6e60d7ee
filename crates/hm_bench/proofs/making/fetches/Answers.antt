use Rattle.std.proofs.Common.{arith}
use Rattle.hm_cells.specs.Facts.{sight_of}
use Rattle.hm_bench.proofs.Counting.{fetched_more, stays_set}
use Rattle.hm_bench.proofs.making.fetches.Goals as goal

pub loop-preserved : goal.loop-preserved
loop-preserved c =
    let before = sight_of c.loop.pass in
    let after = sight_of c.fetch.new.pass in
    let h = c.fetch.ensures.fetched in
    record {
      rests = c.fetch.ensures.keeps.resting;
      set = stays_set before after record { 0 = 0 } (h.roots.below 0 (omega arith)) c.loop.invariant.set;
      made = fetched_more c.loop.invariant.made h;
    }
