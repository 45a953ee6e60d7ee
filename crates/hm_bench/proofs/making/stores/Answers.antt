use Rattle.std.proofs.Common.{ap}
use Rattle.hm_model.specs.Sight.{name_at}
use Rattle.hm_cells.specs.Facts.{sight_of}
use Rattle.hm_bench.proofs.Counting.{stays_set, stored_more}
use Rattle.hm_bench.proofs.making.stores.Goals as goal

pub loop-i-preserved : goal.loop-i-preserved
loop-i-preserved c =
    let before = sight_of c.loop-i.pass in
    let after = sight_of c.store_number.new.pass in
    let h = c.in-Ok.ensures.stored in
    record {
      rests = c.store_number.ensures.keeps.resting;
      set = stays_set before after record { 0 = 0 } (ap (λ names. name_at names 0) h.roots)
          c.loop-i.invariant.set;
      made = stored_more c.loop-i.invariant.made h;
    }
