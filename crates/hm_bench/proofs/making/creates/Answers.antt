use Rattle.hm_bench.proofs.Counting.{created_more}
use Rattle.hm_bench.proofs.making.creates.Goals as goal

pub loop-i-preserved : goal.loop-i-preserved
loop-i-preserved c = record {
  rests = c.create.ensures.keeps.resting;
  made = created_more c.loop-i.invariant.made c.in-Ok.ensures.created;
}
