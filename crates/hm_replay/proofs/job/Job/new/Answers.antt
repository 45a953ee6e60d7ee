use Rattle.std.proofs.Common.{◌≡◌, [], ap, subst, sym}
use Rattle.hm_cellbook.specs.declared.usage.BookUsage.{BookUsage}
use Rattle.hm_desk.specs.declared.desk.Worked.TheVariants.{Memory}
use Rattle.hm_desk.specs.declared.progress.Progress.{Progress}
use Rattle.hm_desk.proofs.Fresh.{fresh_come}
use Rattle.hm_heap.specs.Mutators.{Mutating}
use Rattle.hm_heap.specs.Tending.{working_sight}
use Rattle.hm_replay.specs.Working.{IsAtWork, Working}
use Rattle.hm_replay.proofs.job.Job.new.Goals as goal

pub invariant_of-result : goal.invariant_of-result
invariant_of-result c =
    let ready = c.requires.ready in
    let none : Progress = record { next = 0; told = 0; done = []; resting = 0 } in
    let fresh : Working = record {
      pass = c.args.pass;
      orders = c.args.orders.now;
      came = record { progress = none; worked = Memory };
    } in
    let at_work : IsAtWork fresh = record {
      keeps = ready.keeps;
      own = ready.own;
      come = fresh_come (working_sight c.args.pass) c.args.orders.now ready.fresh ready.keeps.start;
      ended = tt;
      up = tt;
    } in
    let pass : c.args.pass ≡ c.new-2.result.pass = sym (ap (λ (m : Mutating BookUsage). m.pass) c.new-2.ensures) in
    let progress : none ≡ c.new.result = sym c.new.ensures in
    subst IsAtWork (λ i. record {
      pass = pass i;
      orders = c.args.orders.now;
      came = record { progress = progress i; worked = Memory };
    }) at_work
