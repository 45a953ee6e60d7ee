-- The caller goes on from step to step.
use Rattle.std.proofs.Common.{rules, IfErr}
use Rattle.hm_desk.specs.Stalling.{IfFull, WasFull}
use Rattle.hm_desk.proofs.Quiet.{full_earlier_err, on_names, on_then}
use Rattle.hm_desk.proofs.Coming.{work_names}
use Rattle.hm_desk.proofs.desk.Desk.work_on.Goals as goal

pub returns-in_err-tell-clause-goes : goal.returns-in_err-tell-clause-goes
returns-in_err-tell-clause-goes g c = on_then _ _ _ c.apply.ensures.goes c.tell.ensures.goes

pub returns-in_err-tell-clause-full : goal.returns-in_err-tell-clause-full
returns-in_err-tell-clause-full g c =
    let then : IfErr c.from_residual-in_err-tell.result (λ halted. IfFull halted (WasFull (g.C.Caller.sight c.apply.new.c))) =
    search rules in
    full_earlier_err _ _ c.from_residual-in_err-tell.result c.apply.ensures.goes then

pub returns-clause-goes : goal.returns-clause-goes
returns-clause-goes g c =
    on_then _ _ _ (on_then _ _ _ c.apply.ensures.goes c.tell.ensures.goes) (on_names _ _ c.tend_after.ensures.same)

pub returns-clause-work : goal.returns-clause-work
returns-clause-work g c = work_names _ _ _ _ c.tell.ensures.work c.tend_after.ensures.same
