-- The caller goes on from store to store.
use Rattle.std.proofs.Common.{arith, inl, rules, refl, IfErr}
use Rattle.hm_desk.specs.Stalling.{IfFull, WasFull}
use Rattle.hm_desk.proofs.Quiet.{full_earlier_err, on_none, on_then}
use Rattle.hm_desk.proofs.telling.tell.Goals as goal

pub loop-c-init : goal.loop-c-init
loop-c-init g c =
    record { work = c.requires.work; board = c.requires.board; goes = on_none _; same = refl; tends = omega arith; tended = λ is. absurd (cc); moves = omega arith; start = inl refl }

pub returns-in-Ok-clause-goes : goal.returns-in-Ok-clause-goes
returns-in-Ok-clause-goes g c = on_then _ _ _ c.loop-c.invariant.goes c.store_owed.ensures.goes

pub returns-in_err-meet_full-in-Err-clause-full : goal.returns-in_err-meet_full-in-Err-clause-full
returns-in_err-meet_full-in-Err-clause-full g c =
    let then : IfErr c.from_residual.result (λ halted. IfFull halted (WasFull (g.C.Caller.sight c.store_owed.new.c))) =
    search rules in
    full_earlier_err _ _ c.from_residual.result
    (on_then _ _ _ c.loop-c.invariant.goes c.store_owed.ensures.goes) then
