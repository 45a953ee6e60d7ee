-- The board is named first, and then told.
use Rattle.hm_desk.proofs.Quiet.{full_earlier_err, on_then, quiet_on, stamp_goes}
use Rattle.hm_desk.proofs.Hindering.{settle_ok, settles_none}
use Rattle.std.proofs.Common.{inr}
use Rattle.hm_desk.proofs.Coming.{work_quietly}
use Rattle.hm_desk.proofs.telling.settle.Goals as goal

pub tell-requires-clause-work : goal.tell-requires-clause-work
tell-requires-clause-work g c = work_quietly _ _ _ _ c.requires.work c.fetch_board.ensures.quiet c.fetch_board.ensures.desk

pub returns-clause-goes : goal.returns-clause-goes
returns-clause-goes g c = on_then _ _ _ (quiet_on _ _ c.fetch_board.ensures.quiet) c.tell.ensures.goes

pub returns-clause-full : goal.returns-clause-full
returns-clause-full g c = full_earlier_err _ _ c.tell.result (quiet_on _ _ c.fetch_board.ensures.quiet) c.tell.ensures.full

pub returns-then-so_far-clause-settled : goal.returns-then-so_far-clause-settled
returns-then-so_far-clause-settled g c = inr (settles_none _)

pub returns-clause-settled : goal.returns-clause-settled
returns-clause-settled g c =
    let q = c.fetch_board.ensures.quiet in
    settle_ok _ _ _ _ _ c.tell.result c.fetch_board.ensures.entry c.tell.ensures.few
    (stamp_goes _ _ _ c.requires.work.desk c.fetch_board.ensures.desk q.goes)
    (stamp_goes _ _ _ c.fetch_board.ensures.desk c.tell.ensures.work.desk c.tell.ensures.goes.goes)
