-- A seat is what the list has there.
use Rattle.std.proofs.Common.{List, ap, ◌∙◌}
use Rattle.std.specs.Prelude.{slice_get}
use Rattle.hm_core.proofs.Words.{Moment, SeatState}
use Rattle.hm_core.proofs.Moments.{got}
use Rattle.hm_core.proofs.machine.Machine.seat.Goals as goal

pub returns-clause-seat : goal.returns-clause-seat
returns-clause-seat c =
    let look = c.get.ensures.lookup in
    got c.deref.result.now c.args.j c.get.result look.0 look.1
    ∙ ap (λ (l : List SeatState). slice_get l c.args.j) c.deref.ensures.value
    ∙ ap (λ (z : Moment). slice_get z.seats c.args.j) c.self.view_is
