use Rattle.std.proofs.Common.{refl}
use Rattle.hm_cells.proofs.Words.{keeps, handing}
use Rattle.hm_cells.proofs.grip.Grip.step.Goals as goal

pub load-requires : goal.load-requires
load-requires g c =
    let seat = c.self.inside.seat in (
      c.self.invariant.0,
      c.self.invariant.1,
      λ s holds homes at small. (handing seat.me.0 g.J.Handing.picked, keeps, tt, tt, (refl, refl)),
    )
