use Rattle.std.proofs.Common.{refl}
use Rattle.hm_cells.specs.Grips.{tended}
use Rattle.hm_cells.proofs.Words.{keeps}
use Rattle.hm_cells.proofs.grip.Grip.tend.Goals as goal

pub load-requires : goal.load-requires
load-requires g c =
    let seat = c.self.inside.seat in (
      c.self.invariant.0,
      c.self.invariant.1,
      λ s holds homes at small. (tended seat.me.0, keeps, tt, tt, (refl, refl)),
    )
