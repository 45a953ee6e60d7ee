use Rattle.hm_plain.proofs.ViewFacts.{adds_allowed}
use Rattle.hm_plain.proofs.diary.Diary.step.Goals as goal

pub load-requires : goal.load-requires
load-requires g c =
    let seat = c.self.inside.seat in (
      c.self.invariant.0,
      c.self.invariant.1,
      adds_allowed g.U.Usage.lawful g.U.Usage.allowed g.U.Usage.laws c.self.inside.table.shared.table_id.slots seat.id 0 seat.me.0 seat.me.1 g.J.Entering.entry c.requires.own
          (rw c.self.view_is c.requires.may),
    )
