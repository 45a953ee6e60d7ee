use Rattle.hm_plain.proofs.ViewFacts.{tends_allowed}
use Rattle.hm_plain.proofs.diary.Diary.tend.Goals as goal

pub load-requires : goal.load-requires
load-requires g c =
    let seat = c.self.inside.seat in (
      c.self.invariant.0,
      c.self.invariant.1,
      tends_allowed g.U.Usage.lawful g.U.Usage.allowed c.self.inside.table.shared.table_id.slots seat.id 0 seat.me.0 seat.me.1,
    )
