-- The caller sits down at its desk, works, and gets up.
use Rattle.hm_desk.proofs.Quiet.{quiet_on, quiet_rests}
use Rattle.hm_desk.proofs.Hindering.{hindered_goes}
use Rattle.hm_desk.proofs.Beginning.{work_begins}
use Rattle.hm_desk.proofs.desk.Desk.work.Goals as goal

pub work_through-ended-requires : goal.work_through-ended-requires
work_through-ended-requires g c = record {
  work = work_begins c.args.self.now _ _ _ c.requires.keeps c.requires.orders c.requires.come;
  limits = c.requires.keeps.limits_are;
}

pub returns-in-Err-Full-clause-hindered : goal.returns-in-Err-Full-clause-hindered
returns-in-Err-Full-clause-hindered g c is =
    let inner = rw c.in-Err-Full.is at c.in-Err-Full.field-0-is in
    let h = rw (c.in-Err-Full.is, inner) at c.work_through-ended.ensures.hindered in
    hindered_goes _ _ _ _ _ _ (h is) (quiet_on _ _ (quiet_rests _ _ c.clear_places.ensures.rests))
