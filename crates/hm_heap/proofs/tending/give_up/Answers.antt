use Rattle.hm_heap.proofs.Going.{join_goes, still_keeps}
use Rattle.hm_heap.proofs.Joining.{join_open, may_join, two_joined}
use Rattle.hm_heap.proofs.tending.give_up.Goals as goal

pub join-requires-clause-may : goal.join-requires-clause-may
join-requires-clause-may g c =
    may_join g.U.Usage.lawful g.U.Usage.allowed c.args.pass.now c.a_pass_is_sound.ensures c.requires.act

pub returns-clause-goes : goal.returns-clause-goes
returns-clause-goes g c =
    let L = g.U.Usage.lawful in
    let A = g.U.Usage.allowed in
    let s = c.args.pass.now in
    let ends = c.join.ensures in
    join_goes L A c.args.cells.now s c.join.new.pass c.requires.keeps
    (join_open L A s c.a_pass_is_sound.ensures c.requires.act) ends.joins ends.stays
    (still_keeps L A c.args.cells.now s c.join.new.pass c.requires.keeps ends.stays
    (ends.rest c.requires.keeps.resting.rest (two_joined L A s c.a_pass_is_sound.ensures c.requires.act)) ends.sound)
