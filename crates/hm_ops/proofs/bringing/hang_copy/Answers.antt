use Rattle.hm_ops.proofs.FieldLoads.{kept_look}
use Rattle.hm_ops.proofs.SearchSteps.{goes_works, hang_ends, hang_goes, kept2, made_works, room2, whole2}
use Rattle.hm_ops.proofs.bringing.hang_copy.Goals as goal

pub link_copy-requires-clause-look : goal.link_copy-requires-clause-look
link_copy-requires-clause-look g c =
    kept_look g.U.Usage.lawful g.U.Usage.allowed c.args.cells.now c.copy_same.new.pass c.args.v
    c.copy_same.ensures.works.sound (kept2 g.U.Usage.lawful g.U.Usage.allowed c.args.cells.now c.args.pass.now c.make_place.new.pass
    c.copy_same.new.pass c.copy_same.new.pass c.args.v c.args.scan c.requires.works c.requires.kept c.requires.from c.requires.end
    c.make_place.ensures.makes c.make_place.ensures.works c.copy_same.ensures.copies
    c.copy_same.ensures.works
    c.args.v c.requires.kept)

pub link_copy-requires-clause-whole : goal.link_copy-requires-clause-whole
link_copy-requires-clause-whole g c =
    whole2 g.U.Usage.lawful g.U.Usage.allowed c.args.cells.now c.args.pass.now c.make_place.new.pass
    c.copy_same.new.pass c.copy_same.new.pass c.args.v c.args.scan c.requires.works c.requires.kept c.requires.from c.requires.end
    c.make_place.ensures.makes c.make_place.ensures.works c.copy_same.ensures.copies
    c.copy_same.ensures.works

pub returns-in-Ok-clause-searches : goal.returns-in-Ok-clause-searches
returns-in-Ok-clause-searches g c =
    hang_ends g.U.Usage.lawful g.U.Usage.allowed c.args.cells.now c.args.pass.now c.make_place.new.pass
    c.copy_same.new.pass c.link_copy.new.pass c.args.v c.args.scan c.requires.works c.requires.kept c.requires.from c.requires.end
    c.make_place.ensures.makes c.make_place.ensures.works c.copy_same.ensures.copies
    c.copy_same.ensures.works
    c.in-Ok.made c.in-Ok.ensures.version
    (room2 g.U.Usage.lawful g.U.Usage.allowed c.args.cells.now c.args.pass.now c.make_place.new.pass
    c.copy_same.new.pass c.copy_same.new.pass c.args.v c.args.scan c.requires.works c.requires.kept c.requires.from c.requires.end
    c.make_place.ensures.makes c.make_place.ensures.works c.copy_same.ensures.copies
    c.copy_same.ensures.works
    c.make_place.ensures.room) c.in-Ok.ensures.sound c.in-Ok.ensures.took

pub returns-in-Ok-clause-works : goal.returns-in-Ok-clause-works
returns-in-Ok-clause-works g c =
    made_works g.U.Usage.lawful g.U.Usage.allowed c.args.cells.now c.args.pass.now c.make_place.new.pass
    c.copy_same.new.pass c.link_copy.new.pass c.args.v c.args.scan c.requires.works c.requires.kept c.requires.from c.requires.end
    c.make_place.ensures.makes c.make_place.ensures.works c.copy_same.ensures.copies
    c.copy_same.ensures.works
    c.in-Ok.made c.in-Ok.ensures.version
    (room2 g.U.Usage.lawful g.U.Usage.allowed c.args.cells.now c.args.pass.now c.make_place.new.pass
    c.copy_same.new.pass c.copy_same.new.pass c.args.v c.args.scan c.requires.works c.requires.kept c.requires.from c.requires.end
    c.make_place.ensures.makes c.make_place.ensures.works c.copy_same.ensures.copies
    c.copy_same.ensures.works
    c.make_place.ensures.room) c.in-Ok.ensures.sound c.in-Ok.ensures.took c.requires.hand

pub returns-in-Err-clause-searches : goal.returns-in-Err-clause-searches
returns-in-Err-clause-searches g c =
    hang_goes g.U.Usage.lawful g.U.Usage.allowed c.args.cells.now c.args.pass.now c.make_place.new.pass
    c.copy_same.new.pass c.link_copy.new.pass c.args.v c.args.scan c.requires.works c.requires.kept c.requires.from c.requires.end
    c.make_place.ensures.makes c.make_place.ensures.works c.copy_same.ensures.copies
    c.copy_same.ensures.works
    c.in-Err.next c.in-Err.ensures.sound c.in-Err.ensures.took

pub returns-in-Err-clause-works : goal.returns-in-Err-clause-works
returns-in-Err-clause-works g c =
    goes_works g.U.Usage.lawful g.U.Usage.allowed c.args.cells.now c.args.pass.now c.make_place.new.pass
    c.copy_same.new.pass c.link_copy.new.pass c.args.v c.args.scan c.requires.works c.requires.kept c.requires.from c.requires.end
    c.make_place.ensures.makes c.make_place.ensures.works c.copy_same.ensures.copies
    c.copy_same.ensures.works
    c.in-Err.next c.in-Err.ensures.sound c.in-Err.ensures.took c.requires.hand
