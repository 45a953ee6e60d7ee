use Rattle.std.proofs.Common.{◌≡◌, ◌∙◌, sym}
use Rattle.hm_scan.proofs.Ends.{ends_clean, went_well}
use Rattle.hm_scan.proofs.scanning.scan.Goals as goal

pub returns-clause-scans : goal.returns-clause-scans
returns-clause-scans g c =
    let done = c.replace_all.ensures in
    let well = sym c.is_err.ensures.value ∙ c.if-is_err.false in
    let lets = c.let_go.ensures in
    ends_clean g.U.Usage.lawful g.U.Usage.allowed c.args.pass.now c.begin.new.pass c.replace_all.new.pass
    c.let_go.new.pass c.end_scan.new.self c.begin.ensures.scans c.begin.ensures.way done.on
    (went_well c.replace_all.result well done.roots) (went_well c.replace_all.result well done.words) lets.on
    lets.roots lets.own lets.cursor lets.holds lets.keeps.sound c.end_scan.ensures
    c.room-room.result c.room.result c.room-room.ensures.room c.room.ensures.room
