use Rattle.hm_scan.proofs.Going.{cursor_fits}
use Rattle.hm_scan.proofs.scanning.own_at_cursor.Goals as goal

pub overflow_cast-cursor : goal.overflow_cast-cursor
overflow_cast-cursor g c =
    cursor_fits g.U.Usage.lawful g.U.Usage.allowed c.args.pass.now c.requires c.cursor.result c.cursor.ensures
