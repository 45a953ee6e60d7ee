use Rattle.std.proofs.Common.{Option, sym, subst}
use Rattle.hm_shape.specs.declared.version.Version.{Version}
use Rattle.hm_cells.specs.Calls.{wanted}
use Rattle.hm_cells.specs.Facts.{known_at}
use Rattle.hm_ops.specs.Walking.{Looks}
use Rattle.hm_ops.proofs.LinkSteps.{look_follows, looks_last, placed_look}
use Rattle.hm_ops.proofs.linking.look.Goals as goal

pub load_link-requires-clause-look : goal.load_link-requires-clause-look
load_link-requires-clause-look g c =
    placed_look g.U.Usage.lawful g.U.Usage.allowed c.args.cells.now c.args.pass.now c.args.at.0 c.args.v
    c.requires.keeps c.requires.place

pub returns-in_err-next : goal.returns-in_err-next
returns-in_err-next g c =
    let want = wanted c.args.pass.now (known_at c.args.pass.now c.args.v) c.args.want in
    subst (λ (o : Option Version). Looks g.U.Usage.lawful g.U.Usage.allowed c.args.cells.now
    c.args.pass.now c.args.at c.args.v want o c.load_link.new.pass)
    (sym c.from_residual.ensures)
    (looks_last g.U.Usage.lawful g.U.Usage.allowed c.args.cells.now c.args.pass.now c.load_link.new.pass
    c.args.at c.args.v c.requires.keeps c.requires.place c.load_link.ensures.sound want
    c.in_err-next.ensures.took)

pub settle-requires-clause-hand : goal.settle-requires-clause-hand
settle-requires-clause-hand g c =
    (look_follows g.U.Usage.lawful g.U.Usage.allowed c.args.cells.now c.args.pass.now c.load_link.new.pass
    c.args.at c.args.v c.requires.keeps c.requires.place c.load_link.ensures.sound _
    c.in_ok-next.next c.in_ok-next.ensures.took).hand

pub returns : goal.returns
returns g c =
    (look_follows g.U.Usage.lawful g.U.Usage.allowed c.args.cells.now c.args.pass.now c.load_link.new.pass
    c.args.at c.args.v c.requires.keeps c.requires.place c.load_link.ensures.sound _
    c.in_ok-next.next c.in_ok-next.ensures.took).then c.settle.new.pass c.settle.ensures
