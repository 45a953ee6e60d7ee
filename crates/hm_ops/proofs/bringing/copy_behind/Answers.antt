-- Without all masks, or at a version that is not of from-space, nothing is copied.
use Rattle.std.proofs.Common.{◌∙◌, inl, sym}
use Rattle.hm_ops.proofs.SearchSteps.{kept_version}
use Rattle.hm_ops.proofs.OutCopies.{behind_out, behind_same}
use Rattle.hm_ops.proofs.bringing.copy_behind.Goals as goal

pub known_from-requires : goal.known_from-requires
known_from-requires g c =
    kept_version g.U.Usage.lawful g.U.Usage.allowed c.args.cells.now c.args.pass.now c.args.v
    c.requires.keeps.sound (inl (c.args.r.0, c.requires.place))

pub returns-else-has_masks-clause-copies : goal.returns-else-has_masks-clause-copies
returns-else-has_masks-clause-copies g c = behind_same c.args.pass.now

pub returns-then-known_from-clause-copies : goal.returns-then-known_from-clause-copies
returns-then-known_from-clause-copies g c =
    behind_out c.args.pass.now c.copy_out.new.pass c.args.r c.args.v c.copy_out.result
    (sym c.has_masks.ensures ∙ c.if-has_masks.true) c.requires.place c.copy_out.ensures.copies
