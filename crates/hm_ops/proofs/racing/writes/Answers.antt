use Rattle.std.proofs.Common.{Option, Some, None, sym, subst}
use Rattle.hm_shape.specs.declared.version.Version.{Version}
use Rattle.hm_model.specs.declared.entry.Entry.{Entry}
use Rattle.hm_model.specs.declared.root.Root.{Root}
use Rattle.hm_model.specs.Effect.{with_field}
use Rattle.hm_model.specs.Store.{PlainStore}
use Rattle.hm_cells.specs.Calls.{IsWholeCopy}
use Rattle.hm_cells.specs.Facts.{Facts, Made}
use Rattle.hm_ops.specs.Resting.{Keeps}
use Rattle.hm_ops.specs.Walking.{Looks}
use Rattle.hm_ops.proofs.FieldStores.{field_same}
use Rattle.hm_ops.proofs.racing.writes.Goals as goal

-- whatever a look answers, its pass is at rest
looks_keep : {U : Type 0} (lawful : U → PlainStore → Type 0) (allowed : U → PlainStore → Entry → Type 0)
    (m : Made U) (s t : Facts U) (r : Root) (v : Version) (o : Option Version)
    → Looks lawful allowed m s r v None o t → Keeps lawful allowed t m
looks_keep lawful allowed m s t r v None h = h.keeps
looks_keep lawful allowed m s t r v (Some next) h = h.come.keeps

pub copy_changed-requires-clause-keeps : goal.copy_changed-requires-clause-keeps
copy_changed-requires-clause-keeps g c =
    looks_keep _ _ c.args.cells.now c.args.pass.now c.look.new.pass _ c.args.v c.look.result c.look.ensures

pub returns-clause-whole : goal.returns-clause-whole
returns-clause-whole g c =
    let k = c.copy_changed in
    let copies = k.ensures.copies in
    subst (IsWholeCopy k.new.pass.part)
    (λ i. with_field (field_same k.new.pass c.look.new.pass c.args.field (sym copies.same) i)
    (sym copies.known i).contents) copies.whole
