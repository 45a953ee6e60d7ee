use Rattle.std.proofs.Common.{◌≡◌, sym, ◌∙◌, subst}
use Rattle.hm_core.proofs.Words.{Contents, Entry, IsBuilt, Fits, core_of, own_part}
use Rattle.hm_core.specs.declared.step.StepKind.TheVariants.{Publish}
use Rattle.hm_core.proofs.EntryTests.{create_fits, fits_create}
use Rattle.hm_core.proofs.machine.Machine.creates.Goals as goal

pub returns-else-not-are_there : goal.returns-else-not-are_there
returns-else-not-are_there c =
    let m = c.args.self.now in
    let p = own_part m c.args.caller in
    let name = c.is_same_name.ensures.0 c.if-not-is_same_name.false ∙ c.next_name.ensures in
    let own : c.in-Create.q ≡ c.args.caller = c.if-q-caller.false in
    let Built : Contents → Type 0 = λ x. IsBuilt p.hands.held p.draft.written x in
    let F : Entry → Type 0 = λ e. Fits (core_of m) p (Publish e) in (
      λ h. subst F (sym c.in-Create.is)
          (create_fits m c.args.caller c.in-Create.q
          c.in-Create.name c.in-Create.refs c.in-Create.numbers own c.requires.room name
          (c.are_there.ensures.0 c.if-not-are_there.false)
          (subst Built c.new_contents.ensures (c.is_built.ensures.built.0 h))),
      λ f.
          let t = fits_create m c.args.caller c.in-Create.q
          c.in-Create.name c.in-Create.refs c.in-Create.numbers (subst F c.in-Create.is f) in
          c.is_built.ensures.built.1 (subst Built (sym c.new_contents.ensures) t.3),
    )
