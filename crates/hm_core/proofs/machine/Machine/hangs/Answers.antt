use Rattle.std.proofs.Common.{◌≡◌, Some, sym, ◌∙◌, subst, eqb}
use Rattle.hm_core.proofs.Words.{option_eq, Contents, IsBuilt, own_part}
use Rattle.hm_core.proofs.EntryTests.{link_fits, fits_link, word_told, not_false}
use Rattle.hm_core.proofs.machine.Machine.hangs.Goals as goal

pub returns-else-ne : goal.returns-else-ne
returns-else-ne c =
    let m = c.args.self.now in
    let p = own_part m c.args.caller in
    let link = word_told c.written.result 0 (not_false (option_eq eqb c.written.result (Some 0))
    (sym c.ne.ensures ∙ c.if-ne.false)) in
    let Built : Contents → Type 0 = λ x. IsBuilt p.hands.held p.draft.written x in (
      λ h. link_fits m c.args.caller c.in-Some.ensures.sound c.requires.awake c.args.v c.in-Some.at
          c.args.entry.now c.in-Some-turned.contents
          (sym c.in-Some.ensures.known) c.requires.look c.requires.room
          c.in-Some-turned.ensures.turned
          (sym c.written.ensures ∙ link) (c.is_built.ensures.built.0 h),
      λ f.
          let t = fits_link m c.args.caller c.args.v c.in-Some.at
          c.args.entry.now (sym c.in-Some.ensures.known) f in
          let same : c.in-Some-turned.contents ≡ t.0 =
          let both = c.in-Some-turned.ensures.only t.0 t.1 in cc in
          c.is_built.ensures.built.1 (subst Built (sym same) t.3),
    )

pub returns-in-None-turned : goal.returns-in-None-turned
returns-in-None-turned c =
    let m = c.args.self.now in (
      λ t. absurd (cc),
      λ f.
          let t = fits_link m c.args.caller c.args.v c.in-Some.at
          c.args.entry.now (sym c.in-Some.ensures.known) f in
          let both = c.in-None-turned.ensures.only t.0 t.1 in absurd (cc),
    )
