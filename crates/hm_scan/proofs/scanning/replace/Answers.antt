use Rattle.std.proofs.Common.{◌≡◌, ◌≢◌, ◌∷◌, [], ◌∙◌, ⊎_elim, None, Some, subst, sym, ap, List}
use Rattle.hm_shape.specs.declared.version.Version.{Version}
use Rattle.hm_cells.specs.Facts.{Facts, with_hand}
use Rattle.hm_ops.specs.declared.bringing.Copied.{Copied}
use Rattle.hm_ops.specs.declared.bringing.Copied.TheVariants.{Already, Moved, NoRoom}
use Rattle.hm_ops.specs.Resting.{Keeps}
use Rattle.hm_scan.specs.Scanning.{IsFullAt, IsPassed, ScansOn}
use Rattle.hm_ops.proofs.Settled.{alone_in_hand, alone_left}
use Rattle.hm_scan.proofs.Replaces.{IsReplaced, MayReplace, brought_hand, emptied_brought, emptied_keeps, found_in, full_replace, last_full, may_replace, replaced, was_room}
use Rattle.hm_scan.proofs.scanning.replace.Given.{Over}
use Rattle.hm_scan.proofs.scanning.replace.Goals as goal

pub bring_out-brought-requires-clause-kept : goal.bring_out-brought-requires-clause-kept
bring_out-brought-requires-clause-kept g c = found_in c.args.pass.now c.args.found c.requires.hand

pub release-requires : goal.release-requires
release-requires g c =
    let left =
    brought_hand g.U.Usage.lawful g.U.Usage.allowed c.args.cells.now c.args.pass.now c.bring_out-brought.new.pass
    c.args.own c.args.found c.args.i c.bring_out-brought.result c.bring_out-brought.ensures.brings
    c.bring_out-brought.ensures.works c.requires.way c.requires.hand c.requires.stops c.requires.at c.requires.word
    None c.in_default.is in
    (alone_in_hand g.U.Usage.lawful g.U.Usage.allowed c.args.cells.now c.bring_out-brought.new.pass c.args.found
    c.bring_out-brought.ensures.works.sound left).1

-- and that is released
gone : (g : Over) → (c : goal.After-release g)
    → c.release.new.self ≡ with_hand c.bring_out-brought.new.pass []
gone g c =
    let hand =
    brought_hand g.U.Usage.lawful g.U.Usage.allowed c.args.cells.now c.args.pass.now c.bring_out-brought.new.pass
    c.args.own c.args.found c.args.i c.bring_out-brought.result c.bring_out-brought.ensures.brings
    c.bring_out-brought.ensures.works c.requires.way c.requires.hand c.requires.stops c.requires.at c.requires.word
    None c.in_default.is in
    c.release.ensures
    ∙ ap (with_hand c.bring_out-brought.new.pass) (alone_left c.args.found c.bring_out-brought.new.pass.hand hand)

pub returns-in_default-clause-on : goal.returns-in_default-clause-on
returns-in_default-clause-on g c =
    subst (ScansOn c.args.pass.now) (sym (gone g c))
    (emptied_brought g.U.Usage.lawful g.U.Usage.allowed c.args.cells.now c.args.pass.now c.bring_out-brought.new.pass
    c.args.own c.args.found c.args.i c.bring_out-brought.result c.bring_out-brought.ensures.brings
    c.bring_out-brought.ensures.works c.requires.way c.requires.hand c.requires.stops c.requires.at c.requires.word)

pub returns-in_default-clause-full : goal.returns-in_default-clause-full
returns-in_default-clause-full g c =
    subst IsFullAt (sym (gone g c))
    (full_replace g.U.Usage.lawful g.U.Usage.allowed c.args.cells.now c.args.pass.now c.bring_out-brought.new.pass
    c.args.own c.args.found c.args.i c.bring_out-brought.result c.bring_out-brought.ensures.brings
    c.bring_out-brought.ensures.works c.requires.way c.requires.hand c.requires.stops c.requires.at c.requires.word
    (last_full g.U.Usage.lawful g.U.Usage.allowed c.args.cells.now c.args.pass.now c.bring_out-brought.new.pass
    c.args.own c.args.found c.args.i c.bring_out-brought.result c.bring_out-brought.ensures.brings
    c.bring_out-brought.ensures.works c.requires.way c.requires.hand c.requires.stops c.requires.at c.requires.word
    c.requires.from c.in_default.is))

pub returns-in_default-clause-keeps : goal.returns-in_default-clause-keeps
returns-in_default-clause-keeps g c =
    subst (λ (f : Facts g.row.U.Denot). Keeps g.U.Usage.lawful g.U.Usage.allowed f c.args.cells.now)
    (sym (gone g c))
    (emptied_keeps g.U.Usage.lawful g.U.Usage.allowed c.args.cells.now c.bring_out-brought.new.pass
    c.bring_out-brought.ensures.works)

pub shorten-requires : goal.shorten-requires
shorten-requires g c =
    let may = may_replace g.U.Usage.lawful g.U.Usage.allowed c.args.cells.now c.args.pass.now c.bring_out-brought.new.pass
    c.args.own c.args.found c.args.i c.bring_out-brought.result c.bring_out-brought.ensures.brings
    c.bring_out-brought.ensures.works c.requires.way c.requires.hand c.requires.stops c.requires.at c.requires.word
    c.in-Some.current c.in-Some.is (was_room c.bring_out-brought.result.copied c.in-Already.is) in
    record {
      cells = may.cells;
      own = may.mine;
      word = may.naming;
      held = may.held;
      known = may.known;
      past = may.past;
    }

pub returns-in-NoRoom-clause-full : goal.returns-in-NoRoom-clause-full
returns-in-NoRoom-clause-full g c =
    subst IsFullAt (sym c.release_both.ensures)
    (full_replace g.U.Usage.lawful g.U.Usage.allowed c.args.cells.now c.args.pass.now c.bring_out-brought.new.pass
    c.args.own c.args.found c.args.i c.bring_out-brought.result c.bring_out-brought.ensures.brings
    c.bring_out-brought.ensures.works c.requires.way c.requires.hand c.requires.stops c.requires.at c.requires.word
    c.in-NoRoom.is)

pub returns-in-NoRoom-clause-keeps : goal.returns-in-NoRoom-clause-keeps
returns-in-NoRoom-clause-keeps g c =
    subst (λ (f : Facts g.row.U.Denot). Keeps g.U.Usage.lawful g.U.Usage.allowed f c.args.cells.now)
    (sym c.release_both.ensures)
    (emptied_keeps g.U.Usage.lawful g.U.Usage.allowed c.args.cells.now c.bring_out-brought.new.pass
    c.bring_out-brought.ensures.works)

pub returns-in-Already : goal.returns-in-Already
returns-in-Already g c =
    let done = replaced g.U.Usage.lawful g.U.Usage.allowed c.args.cells.now c.args.pass.now c.bring_out-brought.new.pass
    c.args.own c.args.found c.args.i c.bring_out-brought.result c.bring_out-brought.ensures.brings
    c.bring_out-brought.ensures.works c.requires.way c.requires.hand c.requires.stops c.requires.at c.requires.word
    c.in-Some.current c.in-Some.is (was_room c.bring_out-brought.result.copied c.in-Already.is) c.shorten.new.pass
    c.shorten.ensures.sound c.shorten.ensures.took in
    let is = sym c.release_both-in-Already.ensures in
    record {
      on = subst (ScansOn c.args.pass.now) is done.on;
      roots = ap (λ (f : Facts g.row.U.Denot). f.roots) c.release_both-in-Already.ensures ∙ done.roots;
      passed = subst (IsPassed c.args.pass.now) is done.passed;
      full = tt;
      keeps = subst (λ (f : Facts g.row.U.Denot). Keeps g.U.Usage.lawful g.U.Usage.allowed f c.args.cells.now) is
          done.keeps;
    }
