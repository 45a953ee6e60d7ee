-- What the search has found stands at the root place.
use Rattle.std.proofs.Common.{◌≡◌, ◌∙◌, Some, None, Option, false, subst, sym}
use Rattle.hm_shape.specs.declared.version.Version.{Version}
use Rattle.hm_ops.specs.Resting.{IsAtPlace}
use Rattle.hm_ops.specs.Bringing.{Brings}
use Rattle.hm_ops.specs.declared.bringing.Brought.{Brought}
use Rattle.hm_ops.proofs.OutCopies.{later_in_hand, out_at_first, out_at_later, rests_at_later}
use Rattle.hm_ops.proofs.bringing.copy_out.Goals as goal

pub settle-requires-clause-hand : goal.settle-requires-clause-hand
settle-requires-clause-hand g c =
    let b = c.bring_out-brought in
    let v = c.unwrap-v.result in
    let at : IsAtPlace c.args.pass.now c.args.r.0 v = sym c.root.ensures.place ∙ c.unwrap-v.ensures in
    later_in_hand g.U.Usage.lawful g.U.Usage.allowed c.args.cells.now c.args.pass.now b.new.pass c.args.r v
    b.result.copied record { resting = c.requires.rests; sound = c.root.ensures.sound } at c.in-Some.later
    (subst (λ (o : Option Version). Brings c.args.pass.now v false record { copied = b.result.copied; later = o } b.new.pass)
    c.in-Some.is b.ensures.brings) b.ensures.works

pub returns-in-Some-clause-copies : goal.returns-in-Some-clause-copies
returns-in-Some-clause-copies g c =
    let b = c.bring_out-brought in
    let v = c.unwrap-v.result in
    let at : IsAtPlace c.args.pass.now c.args.r.0 v = sym c.root.ensures.place ∙ c.unwrap-v.ensures in
    out_at_later g.U.Usage.lawful g.U.Usage.allowed c.args.cells.now c.args.pass.now b.new.pass c.args.r v
    b.result.copied record { resting = c.requires.rests; sound = c.root.ensures.sound } at c.in-Some.later
    (subst (λ (o : Option Version). Brings c.args.pass.now v false record { copied = b.result.copied; later = o } b.new.pass)
    c.in-Some.is b.ensures.brings) b.ensures.works c.settle.new.pass c.settle.ensures

pub returns-in-Some-clause-keeps : goal.returns-in-Some-clause-keeps
returns-in-Some-clause-keeps g c =
    let b = c.bring_out-brought in
    let v = c.unwrap-v.result in
    let at : IsAtPlace c.args.pass.now c.args.r.0 v = sym c.root.ensures.place ∙ c.unwrap-v.ensures in
    rests_at_later g.U.Usage.lawful g.U.Usage.allowed c.args.cells.now c.args.pass.now b.new.pass c.args.r v
    b.result.copied record { resting = c.requires.rests; sound = c.root.ensures.sound } at c.in-Some.later
    (subst (λ (o : Option Version). Brings c.args.pass.now v false record { copied = b.result.copied; later = o } b.new.pass)
    c.in-Some.is b.ensures.brings) b.ensures.works c.settle.new.pass c.settle.ensures

pub returns-in_default-clause-copies : goal.returns-in_default-clause-copies
returns-in_default-clause-copies g c =
    let b = c.bring_out-brought in
    let v = c.unwrap-v.result in
    let at : IsAtPlace c.args.pass.now c.args.r.0 v = sym c.root.ensures.place ∙ c.unwrap-v.ensures in
    out_at_first g.U.Usage.lawful g.U.Usage.allowed c.args.cells.now c.args.pass.now b.new.pass c.args.r v
    b.result.copied record { resting = c.requires.rests; sound = c.root.ensures.sound } at
    (subst (λ (o : Option Version). Brings c.args.pass.now v false record { copied = b.result.copied; later = o } b.new.pass)
    c.in_default.is b.ensures.brings)
