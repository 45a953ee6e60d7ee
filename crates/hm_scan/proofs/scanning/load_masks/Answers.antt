use Rattle.std.proofs.Common.{◌≡◌, ◌<◌, ◌∙◌, arith, ap, sym, length}
use Rattle.hm_shape.specs.declared.shape.Shape.{Shape}
use Rattle.hm_scan.proofs.Going.{scanning_kept, scans_then}
use Rattle.hm_scan.proofs.Steps.{keeps_step, mild_roles, scans_step}
use Rattle.hm_scan.proofs.Masks.{mask_more, mark_less, way_masks}
use Rattle.hm_scan.proofs.scanning.load_masks.Goals as goal

pub loop-p-preserved : goal.loop-p-preserved
loop-p-preserved g c =
    let lawful = g.U.Usage.lawful in
    let allowed = g.U.Usage.allowed in
    let s = c.loop-p.pass in
    let t = c.load_roles.new.pass in
    let took = c.load_roles.ensures.took in
    let inv = c.loop-p.invariant in
    let mild = mild_roles s.part _ c.loop-p.p in
    let scanning = scanning_kept c.args.pass.now s inv.scans ∙ c.requires.first in
    let callers : c.shape-p-end.result.callers ≡ s.part.site.shape.callers =
    ap (λ (x : Shape). x.callers) c.shape-p-end.ensures
    ∙ sym (λ i. (inv.keeps.resting.fits.site i).shape.callers) in
    let wide : c.loop-p.p < length s.part.cycle.scan.masks =
    let masks = inv.keeps.sound.sure.masks in omega (arith, masks, callers) in
    record {
      scans = scans_then c.args.pass.now s inv.scans t (scans_step lawful allowed s t _ _ _ took mild);
      masks = mask_more lawful allowed s t c.loop-p.p _ took scanning wide inv.masks;
      unmarked = mark_less lawful allowed s t c.loop-p.p _ took scanning inv.unmarked;
      keeps = keeps_step lawful allowed s t _ _ _ took mild took.what.0 c.args.cells.now inv.keeps
          c.load_roles.ensures.sound;
    }

pub returns-clause-way : goal.returns-clause-way
returns-clause-way g c =
    let inv = c.loop-p.invariant in
    let callers : c.shape-p-end.result.callers ≡ c.loop-p.pass.part.site.shape.callers =
    ap (λ (x : Shape). x.callers) c.shape-p-end.ensures
    ∙ sym (λ i. (inv.keeps.resting.fits.site i).shape.callers) in
    let all : c.loop-p.p ≡ c.loop-p.pass.part.site.shape.callers = omega (arith, callers) in
    way_masks g.U.Usage.lawful g.U.Usage.allowed c.args.pass.now c.loop-p.pass inv.scans c.requires.first
    inv.keeps.sound c.loop-p.p all inv.masks inv.unmarked
