use Rattle.std.proofs.Common.{◌≡◌, ◌++◌, ℕ, List, length, drop, map, take, sym, ap, ◌∙◌, subst}
use Rattle.std.proofs.Math.Seq.{take-append_seam}
use Rattle.hm_model.specs.declared.usage.AnyUsage.{AnyUsage}
use Rattle.hm_cells.specs.Closing.{AreAll}
use Rattle.hm_cells.specs.Facts.{Facts}
use Rattle.hm_heap.specs.Mutators.{Mutating}
use Rattle.hm_heap.proofs.Staying.{all_still}
use Rattle.hm_heap.proofs.tests.two_callers_work_side_by_side_and_close_their_heap.Goals as goal

pub close-closed-requires : goal.close-closed-requires
close-closed-requires x = λ c.
    let heap = c.in_ok-heap.heap in
    let pass : Mutating AnyUsage → Facts AnyUsage = λ m. m.pass in
    let old = c.as_mut_slice.result.now in
    let new = c.run_all.new.runners in
    let begun : map pass old ≡ c.in_ok-heap.passes.items =
    ap (map pass) c.as_mut_slice.ensures.value ∙ c.in_ok-runners.ensures in
    let wide : c.in_ok-runners.runners.len ≡ length new =
    c.in_ok-runners.runners.ok.0
    ∙ (ap (λ (l : List (Mutating AnyUsage)). length l) (sym c.as_mut_slice.ensures.value) ∙ sym c.run_all.auto.runners) in
    let rest = drop (length new) c.in_ok-runners.runners.items in
    let left : take c.in_ok-runners.runners.len (new ++ rest) ≡ new =
    ap (λ (n : ℕ). take n (new ++ rest)) wide ∙ take-append_seam new rest in
    record {
      all = subst (AreAll heap) (sym (c.in_ok-passes.ensures ∙ ap (map pass) left))
          (all_still heap (map pass old) (map pass new)
          (subst (AreAll heap) (sym begun) c.in_ok-heap.ensures.all) c.run_all.ensures);
    }
