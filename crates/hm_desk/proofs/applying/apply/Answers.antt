-- The caller goes on from attempt to attempt.
use Rattle.std.proofs.Common.{ap, inl, inr, rules, refl, IfErr, ◌≡◌, ◌≤◌, ◌<◌, ◌∙◌, ◌+◌, ◌-◌, ℕ, Bool, arith, false, true, sym, subst, cond}
use Rattle.hm_desk.specs.Stalling.{IfFull, WasFull}
use Rattle.hm_desk.specs.Working.{book_stamp}
use Rattle.hm_desk.proofs.Quiet.{full_earlier_err, on_names, on_none, on_then, stamp_goes, stamp_names}
use Rattle.hm_desk.proofs.Coming.{work_names}
use Rattle.hm_desk.specs.declared.progress.Progress.{Progress}
use Rattle.hm_desk.specs.Hindered.IsHindered.{overtaken}
use Rattle.hm_desk.proofs.Hindering.{hindered_from, hindered_goes, hindered_same, if_full}
use Rattle.hm_desk.proofs.applying.apply.Goals as goal

-- the caller moves the stage at most so often as it tends for room once
once_moved : (before old mid new : ℕ) (was now : Bool) → old ≤ before + cond was 8 0 → mid ≡ old → new ≤ mid + 8
    → was ≡ false → now ≡ true → new ≤ before + cond now 8 0
once_moved before old mid new false true few same more first last = omega (arith, few, same, more)
once_moved before old mid new true now few same more first last = absurd (cc)
once_moved before old mid new false false few same more first last = absurd (cc)

pub loop-c-init : goal.loop-c-init
loop-c-init g c = record { work = c.requires.work; goes = on_none _; same = refl; tends = omega arith; moves = omega arith; start = inl refl }

pub returns-in-Applied-clause-goes : goal.returns-in-Applied-clause-goes
returns-in-Applied-clause-goes g c = on_then _ _ _ c.loop-c.invariant.goes c.attempt.ensures.goes

pub returns-in-Memory-clause-goes : goal.returns-in-Memory-clause-goes
returns-in-Memory-clause-goes g c = on_then _ _ _ c.loop-c.invariant.goes c.attempt.ensures.goes

pub loop-c-preserved-in-Changed : goal.loop-c-preserved-in-Changed
loop-c-preserved-in-Changed g c = record {
  work = c.attempt.ensures.work;
  goes = on_then _ _ _ c.loop-c.invariant.goes c.attempt.ensures.goes;
  same = c.in-Changed.ensures.unchanged (λ e. absurd (cc)) ∙ c.loop-c.invariant.same;
  tends = omega (arith, c.loop-c.invariant.tends, c.attempt.ensures.tends);
  moves = omega (arith, c.loop-c.invariant.moves, c.attempt.ensures.moves);
  start = inr (hindered_from _ _ _ _ _ c.loop-c.invariant.start c.attempt.ensures.goes
      (overtaken (c.in-Changed.ensures.overtaken refl)));
}

pub loop-c-preserved : goal.loop-c-preserved
loop-c-preserved g c = record {
  work = work_names _ _ _ _ c.attempt.ensures.work c.meet_full.ensures.same;
  goes = on_then _ _ _ (on_then _ _ _ c.loop-c.invariant.goes c.attempt.ensures.goes)
      (on_names _ _ c.meet_full.ensures.same);
  same = c.in-Full.ensures.unchanged (λ e. absurd (cc)) ∙ c.loop-c.invariant.same;
  tends = omega (arith, c.loop-c.invariant.tends, c.attempt.ensures.tends, c.meet_full.ensures.tends);
  moves = once_moved _ _ _ _ _ _ c.loop-c.invariant.moves c.attempt.ensures.moves c.meet_full.ensures.moves
      (c.in_ok-meet_full-in-Full.ensures.once).0 (c.in_ok-meet_full-in-Full.ensures.once).1;
  start = inr (hindered_goes _ _ _ _ _ _
      (hindered_from _ _ _ _ _ c.loop-c.invariant.start c.attempt.ensures.goes
      (hindered_same _ _ _ _ _ _ (ap (λ (p : Progress). p.next) c.loop-c.invariant.same)
      (c.in-Full.ensures.hindered refl)))
      (on_names _ _ c.meet_full.ensures.same));
}

-- the measure falls where the caller has tended for room
smaller : (most old new : ℕ) (was now : Bool) → old ≤ new → was ≡ false → now ≡ true
    → (most - new) + cond now 0 1 < (most - old) + cond was 0 1
smaller most old new false true rises first last = omega arith
smaller most old new true now rises first last = absurd (cc)
smaller most old new false false rises first last = absurd (cc)

pub loop-c-smaller : goal.loop-c-smaller
loop-c-smaller g c =
    let rises = stamp_goes _ _ _ c.loop-c.invariant.work.desk c.attempt.ensures.work.desk c.attempt.ensures.goes.goes in
    let same = stamp_names _ _ c.meet_full.ensures.same in
    let once = c.in_ok-meet_full-in-Full.ensures.once in
    smaller 18446744073709551615 _ _ _ _ (subst (λ (n : ℕ). book_stamp (g.C.Caller.sight c.loop-c.c) ≤ n) (sym same) rises)
    once.0 once.1

pub returns-in_err-meet_full-in-Full-clause-goes : goal.returns-in_err-meet_full-in-Full-clause-goes
returns-in_err-meet_full-in-Full-clause-goes g c =
    on_then _ _ _ (on_then _ _ _ c.loop-c.invariant.goes c.attempt.ensures.goes)
    (on_names _ _ c.meet_full.ensures.same)

pub returns-in_err-meet_full-in-Full-clause-full : goal.returns-in_err-meet_full-in-Full-clause-full
returns-in_err-meet_full-in-Full-clause-full g c =
    let then : IfErr c.from_residual.result (λ halted. IfFull halted (WasFull (g.C.Caller.sight c.attempt.new.c))) =
    search rules in
    full_earlier_err _ _ c.from_residual.result
    (on_then _ _ _ c.loop-c.invariant.goes c.attempt.ensures.goes) then

pub returns-in_err-meet_full-in-Full-clause-hindered : goal.returns-in_err-meet_full-in-Full-clause-hindered
returns-in_err-meet_full-in-Full-clause-hindered g c =
    if_full c.from_residual.result _
    (hindered_goes _ _ _ _ _ _
    (hindered_from _ _ _ _ _ c.loop-c.invariant.start c.attempt.ensures.goes
    (hindered_same _ _ _ _ _ _ (ap (λ (p : Progress). p.next) c.loop-c.invariant.same)
    (c.in-Full.ensures.hindered refl)))
    (on_names _ _ c.meet_full.ensures.same))
