-- The next file has one text more, or is the first that could not be read.
use Rattle.std.proofs.Common.{rules, arith, ◌≡◌, ◌∙◌, ◌+◌, length, refl}
use Rattle.hm_replay.proofs.Texts.{texts_pushed, cause_pushed, failed_pushed}
use Rattle.hm_replay.proofs.Pushed.{of_error, place_here}
use Rattle.hm_replay.proofs.load.read_files.Goals as goal

pub returns-in_err-read_file-clause-cause : goal.returns-in_err-read_file-clause-cause
returns-in_err-read_file-clause-cause g c =
    let here = place_here c.args.names.now (length c.loop-name.texts.items) c.loop-name.name-index _ c.loop-name.invariant.count (search rules) in
    let number : c.len.result + 1 ≡ length c.loop-name.texts.items + 1 = omega (arith, c.len.ensures, c.loop-name.texts.ok.0) in
    of_error _ c.in_err-read_file.field-0.0 c.from_residual.result c.from_residual.ensures.1
    (cause_pushed (λ name. name.now) (λ text. text.items) _ _ _ _ _ _ c.loop-name.invariant.same here c.loop-name.invariant.texts number _ c.in_err-read_file.ensures.refused)

pub returns-in_err-read_file-clause-failures : goal.returns-in_err-read_file-clause-failures
returns-in_err-read_file-clause-failures g c =
    let here = place_here c.args.names.now (length c.loop-name.texts.items) c.loop-name.name-index _ c.loop-name.invariant.count (search rules) in
    let number : c.len.result + 1 ≡ length c.loop-name.texts.items + 1 = omega (arith, c.len.ensures, c.loop-name.texts.ok.0) in
    failed_pushed (λ name. name.now) (λ text. text.items) _ _ _ _ _ _ c.loop-name.invariant.same here c.loop-name.invariant.texts number
    c.in_err-read_file.field-0.0 _ _ _ _ c.from_residual.result refl c.in_err-read_file.ensures.refused c.loop-name.invariant.failed
    c.in_err-read_file.ensures.failures c.from_residual.ensures.1

pub loop-name-preserved : goal.loop-name-preserved
loop-name-preserved g c =
    let here = place_here c.args.names.now (length c.loop-name.texts.items) c.loop-name.name-index _ c.loop-name.invariant.count (search rules) in
    let number : c.len.result + 1 ≡ length c.loop-name.texts.items + 1 = omega (arith, c.len.ensures, c.loop-name.texts.ok.0) in
    record {
      count = search rules;
      texts = rw c.in_ok-push.ensures.items
          (texts_pushed (λ name. name.now) (λ text. text.items) _ _ _ _ _ _ c.loop-name.invariant.same here c.loop-name.invariant.texts number _ c.in_ok-read_file.ensures.text);
      same = λ name. ◌∙◌ {b = g.S.Shelf.told c.loop-name.shelf name} (c.in_ok-read_file.ensures.same name) (c.loop-name.invariant.same name);
      faults = ◌∙◌ {b = g.S.Shelf.faults c.loop-name.shelf} (c.in_ok-read_file.ensures.unread refl) c.loop-name.invariant.faults;
      failed = ◌∙◌ {b = g.S.Shelf.failed c.loop-name.shelf} c.in_ok-read_file.ensures.failures c.loop-name.invariant.failed;
    }
