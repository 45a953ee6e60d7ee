use Rattle.std.proofs.Common.{◌≡◌, ◌+◌, ℕ, Some, None, sym, ap, ◌∙◌, arith}
use Rattle.std.specs.Prelude.{slice_get}
use Rattle.hm_core.proofs.Words.{slice_get_past}
use Rattle.hm_core.proofs.Seating.{note_iff, none_note, positive}
use Rattle.hm_core.proofs.machine.Machine.is_live_note.Goals as goal

pub returns-then-i-notes : goal.returns-then-i-notes
returns-then-i-notes c =
    let m = c.args.self.now in
    let past = slice_get_past m.seats (m.shape.callers + c.args.i) (omega arith) in
    (λ t. absurd (cc), λ h. absurd (none_note m c.notes.ensures.sound c.args.i (sym past) h))

pub returns-in-Some : goal.returns-in-Some
returns-in-Some c =
    let m = c.args.self.now in
    let at : Some c.in-Some.seat.now ≡ slice_get m.seats (m.shape.callers + c.args.i) =
    c.in-Some.ensures.seat ∙ ap (λ (x : ℕ). slice_get m.seats (x + c.args.i))
    (c.from.ensures ∙ c.callers.ensures) in
    let t = note_iff m c.in-Some.ensures.sound c.args.i c.in-Some.seat.now at in
    let u = positive c.seen.result c.in-Some.seat.now.seen c.seen.ensures in
    (λ h. t.0 (u.0 h), λ h. u.1 (t.1 h))

pub returns-in-None : goal.returns-in-None
returns-in-None c =
    let m = c.args.self.now in
    let at : None ≡ slice_get m.seats (m.shape.callers + c.args.i) =
    c.in-None.ensures.seat ∙ ap (λ (x : ℕ). slice_get m.seats (x + c.args.i))
    (c.from.ensures ∙ c.callers.ensures) in
    (λ t. absurd (cc), λ h. absurd (none_note m c.in-None.ensures.sound c.args.i at h))
