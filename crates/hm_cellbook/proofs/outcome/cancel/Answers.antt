use Rattle.std.proofs.Common.{arith, ℕ, ◌≡◌, ◌∙◌, ap, sym}
use Rattle.hm_cellbook.proofs.Outcomes.{cancelled_builds, cancelled_effect}
use Rattle.hm_cellbook.proofs.outcome.cancel.Goals as goal

pub returns-in_err-take_out-clause-builds : goal.returns-in_err-take_out-clause-builds
returns-in_err-take_out-clause-builds g c = λ book w.
    let found = c.in-Some.ensures in
    cancelled_builds _ _ _ c.args.order.now book (sym (found.rests book w)) found.builds
    (c.take_out.ensures.builds book (found.works book w))

pub returns-clause-builds : goal.returns-clause-builds
returns-clause-builds g c = λ book w.
    let found = c.in-Some.ensures in
    cancelled_builds _ _ _ c.args.order.now book (sym (found.rests book w)) found.builds
    (c.take_out.ensures.builds book (found.works book w))

pub returns-clause-effect : goal.returns-clause-effect
returns-clause-effect g c = λ book w count.
    let found = c.in-Some.ensures in
    let spot = found.spot book w in
    let r = spot.0 in
    let named = spot.1 in
    let id : c.id_key.result ≡ record { a = r.file; b = r.id } = c.id_key.ensures
    ∙ (ap (λ (k : ℕ). record { a = k; b = c.args.order.now.id }) (sym named.of_file)
    ∙ ap (λ (k : ℕ). record { a = r.file; b = k }) (sym named.has_id)) in
    let none = c.no_fill-2.ensures in
    cancelled_effect _ c.args.order.now book r _ _ _ c.args.resting (sym (found.rests book w)) w.listable named
    (c.in_ok-take_out.ensures.taken book r r.quantity (found.works book w) named.there spot.2 id (omega arith))
    none.fate none.fills none.resting count
