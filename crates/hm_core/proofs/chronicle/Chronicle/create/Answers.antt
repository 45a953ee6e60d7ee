-- The place of a new object comes behind those of its maker's objects.
use Rattle.std.proofs.Common.{◌≡◌, length, ap, ◌∙◌, arith, sym}
use Rattle.hm_core.proofs.Words.{ChronicleState}
use Rattle.hm_core.proofs.ChronicleFacts.{chronicle_created, written_same, written_to, written_at}
use Rattle.hm_core.proofs.chronicle.Chronicle.create.Goals as goal

pub invariant_of-self-in_err-push : goal.invariant_of-self-in_err-push
invariant_of-self-in_err-push c =
    let wide = ap (λ (z : ChronicleState). z.makers) c.self.view_is in
    let lists = written_same (λ places. places.items) c.self.inside.places.items c.args.name.maker _
    c.push.new.self (omega arith) c.index_mut.ensures.value c.in_err-push.ensures.items in
    rw (c.try_reserve.ensures.items, c.try_reserve-2.ensures.items, lists) c.self.invariant

pub invariant_of-self-2 : goal.invariant_of-self-2
invariant_of-self-2 c =
    let same = ap (λ (z : ChronicleState). z.entries) c.self.view_is in
    let n : c.len-place.result ≡ length c.self.inside.store.items = c.len-place.ensures
    ∙ (c.try_reserve-2.new.self.ok.0 ∙ ap length c.try_reserve-2.ensures.items) in
    let stored = rw (c.unwrap.ensures, c.try_reserve-2.ensures.items) at c.push-2.ensures.items in
    let entered = rw (c.unwrap-2.ensures, c.try_reserve.ensures.items) at c.push-3.ensures.items in
    let wide = ap (λ (z : ChronicleState). z.makers) c.self.view_is in
    let lists = written_to (λ places. places.items) c.self.inside.places.items c.args.name.maker
    c.index_mut.result.now c.push.new.self (omega arith) c.index_mut.ensures.value _
    c.in_ok-push.ensures.items in
    let at = written_at (λ places. places.items) c.self.inside.places.items c.args.name.maker
    c.index_mut.result.now c.push.new.self (omega arith) c.index_mut.ensures.value in
    rw (entered, stored, lists, n) (chronicle_created _ _ _ c.self.invariant c.args.entry.now
    (rw (sym same) at c.requires.stands) c.args.name c.args.contents _
    (rw (sym same) at c.requires.effect) at (rw (sym same) at c.requires.count))
