use Rattle.std.proofs.Common.{arith, ◌≡◌, ◌+◌, ◌∙◌, sym, ap, subst, refl, length, List, ℕ}
use Rattle.std.specs.Prelude.{slice_index}
use Rattle.std.proofs.lemmas.Bool.{false≢true}
use Rattle.hm_orders.specs.declared.report.Fill.{Fill}
use Rattle.hm_cellbook.specs.declared.usage.BookUsage.{BookUsage}
use Rattle.hm_book.specs.Effect.{effect_of}
use Rattle.hm_cellbook.specs.Cost.{LeavesBook, changes}
use Rattle.hm_cellbook.specs.Working.{HasEffect}
use Rattle.hm_cellbook.proofs.Fetching.{fetched_book}
use Rattle.hm_cellbook.proofs.Attempts.{may_store_attempt}
use Rattle.hm_cellbook.proofs.Next.{begins_copied, numbers_few, names_stay, next_is, fills_fit, next_cost, next_needless, next_applies, next_tells}
use Rattle.hm_cellbook.proofs.attempt.build_next.Goals as goal

pub apply-requires-clause-begins : goal.apply-requires-clause-begins
apply-requires-clause-begins g c =
    let before = g.C.Caller.sight c.args.c.now in
    let b = fetched_book before c.args.at.now c.requires.fetched in
    let e = c.copy_lists.ensures in (
      b.0,
      begins_copied before c.args.at.now c.requires.fetched b.0 b.1
          (g.C.Caller.sight c.copy_lists.new.c) (c.args.at.now.stamp + 1) e.rests e.bids e.asks e.ids refl,
    )

pub apply-requires-clause-numbers : goal.apply-requires-clause-numbers
apply-requires-clause-numbers g c =
    let before = g.C.Caller.sight c.args.c.now in
    let b = fetched_book before c.args.at.now c.requires.fetched in
    let few = numbers_few before c.args.at.now c.requires.fetched b.0 b.1 in
    let stamp = c.requires.stamp in
    omega arith

pub overflow_add-fills : goal.overflow_add-fills
overflow_add-fills g c =
    let before = g.C.Caller.sight c.args.c.now in
    let at = c.args.at.now in
    let b = fetched_book before at c.requires.fetched in
    let e = c.copy_lists.ensures in
    let begins = begins_copied before at c.requires.fetched b.0 b.1 (g.C.Caller.sight c.copy_lists.new.c)
    (at.stamp + 1) e.rests e.bids e.asks e.ids refl in
    let effect = c.in_ok-outcome.ensures.effect b.0 begins in
    let copied = g.C.Caller.sight c.copy_lists.new.c in
    let fits = fills_fit before at c.requires.fetched b.0 b.1 before.usage.limits c.args.o.now
    (at.stamp + 1) refl copied.usage.limits (ap (λ (u : BookUsage). u.limits) e.rests.caller.usage) in
    let same : length c.in_ok-outcome.outcome.fills.items
    ≡ length _ = ap (λ (l : List Fill). length l) effect.fills in
    let count : c.len.result ≡ length c.in_ok-outcome.outcome.fills.items = c.len.ensures
    ∙ c.in_ok-outcome.outcome.fills.ok.0 in
    let stamp = c.requires.stamp in
    omega arith

pub returns-in_err-outcome-clause-builds : goal.returns-in_err-outcome-clause-builds
returns-in_err-outcome-clause-builds g c = λ book has.
    let before = g.C.Caller.sight c.args.c.now in
    let copied = g.C.Caller.sight c.copy_lists.new.c in
    let at = c.args.at.now in
    let e = c.copy_lists.ensures in
    let begins = begins_copied before at c.requires.fetched book has copied
    (at.stamp + 1) e.rests e.bids e.asks e.ids refl in
    next_cost before at c.requires.fetched book has before.usage.limits c.args.o.now
    (at.stamp + 1) refl copied.usage.limits (ap (λ (u : BookUsage). u.limits) e.rests.caller.usage)
    copied (g.C.Caller.sight c.apply.new.c) e.rests (c.apply.ensures.builds book begins)

pub returns-clause-builds : goal.returns-clause-builds
returns-clause-builds g c = λ book has.
    let before = g.C.Caller.sight c.args.c.now in
    let copied = g.C.Caller.sight c.copy_lists.new.c in
    let at = c.args.at.now in
    let e = c.copy_lists.ensures in
    let begins = begins_copied before at c.requires.fetched book has copied
    (at.stamp + 1) e.rests e.bids e.asks e.ids refl in
    next_cost before at c.requires.fetched book has before.usage.limits c.args.o.now
    (at.stamp + 1) refl copied.usage.limits (ap (λ (u : BookUsage). u.limits) e.rests.caller.usage)
    copied (g.C.Caller.sight c.apply.new.c) e.rests (c.apply.ensures.builds book begins)

pub returns-in_err-outcome-clause-needless : goal.returns-in_err-outcome-clause-needless
returns-in_err-outcome-clause-needless g c = λ h.
    let before = g.C.Caller.sight c.args.c.now in
    let copied = g.C.Caller.sight c.copy_lists.new.c in
    let at = c.args.at.now in
    let e = c.copy_lists.ensures in
    let begins = begins_copied before at c.requires.fetched h.book h.has copied
    (at.stamp + 1) e.rests e.bids e.asks e.ids refl in
    next_needless before at c.requires.fetched h.book h.has before.usage.limits c.args.o.now
    (at.stamp + 1) refl copied.usage.limits (ap (λ (u : BookUsage). u.limits) e.rests.caller.usage)
    copied (g.C.Caller.sight c.apply.new.c) e.rests (c.apply.ensures.builds h.book begins) h.leaves

pub returns-clause-needless : goal.returns-clause-needless
returns-clause-needless g c = λ h.
    let before = g.C.Caller.sight c.args.c.now in
    let copied = g.C.Caller.sight c.copy_lists.new.c in
    let at = c.args.at.now in
    let e = c.copy_lists.ensures in
    let begins = begins_copied before at c.requires.fetched h.book h.has copied
    (at.stamp + 1) e.rests e.bids e.asks e.ids refl in
    next_needless before at c.requires.fetched h.book h.has before.usage.limits c.args.o.now
    (at.stamp + 1) refl copied.usage.limits (ap (λ (u : BookUsage). u.limits) e.rests.caller.usage)
    copied (g.C.Caller.sight c.apply.new.c) e.rests (c.apply.ensures.builds h.book begins) h.leaves

pub returns-in_err-outcome-clause-answered : goal.returns-in_err-outcome-clause-answered
returns-in_err-outcome-clause-answered g c = λ h.
    let before = g.C.Caller.sight c.args.c.now in
    let copied = g.C.Caller.sight c.copy_lists.new.c in
    let at = c.args.at.now in
    let e = c.copy_lists.ensures in
    let begins = begins_copied before at c.requires.fetched h.book h.has copied
    (at.stamp + 1) e.rests e.bids e.asks e.ids refl in
    absurd (false≢true (c.in_err-outcome.ensures.answered h.book begins
    (subst LeavesBook (sym (next_is before at c.requires.fetched h.book h.has before.usage.limits c.args.o.now
    (at.stamp + 1) refl copied.usage.limits (ap (λ (u : BookUsage). u.limits) e.rests.caller.usage))) h.leaves)))

pub returns-clause-same : goal.returns-clause-same
returns-clause-same g c = λ h.
    let before = g.C.Caller.sight c.args.c.now in
    let copied = g.C.Caller.sight c.copy_lists.new.c in
    let at = c.args.at.now in
    let e = c.copy_lists.ensures in
    let begins = begins_copied before at c.requires.fetched h.book h.has copied
    (at.stamp + 1) e.rests e.bids e.asks e.ids refl in
    let effect = c.in_ok-outcome.ensures.effect h.book begins in
    let mine = subst LeavesBook (sym (next_is before at c.requires.fetched h.book h.has before.usage.limits
    c.args.o.now (at.stamp + 1) refl copied.usage.limits
    (ap (λ (u : BookUsage). u.limits) e.rests.caller.usage))) h.leaves in
    let stays = c.in_ok-outcome.ensures.same record {
      no_fill = effect.fills ∙ mine.no_fill;
      no_change = ap changes effect.fate ∙ mine.no_change;
    } in
    names_stay before copied (g.C.Caller.sight c.apply.new.c) _ e.bids e.asks e.ids e.others stays
    c.refs_of.ensures.names

pub returns-in_err-outcome-clause-shown : goal.returns-in_err-outcome-clause-shown
returns-in_err-outcome-clause-shown g c =
    fetched_book (g.C.Caller.sight c.args.c.now) c.args.at.now c.requires.fetched

pub returns-clause-shown : goal.returns-clause-shown
returns-clause-shown g c =
    fetched_book (g.C.Caller.sight c.args.c.now) c.args.at.now c.requires.fetched

pub returns-clause-applies : goal.returns-clause-applies
returns-clause-applies g c = λ book has.
    let before = g.C.Caller.sight c.args.c.now in
    let copied = g.C.Caller.sight c.copy_lists.new.c in
    let after = g.C.Caller.sight c.apply.new.c in
    let at = c.args.at.now in
    let e = c.copy_lists.ensures in
    let begins = begins_copied before at c.requires.fetched book has copied
    (at.stamp + 1) e.rests e.bids e.asks e.ids refl in
    let usage = ap (λ (u : BookUsage). u.limits)
    ((c.apply.ensures.builds book begins).goes.caller.usage ∙ e.rests.caller.usage) in
    let t = c.in_ok-outcome.outcome in
    let count = c.numbers_of-numbers.ensures.fills
    ∙ ap (λ (k : ℕ). slice_index at.numbers 9 + k) (c.len.ensures ∙ t.fills.ok.0) in
    let made = c.new.ensures in
    next_applies before at c.requires.fetched book has before.usage.limits c.args.o.now
    (at.stamp + 1) refl copied.usage.limits (ap (λ (u : BookUsage). u.limits) e.rests.caller.usage)
    after c.refs_of.result c.numbers_of-numbers.result t.fate c.new.result t.resting usage
    (subst (λ (l : List Fill). HasEffect after
    (effect_of copied.usage.limits c.args.o.now (at.stamp + 1) (slice_index at.numbers 9) book)
    t.fate l t.resting) (sym made)
    (c.in_ok-outcome.ensures.effect book begins))
    c.refs_of.ensures.names c.numbers_of-numbers.ensures.resting
    (count ∙ ap (λ (l : List Fill). slice_index at.numbers 9 + length l) (sym made))

pub returns-clause-tells : goal.returns-clause-tells
returns-clause-tells g c =
    let before = g.C.Caller.sight c.args.c.now in
    let at = c.args.at.now in
    let b = fetched_book before at c.requires.fetched in
    next_tells before at c.requires.fetched b.0 b.1 before.usage.limits c.args.o.now (at.stamp + 1) refl
    before.usage.limits refl (g.C.Caller.sight c.copy_lists.new.c)
    (g.C.Caller.sight c.apply.new.c) c.refs_of.result c.numbers_of-numbers.result _
    c.copy_lists.ensures.others c.apply.ensures.others c.refs_of.ensures.names
    c.numbers_of-numbers.ensures.root c.numbers_of-numbers.ensures.holds

pub returns-clause-allowed : goal.returns-clause-allowed
returns-clause-allowed g c = λ file.
    let before = g.C.Caller.sight c.args.c.now in
    let at = c.args.at.now in
    let b = fetched_book before at c.requires.fetched in
    let names = c.apply.ensures.others.below 0 (omega arith)
    ∙ (c.copy_lists.ensures.others.below 0 (omega arith) ∙ c.requires.fetched.place) in
    may_store_attempt before (g.C.Caller.sight c.apply.new.c) at c.requires.fetched _
    (returns-clause-builds g c b.0 b.1) c.args.o.now _
    c.requires.well_formed c.fits-o.1.0.1 (returns-clause-applies g c)
    (returns-clause-tells g c) record { 0 = 0 } names file
