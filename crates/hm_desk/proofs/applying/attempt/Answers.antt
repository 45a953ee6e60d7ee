-- The fetch, the attempt and its conditional store, one after another.
use Rattle.std.proofs.Common.{Err, arith, ap, sym, subst, ◌≡◌, ◌∙◌}
use Rattle.hm_desk.proofs.Quiet.{on_then, quiet_on, quiet_then, stamp_goes}
use Rattle.hm_desk.proofs.Coming.{work_quietly}
use Rattle.hm_desk.proofs.Storing.{ready_next}
use Rattle.hm_model.specs.Sight.{Sight}
use Rattle.hm_cellbook.specs.declared.usage.BookUsage.{BookUsage}
use Rattle.hm_cellbook.specs.declared.attempt.AttemptRefused.{AttemptRefused}
use Rattle.hm_desk.specs.Hindered.{IsHindered}
use Rattle.hm_desk.proofs.Hindering.{attempt_dear, attempt_overtaken, next_is, refused_full, refused_unchanged}
use Rattle.hm_desk.proofs.applying.attempt.Goals as goal

pub store-requires-clause-work : goal.store-requires-clause-work
store-requires-clause-work g c =
    work_quietly _ _ _ _ c.requires.work
    (quiet_then _ _ _ c.fetch_book-at.ensures.quiet c.build.ensures.quiet) c.build.ensures.desk

pub store-requires-clause-order : goal.store-requires-clause-order
store-requires-clause-order g c =
    ready_next _ _ _ _ c.requires.more c.in-Ok.ensures.ready

pub store-requires-clause-stamp : goal.store-requires-clause-stamp
store-requires-clause-stamp g c =
    let q = c.build.ensures.quiet in
    let rises = stamp_goes _ _ _ c.fetch_book-at.ensures.desk c.build.ensures.desk q.goes in
    omega (arith, rises, c.fetch_book-at.ensures.now)

pub returns-in-Ok-clause-goes : goal.returns-in-Ok-clause-goes
returns-in-Ok-clause-goes g c =
    on_then _ _ _ (quiet_on _ _ (quiet_then _ _ _ c.fetch_book-at.ensures.quiet c.build.ensures.quiet))
    c.store.ensures.goes

pub returns-in-Ok-clause-changed : goal.returns-in-Ok-clause-changed
returns-in-Ok-clause-changed g c is =
    let h = c.store.ensures.changed is in
    let q = c.fetch_book-at.ensures.quiet in
    let rises = stamp_goes _ _ _ c.requires.work.desk c.fetch_book-at.ensures.desk q.goes in
    record { greater = omega (arith, h.greater, rises, c.fetch_book-at.ensures.now); fits = h.fits }

pub returns-in-Err-clause-work : goal.returns-in-Err-clause-work
returns-in-Err-clause-work g c =
    work_quietly _ _ _ _ c.requires.work
    (quiet_then _ _ _ c.fetch_book-at.ensures.quiet c.build.ensures.quiet) c.build.ensures.desk

pub returns-in-Err-clause-goes : goal.returns-in-Err-clause-goes
returns-in-Err-clause-goes g c =
    quiet_on _ _ (quiet_then _ _ _ c.fetch_book-at.ensures.quiet c.build.ensures.quiet)

pub returns-in-Ok-clause-hindered : goal.returns-in-Ok-clause-hindered
returns-in-Ok-clause-hindered g c is =
    let same = c.store.ensures.same is in
    let empty : (g.C.Caller.sight c.build.new.c).room ≡ 0 = sym (ap (λ (x : Sight BookUsage). x.room) same) ∙ c.store.ensures.full is in
    subst (λ (x : Sight BookUsage). IsHindered 1 c.args.orders.now c.args.so_far.now.next (g.C.Caller.sight c.args.c.now) x) (sym same)
    (attempt_dear _ _ _ _ _ _ _ (next_is _ _ _ c.requires.more) (sym c.requires.work.come.told ∙ c.requires.settled) c.fetch_book-at.ensures.quiet c.fetch_book-at.ensures.entry
    c.build.ensures.quiet c.build.ensures.takes empty)

pub returns-in-Ok-clause-overtaken : goal.returns-in-Ok-clause-overtaken
returns-in-Ok-clause-overtaken g c is =
    let q = c.fetch_book-at.ensures.quiet in
    let rises = stamp_goes _ _ _ c.requires.work.desk c.fetch_book-at.ensures.desk q.goes in
    attempt_overtaken _ _ _ _ _ q c.fetch_book-at.ensures.entry c.build.ensures.quiet (c.store.ensures.greater is)
    (omega (arith, rises, c.fetch_book-at.ensures.now))

pub returns-in-Err-clause-hindered : goal.returns-in-Err-clause-hindered
returns-in-Err-clause-hindered g c is =
    attempt_dear _ _ _ _ _ _ _ (next_is _ _ _ c.requires.more) (sym c.requires.work.come.told ∙ c.requires.settled) c.fetch_book-at.ensures.quiet c.fetch_book-at.ensures.entry
    c.build.ensures.quiet c.build.ensures.takes
    (refused_full c.in-Err.refused _ (λ e. c.build.ensures.full (c.in-Err.is ∙ ap (λ (x : AttemptRefused). Err x) e))
    (sym c.from.ensures ∙ is))

pub returns-in-Err-clause-overtaken : goal.returns-in-Err-clause-overtaken
returns-in-Err-clause-overtaken g c is = refused_unchanged c.in-Err.refused _ (sym c.from.ensures ∙ is)
