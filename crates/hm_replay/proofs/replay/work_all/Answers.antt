-- All callers have worked, each on its file.
use Rattle.std.proofs.Common.{rules, ◌≡◌, ◌∙◌, ◌<◌, ℕ, All, List, length, map, get_or, sym, ap, subst}
use Rattle.hm_orders.specs.declared.order.Order.{Order}
use Rattle.hm_cellbook.specs.declared.usage.BookUsage.{BookUsage}
use Rattle.hm_cells.specs.Closing.{AreAll}
use Rattle.hm_cells.specs.Facts.{Facts}
use Rattle.hm_heap.proofs.Staying.{all_still}
use Rattle.hm_replay.specs.declared.conclusion.Came.{Came}
use Rattle.hm_replay.specs.Working.{HaveWorked, IsAtWork, Working, Works}
use Rattle.hm_replay.specs.Working.{IsUnder}
use Rattle.hm_replay.proofs.Jobs.{changed, have_worked, jobs_under, same_callers, some_item}
use Rattle.hm_replay.proofs.replay.work_all.Goals as goal

pub returns-clause-all : goal.returns-clause-all
returns-clause-all g c =
    let made = c.jobs_of-jobs.ensures in
    let ran = c.work_side_by_side.ensures in
    let ended = c.ends_of-back.ensures in
    let old : List Working = c.jobs_of-jobs.result.items in
    let new : List Working = c.work_side_by_side.new.jobs in
    let slice : c.as_mut_slice.result.now ≡ old = search rules in
    let wide : length new ≡ length old = ran.count ∙ ap (λ (l : List Working). length l) slice in
    let long : c.jobs_of-jobs.result.len ≡ length old = search rules in
    let works : (i : ℕ) (d : Working) → i < length old → Works (get_or old i d) (get_or new i d) =
    λ i d low. subst (λ (l : List Working). Works (get_or l i d) (get_or new i d)) slice
    (ran.works i d (subst (λ (l : List Working). i < length l) (sym slice) low)) in
    let some : 0 < length old = subst (λ (n : ℕ). 0 < n) (sym made.count) c.requires.some in
    subst (AreAll c.args.heap.now)
    (sym (ended.passes ∙ ap (λ (l : List Working). map (λ (job : Working). job.pass) l) (changed c.jobs_of-jobs.result.len new old wide long)))
    (all_still c.args.heap.now c.args.passes.items _ c.requires.all
    (same_callers _ c.args.passes.items _ c.requires.ready old new made.jobs made.count wide works (some_item old some)))

pub returns-clause-worked : goal.returns-clause-worked
returns-clause-worked g c =
    let files : List (List Order) = map (λ orders. orders.items) c.args.files.now in
    let made = c.jobs_of-jobs.ensures in
    let ran = c.work_side_by_side.ensures in
    let ended = c.ends_of-back.ensures in
    let old : List Working = c.jobs_of-jobs.result.items in
    let new : List Working = c.work_side_by_side.new.jobs in
    let slice : c.as_mut_slice.result.now ≡ old = search rules in
    let wide : length new ≡ length old = ran.count ∙ ap (λ (l : List Working). length l) slice in
    let long : c.jobs_of-jobs.result.len ≡ length old = search rules in
    let works : (i : ℕ) (d : Working) → i < length old → Works (get_or old i d) (get_or new i d) =
    λ i d low. subst (λ (l : List Working). Works (get_or l i d) (get_or new i d)) slice
    (ran.works i d (subst (λ (l : List Working). i < length l) (sym slice) low)) in
    let some : 0 < length old = subst (λ (n : ℕ). 0 < n) (sym made.count) c.requires.some in
    let same = changed c.jobs_of-jobs.result.len new old wide long in
    let back = ended.passes ∙ ap (λ (l : List Working). map (λ (job : Working). job.pass) l) same in
    let came = ended.came ∙ ap (λ (l : List Working). map (λ (job : Working). job.came) l) same in
    subst (λ (l : List Came). HaveWorked c.args.passes.items c.ends_of-back.result.0.items files l) (sym came)
    (subst (λ (l : List (Facts BookUsage)). HaveWorked c.args.passes.items l files (map (λ (job : Working). job.came) new)) (sym back)
    (have_worked _ c.args.passes.items files c.requires.ready old new made.jobs made.count wide works (some_item old some)
    (subst (λ (l : List Working). All IsAtWork l) same ended.at_work)))

pub work_side_by_side-requires-clause-under : goal.work_side_by_side-requires-clause-under
work_side_by_side-requires-clause-under g c = λ κs live.
    let old : List Working = c.jobs_of-jobs.result.items in
    let slice : c.as_mut_slice.result.now ≡ old = search rules in
    subst (All (IsUnder c.args.desk.now)) (sym slice)
    (jobs_under _ c.args.passes.items _ c.requires.ready old c.jobs_of-jobs.ensures.jobs)
