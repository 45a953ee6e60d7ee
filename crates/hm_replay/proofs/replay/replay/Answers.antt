-- The callers came to the whole history of the closed cells.
use Rattle.hm_replay.proofs.Ended.{come_to, first_at, full_of, replay_of, tells_of}
use Rattle.hm_replay.proofs.replay.replay.Goals as goal

pub conclude-requires : goal.conclude-requires
conclude-requires g c =
    let closed = c.close.ensures in
    let ran = c.work_all-passes.ensures in
    record {
      come = (
        c.args.settings.now,
        _,
        c.close.result.history,
        come_to c.args.settings.now c.args.files.items c.requires.files c.close.result c.in-Ok.heap closed.site _ c.as_slice.ensures.value
            c.in-Ok.ensures.heap closed.whole _ ran.all closed.passes _ c.as_slice-2.ensures.value c.in-Ok.passes.items _
            c.in-Some.came c.in-Some.is ran.worked,
      );
    }

pub returns-in-Some-clause-heap : goal.returns-in-Some-clause-heap
returns-in-Some-clause-heap g c =
    let closed = c.close.ensures in
    let ran = c.work_all-passes.ensures in
    replay_of c.args.settings.now c.args.files.items c.requires.files c.close.result c.in-Ok.heap closed.site _ c.as_slice.ensures.value
    c.in-Ok.ensures.heap closed.whole _ ran.all closed.passes closed.held

pub returns-in-Some-clause-report : goal.returns-in-Some-clause-report
returns-in-Some-clause-report g c =
    let closed = c.close.ensures in
    let ran = c.work_all-passes.ensures in
    tells_of c.args.settings.now _ c.close.result.history c.in-Some.came.items _ c.conclude.ensures.report
    (come_to c.args.settings.now c.args.files.items c.requires.files c.close.result c.in-Ok.heap closed.site _ c.as_slice.ensures.value
    c.in-Ok.ensures.heap closed.whole _ ran.all closed.passes _ c.as_slice-2.ensures.value c.in-Ok.passes.items _
    c.in-Some.came c.in-Some.is ran.worked)

pub returns-in-Some-clause-full : goal.returns-in-Some-clause-full
returns-in-Some-clause-full g c =
    let closed = c.close.ensures in
    let ran = c.work_all-passes.ensures in
    full_of c.args.settings.now _ c.close.result.history c.in-Some.came.items _ c.conclude.ensures.full
    (come_to c.args.settings.now c.args.files.items c.requires.files c.close.result c.in-Ok.heap closed.site _ c.as_slice.ensures.value
    c.in-Ok.ensures.heap closed.whole _ ran.all closed.passes _ c.as_slice-2.ensures.value c.in-Ok.passes.items _
    c.in-Some.came c.in-Some.is ran.worked)

pub returns-in-Some-clause-first : goal.returns-in-Some-clause-first
returns-in-Some-clause-first g c =
    let closed = c.close.ensures in
    let ran = c.work_all-passes.ensures in
    first_at c.args.settings.now c.args.files.items c.requires.files c.close.result c.in-Ok.heap closed.site _ c.as_slice.ensures.value
    c.in-Ok.ensures.heap closed.whole _ ran.all closed.passes _ c.as_slice-2.ensures.value c.in-Ok.passes.items _
    c.in-Some.came c.in-Some.is ran.worked _ c.conclude.ensures.stalled

pub returns-clause-heap : goal.returns-clause-heap
returns-clause-heap g c =
    let closed = c.close.ensures in
    let ran = c.work_all-passes.ensures in
    replay_of c.args.settings.now c.args.files.items c.requires.files c.close.result c.in-Ok.heap closed.site _ c.as_slice.ensures.value
    c.in-Ok.ensures.heap closed.whole _ ran.all closed.passes closed.held
