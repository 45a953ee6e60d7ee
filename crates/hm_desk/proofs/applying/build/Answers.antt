-- Whatever the attempt answers, cells were built and nothing else was done.
use Rattle.std.proofs.Common.{◌∙◌, arith}
use Rattle.hm_cellbook.proofs.Fetching.{fetched_board, fetched_book}
use Rattle.hm_desk.proofs.Quiet.{desk_goes, quiet_builds}
use Rattle.hm_desk.proofs.Attempting.{build_outside, build_ready}
use Rattle.hm_desk.proofs.applying.build.Goals as goal

pub returns-clause-desk : goal.returns-clause-desk
returns-clause-desk g c =
    let fetched = fetched_book _ _ c.requires.fetched in
    let made = c.cell_apply.ensures in
    let built = made.builds fetched.0 fetched.1 in
    desk_goes _ _ _ c.requires.desk built.goes
    (build_outside _ _ c.cell_apply.result c.requires.desk made.names made.beyond made.unset made.places)

pub returns-clause-quiet : goal.returns-clause-quiet
returns-clause-quiet g c =
    let fetched = fetched_book _ _ c.requires.fetched in
    quiet_builds _ _ _ (c.cell_apply.ensures.builds fetched.0 fetched.1)

pub returns-clause-ready : goal.returns-clause-ready
returns-clause-ready g c =
    let fetched = fetched_book _ _ c.requires.fetched in
    let made = c.cell_apply.ensures in
    build_ready _ _ _ c.requires.fetched _ (made.builds fetched.0 fetched.1) _ c.cell_apply.result c.requires.file
    made.applies made.tells made.set made.allowed

pub returns-clause-board : goal.returns-clause-board
returns-clause-board g c =
    c.cell_apply.ensures.names 7 (omega arith) ∙ fetched_board _ _ c.requires.fetched
