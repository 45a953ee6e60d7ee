use Rattle.hm_moves.specs.Allowed.{free_count}
use Rattle.hm_cells.specs.Facts.{sight_of}
use Rattle.hm_ops.proofs.Counts.{finds_changed_from, still_replaces, stores_all_from}
use Rattle.hm_ops.proofs.replacing.store_if.Goals as goal

pub replace_placed-requires-clause-allowed : goal.replace_placed-requires-clause-allowed
replace_placed-requires-clause-allowed g c =
    let p = c.make_place.new.pass in
    still_replaces g.U.Usage.lawful g.U.Usage.allowed (sight_of c.args.pass.now) p.part.draft.used
    (free_count p.part) (sight_of p) c.make_place.ensures.makes.sight c.args.at c.args.stamp c.args.refs
    c.args.numbers c.requires.allowed

pub returns-in-None-clause-stored : goal.returns-in-None-clause-stored
returns-in-None-clause-stored g c =
    let p = c.make_place.new.pass in
    stores_all_from g.U.Usage.lawful g.U.Usage.allowed (sight_of c.args.pass.now) p.part.draft.used
    (free_count p.part) (sight_of p) c.make_place.ensures.makes.sight (sight_of c.replace_placed.new.pass)
    c.args.at c.args.stamp c.args.refs c.args.numbers c.in-None.ensures.stored

pub returns-in-Some-clause-changed : goal.returns-in-Some-clause-changed
returns-in-Some-clause-changed g c =
    let p = c.make_place.new.pass in
    finds_changed_from g.U.Usage.lawful g.U.Usage.allowed (sight_of c.args.pass.now) p.part.draft.used
    (free_count p.part) (sight_of p) c.make_place.ensures.makes.sight (sight_of c.replace_placed.new.pass)
    c.args.at c.args.stamp c.args.refs c.args.numbers c.in-Some.found c.in-Some.ensures.changed
