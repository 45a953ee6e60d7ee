use Rattle.hm_cells.specs.Facts.{sight_of}
use Rattle.hm_moves.specs.Allowed.{free_count}
use Rattle.hm_ops.proofs.Counts.{continues_from, creates_from, still_creates}
use Rattle.hm_ops.proofs.Creates.{create_ends, may_publish}
use Rattle.hm_ops.proofs.creating.create.Goals as goal

pub publish-made-requires-clause-allowed : goal.publish-made-requires-clause-allowed
publish-made-requires-clause-allowed g c =
    let p = c.make_place.new.pass in
    may_publish g.U.Usage.lawful g.U.Usage.allowed p c.draft.new.pass c.args.refs c.args.numbers
    c.draft.ensures.drafts
    (still_creates g.U.Usage.lawful g.U.Usage.allowed (sight_of c.args.pass.now) p.part.draft.used
    (free_count p.part) (sight_of p) c.make_place.ensures.makes.sight c.args.refs c.args.numbers
    c.requires.allowed)

pub settle-requires-clause-hand : goal.settle-requires-clause-hand
settle-requires-clause-hand g c =
    (create_ends g.U.Usage.lawful g.U.Usage.allowed c.make_place.new.pass c.draft.new.pass c.args.refs
    c.args.numbers c.draft.ensures.drafts c.args.cells.now c.publish-made.new.pass c.args.into
    c.publish-made.result c.draft.ensures.keeps c.publish-made.ensures.sound c.publish-made.ensures.took
    c.publish-made.ensures.version c.make_place.ensures.room).hand

pub returns-clause-created : goal.returns-clause-created
returns-clause-created g c =
    let p = c.make_place.new.pass in
    creates_from g.U.Usage.lawful g.U.Usage.allowed (sight_of c.args.pass.now) p.part.draft.used
    (free_count p.part) (sight_of p) c.make_place.ensures.makes.sight (sight_of c.settle.new.pass) c.args.into
    c.args.refs c.args.numbers
    ((create_ends g.U.Usage.lawful g.U.Usage.allowed p c.draft.new.pass c.args.refs
    c.args.numbers c.draft.ensures.drafts c.args.cells.now c.publish-made.new.pass c.args.into
    c.publish-made.result c.draft.ensures.keeps c.publish-made.ensures.sound c.publish-made.ensures.took
    c.publish-made.ensures.version c.make_place.ensures.room).then c.settle.new.pass c.settle.ensures).0

pub returns-clause-keeps : goal.returns-clause-keeps
returns-clause-keeps g c =
    ((create_ends g.U.Usage.lawful g.U.Usage.allowed c.make_place.new.pass c.draft.new.pass c.args.refs
    c.args.numbers c.draft.ensures.drafts c.args.cells.now c.publish-made.new.pass c.args.into
    c.publish-made.result c.draft.ensures.keeps c.publish-made.ensures.sound c.publish-made.ensures.took
    c.publish-made.ensures.version c.make_place.ensures.room).then c.settle.new.pass c.settle.ensures).1

pub returns-clause-same : goal.returns-clause-same
returns-clause-same g c =
    let p = c.make_place.new.pass in
    continues_from g.U.Usage.lawful g.U.Usage.allowed (sight_of c.args.pass.now) p.part.draft.used
    (free_count p.part) (sight_of p) c.make_place.ensures.makes.sight (sight_of c.settle.new.pass)
    ((create_ends g.U.Usage.lawful g.U.Usage.allowed p c.draft.new.pass c.args.refs
    c.args.numbers c.draft.ensures.drafts c.args.cells.now c.publish-made.new.pass c.args.into
    c.publish-made.result c.draft.ensures.keeps c.publish-made.ensures.sound c.publish-made.ensures.took
    c.publish-made.ensures.version c.make_place.ensures.room).then c.settle.new.pass c.settle.ensures).2
