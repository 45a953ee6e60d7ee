use Rattle.std.proofs.Common.{◌≡◌, ◌∙◌, rules, sym, subst}
use Rattle.hm_ops.specs.declared.bringing.Search.{Search}
use Rattle.hm_ops.specs.Bringing.{Searches}
use Rattle.hm_ops.proofs.FieldLoads.{kept_look}
use Rattle.hm_ops.proofs.SearchSteps.{end_already, end_comes, end_hand, end_kept, end_no_room, end_there, end_works, kept_version, look_goes, look_works, searches_then}
use Rattle.hm_ops.proofs.bringing.attempt.Goals as goal

pub load_link-requires-clause-look : goal.load_link-requires-clause-look
load_link-requires-clause-look g c =
    kept_look g.U.Usage.lawful g.U.Usage.allowed c.args.cells.now c.args.pass.now c.args.v
    c.requires.works.sound c.requires.kept

pub returns-in-Some-clause-searches : goal.returns-in-Some-clause-searches
returns-in-Some-clause-searches g c =
    look_goes g.U.Usage.lawful g.U.Usage.allowed c.args.cells.now c.args.pass.now c.load_link.new.pass c.args.v c.args.scan c.requires.works c.in-Some.ensures.sound c.requires.kept c.in-Some.next
    c.in-Some.ensures.took

pub returns-in-Some-clause-works : goal.returns-in-Some-clause-works
returns-in-Some-clause-works g c =
    look_works g.U.Usage.lawful g.U.Usage.allowed c.args.cells.now c.args.pass.now c.load_link.new.pass c.args.v c.args.scan c.requires.works c.in-Some.ensures.sound c.requires.kept c.in-Some.next
    c.in-Some.ensures.took c.requires.hand

pub known_from-requires : goal.known_from-requires
known_from-requires g c =
    kept_version g.U.Usage.lawful g.U.Usage.allowed c.args.cells.now c.load_link.new.pass c.args.v
    c.in_default.ensures.sound (end_kept g.U.Usage.lawful g.U.Usage.allowed c.args.cells.now c.args.pass.now c.load_link.new.pass c.args.v c.args.scan
    c.requires.works c.in_default.ensures.sound c.requires.kept c.in_default.ensures.took)

pub returns-then-not-known_from-clause-searches : goal.returns-then-not-known_from-clause-searches
returns-then-not-known_from-clause-searches g c =
    subst (λ (to : Search). Searches c.args.pass.now c.args.v c.args.scan to c.load_link.new.pass)
    (sym c.ends.ensures) (end_already g.U.Usage.lawful g.U.Usage.allowed c.args.cells.now c.args.pass.now c.load_link.new.pass c.args.v c.args.scan
    c.requires.works c.in_default.ensures.sound c.requires.kept c.in_default.ensures.took
    (sym c.if-not-known_from.ensures))

pub returns-then-not-known_from-clause-works : goal.returns-then-not-known_from-clause-works
returns-then-not-known_from-clause-works g c = end_works g.U.Usage.lawful g.U.Usage.allowed c.args.cells.now c.args.pass.now c.load_link.new.pass c.args.v c.args.scan
    c.requires.works c.in_default.ensures.sound c.requires.kept c.in_default.ensures.took

pub returns-then-room-eq0-clause-searches : goal.returns-then-room-eq0-clause-searches
returns-then-room-eq0-clause-searches g c =
    subst (λ (to : Search). Searches c.args.pass.now c.args.v c.args.scan to c.load_link.new.pass)
    (sym c.ends-then-room-eq0.ensures) (end_no_room g.U.Usage.lawful g.U.Usage.allowed c.args.cells.now c.args.pass.now c.load_link.new.pass c.args.v c.args.scan
    c.requires.works c.in_default.ensures.sound c.requires.kept c.in_default.ensures.took
    (sym c.if-not-known_from.ensures) (let none : c.room.result ≡ 0 = search rules in sym c.room.ensures.room ∙ none))

pub returns-then-room-eq0-clause-works : goal.returns-then-room-eq0-clause-works
returns-then-room-eq0-clause-works g c = end_works g.U.Usage.lawful g.U.Usage.allowed c.args.cells.now c.args.pass.now c.load_link.new.pass c.args.v c.args.scan
    c.requires.works c.in_default.ensures.sound c.requires.kept c.in_default.ensures.took

pub hang_copy-requires-clause-works : goal.hang_copy-requires-clause-works
hang_copy-requires-clause-works g c = end_works g.U.Usage.lawful g.U.Usage.allowed c.args.cells.now c.args.pass.now c.load_link.new.pass c.args.v c.args.scan
    c.requires.works c.in_default.ensures.sound c.requires.kept c.in_default.ensures.took

pub hang_copy-requires-clause-kept : goal.hang_copy-requires-clause-kept
hang_copy-requires-clause-kept g c = end_kept g.U.Usage.lawful g.U.Usage.allowed c.args.cells.now c.args.pass.now c.load_link.new.pass c.args.v c.args.scan
    c.requires.works c.in_default.ensures.sound c.requires.kept c.in_default.ensures.took

pub hang_copy-requires-clause-end : goal.hang_copy-requires-clause-end
hang_copy-requires-clause-end g c = end_there g.U.Usage.lawful g.U.Usage.allowed c.args.cells.now c.args.pass.now c.load_link.new.pass c.args.v c.args.scan
    c.requires.works c.in_default.ensures.sound c.requires.kept c.in_default.ensures.took

pub returns-clause-searches : goal.returns-clause-searches
returns-clause-searches g c =
    searches_then g.U.Usage.lawful g.U.Usage.allowed c.args.cells.now c.args.pass.now c.load_link.new.pass
    c.hang_copy.new.pass c.args.v c.args.scan c.requires.kept (end_comes g.U.Usage.lawful g.U.Usage.allowed c.args.cells.now c.args.pass.now c.load_link.new.pass c.args.v c.args.scan
    c.requires.works c.in_default.ensures.sound c.requires.kept c.in_default.ensures.took)
    (end_hand g.U.Usage.lawful g.U.Usage.allowed c.args.cells.now c.args.pass.now c.load_link.new.pass c.args.v c.args.scan
    c.requires.works c.in_default.ensures.sound c.requires.kept c.in_default.ensures.took)
    c.hang_copy.result c.hang_copy.ensures.searches
