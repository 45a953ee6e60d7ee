use Rattle.std.proofs.Common.{◌≡◌, ◌∙◌, List, Option, None, ap, get_or, subst}
use Rattle.hm_shape.specs.declared.version.Version.{Version}
use Rattle.hm_model.specs.declared.root.Snapshot.{Snapshot}
use Rattle.hm_model.specs.Sight.{Rests, Sight}
use Rattle.hm_model.proofs.SightFacts.{continues_enters, continues_rests, continues_then}
use Rattle.hm_cells.specs.Facts.{sight_of}
use Rattle.hm_ops.proofs.Fetches.{fetches_all}
use Rattle.hm_ops.proofs.CopiedBehind.{all_behind, continues_behind}
use Rattle.hm_ops.proofs.fetching.fetch.Goals as goal

pub returns-clause-fetched : goal.returns-clause-fetched
returns-clause-fetched g c =
    let at = c.walk-at in
    let stamp = c.read_stamp-stamp in
    let numbers = c.read_numbers-numbers in
    let set = c.read_references-set in
    let same : sight_of numbers.new.pass ≡ sight_of at.new.pass = numbers.ensures.reads.same ∙ stamp.ensures.reads.same in
    let result : Snapshot = record { stamp = stamp.result; numbers = numbers.result; set = set.result } in
    all_behind g.U.Usage.lawful g.U.Usage.allowed (sight_of c.args.pass.now) set.new.pass c.copy_behind.new.pass
    c.copy_behind.ensures.copies
    (set.ensures.same.room ∙ (ap (λ (x : Sight g.row.U.Denot). x.room) same ∙ at.ensures.room))
    (set.ensures.same.untended.copying ∙ (ap (λ (x : Sight g.row.U.Denot). x.copying) same ∙ at.ensures.untended.copying))
    c.args.from c.args.hand result
    (fetches_all g.U.Usage.lawful g.U.Usage.allowed c.args.cells.now c.args.pass.now at.new.pass
    stamp.new.pass numbers.new.pass set.new.pass c.args.from c.args.hand at.result at.ensures
    stamp.ensures.reads numbers.ensures.reads set.ensures.names set.ensures.same stamp.result
    numbers.result set.result stamp.ensures.value numbers.ensures.value set.ensures.value)

pub returns-clause-same : goal.returns-clause-same
returns-clause-same g c =
    let L = g.U.Usage.lawful in
    let A = g.U.Usage.allowed in
    let at = c.walk-at in
    let stamp = c.read_stamp-stamp in
    let numbers = c.read_numbers-numbers in
    let set = c.read_references-set in
    continues_then L A (sight_of c.args.pass.now) (sight_of at.new.pass) (sight_of c.copy_behind.new.pass)
    (continues_enters L A (sight_of c.args.pass.now) (sight_of at.new.pass)
    _ at.ensures.fetch.entry at.ensures.untended)
    (continues_then L A (sight_of at.new.pass) (sight_of set.new.pass) (sight_of c.copy_behind.new.pass)
    (continues_rests L A (sight_of at.new.pass) (sight_of set.new.pass)
    (subst (λ (d : Sight g.row.U.Denot). Rests d (sight_of set.new.pass))
    (numbers.ensures.reads.same ∙ stamp.ensures.reads.same) set.ensures.same))
    (continues_behind L A (sight_of c.args.pass.now) set.new.pass c.copy_behind.new.pass c.copy_behind.ensures.copies))

pub copy_behind-requires-clause-place : goal.copy_behind-requires-clause-place
copy_behind-requires-clause-place g c =
    c.read_references-set.ensures.places c.args.from c.requires.outside
    ∙ (ap (λ (l : List (Option Version)). get_or l c.args.from.0 None)
    (c.read_numbers-numbers.ensures.reads.roots ∙ c.read_stamp-stamp.ensures.reads.roots) ∙ c.walk-at.ensures.place)
