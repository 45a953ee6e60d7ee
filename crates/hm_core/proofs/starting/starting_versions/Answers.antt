-- The side objects are added one after another, then the common object.
use Rattle.std.proofs.Common.{◌≡◌, ◌∷◌, [], List, length, rules}
use Rattle.hm_core.proofs.Words.{Refs, Known}
use Rattle.hm_moves.proofs.FirstWords.{four_sides}
use Rattle.hm_core.proofs.FirstVersions.{AreAdded, all_added, none_added, one_added}
use Rattle.hm_core.proofs.starting.starting_versions.Goals as goal

pub returns : goal.returns
returns c =
    let after : List Known = c.add_side-4.new.firsts.items in
    let four : length c.args.start.sides ≡ 4 = search rules in
    let names : Refs =
    c.in_ok-add_side.field-0 ∷ c.in_ok-add_side-2.field-0 ∷ c.in_ok-add_side-3.field-0
    ∷ c.in_ok-add_side-4.field-0 ∷ [] in
    let sides : AreAdded [] c.args.start.sides names after =
    rw (four_sides c.args.start.sides four)
    (one_added [] _ _ _ _ _ after
    (rw c.in_ok-firsts.ensures.items at c.in_ok-add_side.ensures.added)
    (one_added _ _ _ _ _ _ after c.in_ok-add_side-2.ensures.added
    (one_added _ _ _ _ _ _ after c.in_ok-add_side-3.ensures.added
    (one_added _ _ _ _ _ _ after c.in_ok-add_side-4.ensures.added (none_added after))))) in
    all_added c.args.start names after c.push.new.self.items c.starting_version-common.result
    c.len.result sides (search rules) (search rules) c.in_ok-push.ensures.items
