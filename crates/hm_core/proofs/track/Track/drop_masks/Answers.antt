-- Of no caller is a mask left.
use Rattle.std.proofs.Common.{rules, ◌≡◌, ℕ, List, Option, None, false, length, map, replicate, sym, ap, ◌∙◌}
use Rattle.std.specs.Prelude.{vec_len}
use Rattle.hm_shape.specs.declared.roles.Roles.{Roles}
use Rattle.hm_core.specs.contracts.track.Track.{the_view}
use Rattle.hm_core.specs.Hands.{cycle_unmasked}
use Rattle.hm_core.proofs.Tracks.{map_none}
use Rattle.hm_core.proofs.track.Track.drop_masks.Goals as goal

pub returns : goal.returns
returns c =
    let v = the_view c.self.inside in
    let masks = c.self.inside.masks.items in
    let many : vec_len c.self.inside.masks ≡ length masks = search rules in
    let none : c.fill.new.self.items ≡ map (λ m. None) masks =
    c.fill.ensures.items (search rules)
    ∙ (ap (λ (n : ℕ). replicate n None) many ∙ sym (map_none masks)) in
    ap (λ (l : List (Option Roles)). record v {
      scan = record v.scan { masks = l; cursor = 0; bare = false; met = None };
    }) none ∙ ap cycle_unmasked c.self.view_is
