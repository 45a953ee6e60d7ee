-- Of no caller is a reply left.
use Rattle.std.proofs.Common.{rules, ◌≡◌, ℕ, List, Option, None, length, map, replicate, sym, ap, ◌∙◌}
use Rattle.std.specs.Prelude.{vec_len}
use Rattle.hm_shape.specs.declared.reply.Reply.{Reply}
use Rattle.hm_core.specs.contracts.track.Track.{the_view}
use Rattle.hm_core.specs.Hands.{cycle_unanswered}
use Rattle.hm_core.proofs.Tracks.{map_none}
use Rattle.hm_core.proofs.track.Track.drop_replies.Goals as goal

pub returns : goal.returns
returns c =
    let v = the_view c.self.inside in
    let replies = c.self.inside.replies.items in
    let many : vec_len c.self.inside.replies ≡ length replies = search rules in
    let none : c.fill.new.self.items ≡ map (λ r. None) replies =
    c.fill.ensures.items (search rules)
    ∙ (ap (λ (n : ℕ). replicate n None) many ∙ sym (map_none replies)) in
    ap (λ (l : List (Option Reply)). record v { clock = record v.clock { replies = l } }) none
    ∙ ap cycle_unanswered c.self.view_is
