-- Packing and unpacking are inverse.
use Rattle.std.proofs.Common.{rules, ◌≡◌, sym, ap, ◌∙◌, length}
use Rattle.hm_moves.proofs.Decoded.{roles_back}
use Rattle.hm_moves.specs.Decoding.{roles_in}
use Rattle.hm_core.proofs.track.roles_in.Goals as goal

pub returns : goal.returns
returns c =
    let wide : length c.in-Some.roles.0 ≡ 8 = search rules in
    sym (roles_back c.in-Some.roles wide) ∙ ap roles_in c.in-Some.ensures.packs
