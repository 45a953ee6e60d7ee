use Rattle.std.proofs.Common.{◌∙◌, Some, ap, not, subst, sym}
use Rattle.hm_moves.specs.declared.moving.Tick.TheVariants.{StoreReply}
use Rattle.hm_moves.specs.Showing.{word_of_reply}
use Rattle.hm_cells.specs.Calls.{MayReplySo, replying}
use Rattle.hm_cycle.specs.Standing.{standing_of}
use Rattle.hm_cycle.proofs.Heard.{tick_keeps, tick_sight, tick_standing}
use Rattle.hm_cycle.proofs.Replied.{mark_kept, may_reply}
use Rattle.hm_cycle.proofs.replying.reply.Goals as goal

pub store_reply-requires-clause-may : goal.store_reply-requires-clause-may
store_reply-requires-clause-may g c =
    subst (MayReplySo c.args.pass.now) (sym c.kind_of.ensures)
    (may_reply c.args.pass.now c.requires.may g.U.Usage.lawful g.U.Usage.allowed c.a_pass_is_sound.ensures _ (ap not c.marked-clean.ensures))

pub returns-clause-reply : goal.returns-clause-reply
returns-clause-reply g c =
    let s = c.args.pass.now in
    let r = replying s c.kind_of.result in
    tick_standing g.U.Usage.lawful g.U.Usage.allowed s c.store_reply.new.pass (StoreReply r) (word_of_reply (Some r))
    c.store_reply.ensures.took
    ∙ (λ i. record (standing_of s) {
      reply = Some (replying s (c.kind_of.ensures i));
      mark = mark_kept s c.requires.may i;
    })

pub returns-clause-sight : goal.returns-clause-sight
returns-clause-sight g c =
    let r = replying c.args.pass.now c.kind_of.result in
    tick_sight g.U.Usage.lawful g.U.Usage.allowed c.args.pass.now c.store_reply.new.pass (StoreReply r)
    (word_of_reply (Some r)) c.store_reply.ensures.took

pub returns-clause-keeps : goal.returns-clause-keeps
returns-clause-keeps g c =
    let r = replying c.args.pass.now c.kind_of.result in
    tick_keeps g.U.Usage.lawful g.U.Usage.allowed c.args.pass.now c.store_reply.new.pass (StoreReply r)
    (word_of_reply (Some r)) c.store_reply.ensures.took c.store_reply.ensures.sound
