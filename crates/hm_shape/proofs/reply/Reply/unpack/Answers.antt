-- The reply of the word packs to it.
use Rattle.std.proofs.Common.{◌≡◌, arith, rules}
use Rattle.std.proofs.lemmas.Grind.{common_steps}
use Rattle.hm_shape.specs.declared.reply.Reply.{Reply}
use Rattle.hm_shape.specs.Words.{IsReply, reply_word}
use Rattle.hm_shape.proofs.reply.Reply.unpack.Goals as goal

pub returns-clause-exact : goal.returns-clause-exact
returns-clause-exact c =
    let found : Reply = record { number = c.in_ok-number.number; kind = c.in_ok-kind.kind } in
    let fits : IsReply found = search rules in
    let packs : reply_word found ≡ c.args.word = grind (arith, common_steps) in
    (λ e. cc, λ never. absurd (never found fits packs))
