-- The command of `replay` has its arguments, one behind another.
use Rattle.std.proofs.Common.{◌≡◌, ◌∙◌, ap₂, false, codes}
use Rattle.std.proofs.lemmas.Result.{IfOk-weaker}
use Rattle.clap.specs.Words.{AddsArg, App, Rule, app_of, rule_of, with_rule}
use Rattle.clap.specs.declared.builder.arg.Arg.{Arg}
use Rattle.clap.specs.declared.builder.command.Command.{Command}
use Rattle.hm_words.specs.Commands.{high, low, max_quantity, option_of, required_words, versions}
use Rattle.hm_words.proofs.commands.replay_command.Goals as goal

-- one more argument
with_one : (old new : Command) (arg : Arg) (app : App) (rule : Rule) → AddsArg old arg new
    → arg.global ≡ false
    → app_of old ≡ app → rule_of arg ≡ rule → app_of new ≡ with_rule app rule
with_one old new arg app rule added local is same = added.shape local ∙ ap₂ with_rule is same

pub returns : goal.returns
returns c =
    let first = with_one _ _ _ _
    (option_of versions) c.in_ok-arg.ensures c.versions_option.ensures.local
    c.plain_command.ensures c.versions_option.ensures.rule in
    let second = with_one _ _ _ _
    (option_of max_quantity) c.in_ok-arg-2.ensures c.order_option.ensures.local first
    c.order_option.ensures.rule in
    let third = with_one _ _ _ _
    (option_of low) c.in_ok-arg-3.ensures c.order_option-2.ensures.local second
    c.order_option-2.ensures.rule in
    let fourth = with_one _ _ _ _
    (option_of high) c.in_ok-arg-4.ensures c.order_option-3.ensures.local third
    c.order_option-3.ensures.rule in
    IfOk-weaker c.arg-5.result _ _
    (λ new added. with_one _ new _ _
    (required_words (codes "FILE")) added c.required_words.ensures.local fourth
    c.required_words.ensures.rule) c.arg-5.ensures
