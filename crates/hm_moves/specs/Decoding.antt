-- What the words of stage, replies and roles say.
use Rattle.std.specs.Prelude.{ℕ, zero, suc, ◌+◌, ◌*◌, ◌/◌, ◌%◌, ◌^◌, List, [], ◌∷◌, Option, Some, None}
use Rattle.std.specs.Option.{option_map}
use Rattle.hm_shape.specs.declared.reply.Reply.{Reply}
use Rattle.hm_shape.specs.declared.reply.ReplyKind.{ReplyKind}
use Rattle.hm_shape.specs.declared.reply.ReplyKind.TheVariants.{Joined, Clean, Dirty}
use Rattle.hm_shape.specs.declared.roles.Role.{Role}
use Rattle.hm_shape.specs.declared.roles.Role.TheVariants.{Free, To, Old, From}
use Rattle.hm_shape.specs.declared.roles.Roles.{Roles}
use Rattle.hm_shape.specs.declared.stage.Phase.{Phase}
use Rattle.hm_shape.specs.declared.stage.Phase.TheVariants.{Idle, Join, First, Second}
use Rattle.hm_shape.specs.declared.stage.Stage.{Stage}
use Rattle.hm_shape.specs.Words.{phase_number}
use Rattle.hm_moves.specs.declared.part.Seen.{Seen}

-- a stage as a caller sees it
abbrev pub seen_of : Stage → Seen
seen_of stage = record { number = stage.number; done = stage.done; phase = stage.phase }

-- the word of a stage
abbrev pub seen_word : Seen → ℕ
seen_word stage = stage.number * 2 ^ 32 + stage.done * 4 + phase_number stage.phase

-- a phase has a number, in the order of a cycle
abbrev pub phase_of : ℕ → Phase
phase_of zero = Idle
phase_of (suc zero) = Join
phase_of (suc (suc zero)) = First
phase_of (suc (suc (suc n))) = Second

-- a word of the stage says its number, how many cycles are done, and its phase
abbrev pub stage_in : ℕ → Seen
stage_in w = record {
  number = w / 2 ^ 32;
  done = w % 2 ^ 32 / 4;
  phase = phase_of (w % 4);
}

-- a kind of reply has a number from 1 on
abbrev pub kind_of : ℕ → Option ReplyKind
kind_of zero = None
kind_of (suc zero) = Some Joined
kind_of (suc (suc zero)) = Some Clean
kind_of (suc (suc (suc n))) = Some Dirty

-- a word of a reply says the number of the stage that it replies to, and its kind; 0 is no reply
abbrev pub reply_in : ℕ → Option Reply
reply_in w = option_map (λ kind. record { number = w / 4; kind = kind }) (kind_of (w % 4))

-- a role has a number
abbrev pub role_of : ℕ → Role
role_of zero = Free
role_of (suc zero) = To
role_of (suc (suc zero)) = Old
role_of (suc (suc (suc n))) = From

-- the first digits of a number in base 4 say the roles of so many regions
abbrev pub digit_roles : ℕ → ℕ → List Role
digit_roles zero w = []
digit_roles (suc n) w = role_of (w % 4) ∷ digit_roles n (w / 4)

-- a word of roles says the roles of eight regions
abbrev pub roles_in : ℕ → Roles
roles_in w = record { 0 = digit_roles 8 w }
