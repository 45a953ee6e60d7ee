-- The words of a heap's Table: which word holds what, and how what it holds is packed.
use Rattle.std.specs.Prelude.{◌≡◌, ℕ, ◌+◌, ◌*◌, ◌^◌, ◌<◌, Option, None, Some, length, sum_by}
use Rattle.std.specs.List.{enumerate_from}
use Rattle.hm_shape.specs.declared.shape.Shape.{Shape}
use Rattle.hm_shape.specs.declared.version.Version.{Version}
use Rattle.hm_shape.specs.declared.stage.Stage.{Stage}
use Rattle.hm_shape.specs.declared.stage.Phase.{Phase}
use Rattle.hm_shape.specs.declared.stage.Phase.TheVariants.{Idle, Join, First, Second}
use Rattle.hm_shape.specs.declared.reply.Reply.{Reply}
use Rattle.hm_shape.specs.declared.reply.ReplyKind.{ReplyKind}
use Rattle.hm_shape.specs.declared.reply.ReplyKind.TheVariants.{Joined, Clean, Dirty}
use Rattle.hm_shape.specs.declared.roles.Roles.{Roles}
use Rattle.hm_shape.specs.declared.roles.Role.{Role}
use Rattle.hm_shape.specs.declared.roles.Role.TheVariants.{Free, To, Old, From}
use Rattle.hm_shape.specs.Versions.{version_count}
use Rattle.hm_shape.specs.Layout.{version_words}

-- the first word holds the stage
abbrev pub stage_at : ℕ
stage_at = 0

-- behind it a word for each caller holds its reply
abbrev pub reply_at : ℕ → ℕ
reply_at caller = stage_at + 1 + caller

-- behind the replies a word for each caller holds the roles of its regions
abbrev pub roles_at : Shape → ℕ → ℕ
roles_at shape caller = stage_at + 1 + shape.callers + caller

-- behind the roles come the versions, 16 words each
abbrev pub word_at : Shape → Version → ℕ → ℕ
word_at shape version i = 2 * shape.callers + 1 + version_words * version.0 + i

-- the last version's words are the last of the Table
abbrev pub word_count : Shape → ℕ
word_count shape = 2 * shape.callers + 1 + version_words * version_count shape

-- a word that names a version is one more than the version's number, and 0 names none
abbrev pub naming_word : Option Version → ℕ
naming_word None = 0
naming_word (Some version) = version.0 + 1

-- the phases are numbered in the order of a cycle
abbrev pub phase_number : Phase → ℕ
phase_number Idle = 0
phase_number Join = 1
phase_number First = 2
phase_number Second = 3

-- the word of a stage has its number above 32 bits, and in these the done count above the phase
abbrev pub stage_word : Stage → ℕ
stage_word stage = stage.number * 2 ^ 32 + stage.done * 4 + phase_number stage.phase

-- the kinds of reply are numbered from 1 on, so that 0 is no reply
abbrev pub kind_number : ReplyKind → ℕ
kind_number Joined = 1
kind_number Clean = 2
kind_number Dirty = 3

-- the word of a reply has the number of the stage that it answers above its kind
abbrev pub reply_word : Reply → ℕ
reply_word reply = 4 * reply.number + kind_number reply.kind

-- a reply that there can be has a number of 32 bits
abbrev pub IsReply : Reply → Type 0
IsReply reply = reply.number < 2 ^ 32

-- the roles are numbered in the order in which a region takes them
abbrev pub role_number : Role → ℕ
role_number Free = 0
role_number To = 1
role_number Old = 2
role_number From = 3

-- the word of roles is the sum of each role's number times 4 to the power of its region
abbrev pub roles_word : Roles → ℕ
roles_word roles =
    sum_by (λ numbered. role_number numbered.1 * 4 ^ numbered.0) (enumerate_from 0 roles.0)

-- roles that there can be are those of eight regions
abbrev pub IsRoles : Roles → Type 0
IsRoles roles = length roles.0 ≡ 8
