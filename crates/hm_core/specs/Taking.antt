-- What a step makes of the running machine, and why one is refused.
use Rattle.std.specs.Prelude.{◌≡◌, ℕ, ◌<◌, [], Option, IfSome, option_and_then, slice_index, Some}
use Rattle.hm_shape.specs.declared.version.Version.{Version}
use Rattle.hm_model.specs.declared.usage.AnyUsage.{AnyUsage}
use Rattle.hm_moves.specs.declared.part.Known.{Known}
use Rattle.hm_moves.specs.declared.part.View.{View}
use Rattle.hm_moves.specs.declared.moving.Act.{Act}
use Rattle.hm_moves.specs.Acts.{word_of}
use Rattle.hm_moves.specs.After.{view_letting}
use Rattle.hm_moves.specs.Good.{Core, applied, released, split, joined}
use Rattle.hm_core.specs.declared.step.Step.{Step}
use Rattle.hm_core.specs.declared.step.StepKind.{StepKind}
use Rattle.hm_core.specs.declared.step.StepKind.TheVariants.{StoreOwn, Publish, Split, Meet, StoreReply, StoreRoles, Shorten}
use Rattle.hm_core.specs.declared.step.StepRefused.{StepRefused}
use Rattle.hm_core.specs.declared.step.StepRefused.TheVariants as refused
use Rattle.hm_core.specs.Stepping.{seat_of, act_of, scan_of, IsAwake, HasSeat, HoldsWhatItNeeds, IsHeld, MayHoldMore, HasPlace, HasWords, Fits, MayMove, MayAnswer, MayRole, IsFurther}
use Rattle.hm_core.specs.Running.{Moment, core_of, own_part, own_view, index_of}

-- what a step lets go of is known by its number
abbrev pub let_go_of : Moment → Option Version → Option Known
let_go_of m let_go = option_and_then (λ v. index_of m.known v.0) let_go

-- a load or an exchange answers the word that it found, and every other kind 0
abbrev pub answer_of : StepKind → ℕ → ℕ
answer_of (StoreOwn i word) x = 0
answer_of (Publish entry) x = 0
answer_of Split x = 0
answer_of (Meet other) x = 0
answer_of (StoreReply kind) x = 0
answer_of (StoreRoles roles) x = 0
answer_of (Shorten v i u) x = 0
answer_of kind x = x

-- a step that is an act moves its word
pub record Moves (m n : Moment) (step : Step) (word : ℕ) : Type 0 where
  pub act : Act
  pub is : act_of (index_of m.known) (own_part m step.caller) step.kind ≡ Some act
  pub now : core_of n
      ≡ applied (core_of m) step.caller 0 (own_view m step.caller) (own_part m step.caller)
      record { act = act; scan = scan_of step.kind; let_go = let_go_of m step.let_go }
  pub answer : word
      ≡ answer_of step.kind (slice_index m.words (word_of (own_part m step.caller) act))

-- the state once a caller let go of a version
abbrev pub core_letting : Moment → ℕ → Option Known → Core AnyUsage
core_letting m q let_go = released (core_of m) q 0 (own_view m q) (own_part m q) let_go

-- and its seat
abbrev pub seat_letting : Moment → ℕ → Option Known → View AnyUsage
seat_letting m q let_go = view_letting (own_view m q) 0 (own_part m q) let_go

-- a caller's seat is split, with all callers where they are, and a note behind all seats
abbrev pub split_off : Moment → ℕ → Option Known → Core AnyUsage
split_off m q let_go =
    split (core_letting m q let_go) q (seat_letting m q let_go) (seat_letting m q let_go).parts []

-- another seat is joined to it
abbrev pub joined_to : Moment → ℕ → Option Known → ℕ → Core AnyUsage
joined_to m q let_go other =
    joined (core_letting m q let_go) q (seat_letting m q let_go) other (own_view m other)

-- a step that is no act lets go, and then leaves this, and answers 0
pub record Leaves (c : Core AnyUsage) (n : Moment) (word : ℕ) : Type 0 where
  pub now : core_of n ≡ c
  pub answer : word ≡ 0

-- what becomes of the machine by a kind, and what the step answers
abbrev pub Becomes : Moment → Moment → Step → ℕ → StepKind → Type 0
Becomes m n step word Split = Leaves (split_off m step.caller (let_go_of m step.let_go)) n word
Becomes m n step word (Meet other) =
    Leaves
    (joined_to m step.caller (let_go_of m step.let_go) (seat_of m.shape.callers other)) n word
Becomes m n step word kind = Moves m n step word

-- the conditions on the cycle: of stage, reply and roles, and of what is copied or shortened
pub record AreFurtherMet (m : Moment) (q : ℕ) (kind : StepKind) : Type 0 where
  pub stage : MayMove (own_part m q) kind
  pub reply : MayAnswer (core_of m) (own_part m q) kind
  pub roles : MayRole (own_part m q) kind
  pub later : IsFurther (core_of m) (own_part m q) kind

-- the first of them that fails
abbrev pub IsFurtherRefusedFor : Moment → ℕ → StepKind → StepRefused → Type 0
IsFurtherRefusedFor m q kind refused.Stage = ¬ MayMove (own_part m q) kind
IsFurtherRefusedFor m q kind refused.Reply =
    MayMove (own_part m q) kind × ¬ MayAnswer (core_of m) (own_part m q) kind
IsFurtherRefusedFor m q kind refused.Roles =
    MayMove (own_part m q) kind × MayAnswer (core_of m) (own_part m q) kind
    × ¬ MayRole (own_part m q) kind
IsFurtherRefusedFor m q kind refused.Later =
    MayMove (own_part m q) kind × MayAnswer (core_of m) (own_part m q) kind
    × MayRole (own_part m q) kind × ¬ IsFurther (core_of m) (own_part m q) kind
IsFurtherRefusedFor m q kind e = ⊥

-- the refusals in the order in which their conditions are tested
abbrev pub order_of : StepRefused → ℕ
order_of refused.Caller = 0
order_of refused.Held = 1
order_of refused.Holds = 2
order_of refused.Place = 3
order_of refused.Words = 4
order_of refused.Change = 5
order_of refused.Stage = 6
order_of refused.Reply = 7
order_of refused.Roles = 8
order_of refused.Later = 9
order_of refused.Memory = 10

-- a step that is not refused needs these conditions; for memory it may always be refused
abbrev pub Condition : Moment → Step → StepRefused → Type 0
Condition m step refused.Caller =
    IsAwake (core_of m) step.caller (own_view m step.caller) (own_part m step.caller)
    × HasSeat (core_of m) m.shape.callers step.caller step.kind
Condition m step refused.Held =
    HoldsWhatItNeeds (own_part m step.caller) step.kind
    × IfSome step.let_go (IsHeld (own_part m step.caller))
Condition m step refused.Holds = MayHoldMore (own_part m step.caller) step.kind
Condition m step refused.Place = HasPlace (own_part m step.caller) step.kind
Condition m step refused.Words = HasWords (own_part m step.caller) step.kind
Condition m step refused.Change = Fits (core_of m) (own_part m step.caller) step.kind
Condition m step refused.Stage = MayMove (own_part m step.caller) step.kind
Condition m step refused.Reply = MayAnswer (core_of m) (own_part m step.caller) step.kind
Condition m step refused.Roles = MayRole (own_part m step.caller) step.kind
Condition m step refused.Later = IsFurther (core_of m) (own_part m step.caller) step.kind
Condition m step refused.Memory = ⊥

-- the conditions that are tested before that of a refusal hold
abbrev pub AreMetBefore : Moment → Step → StepRefused → Type 0
AreMetBefore m step e = (r : StepRefused) → order_of r < order_of e → Condition m step r

-- a step is accepted where all conditions hold before memory is asked for
abbrev pub IsAdmitted : Moment → Step → Type 0
IsAdmitted m step = AreMetBefore m step refused.Memory

-- a step that is taken was accepted, leaves what its kind makes, and answers this word
pub record Takes (m : Moment) (step : Step) (word : ℕ) (n : Moment) : Type 0 where
  pub admitted : IsAdmitted m step
  pub becomes : Becomes m n step word step.kind

-- a step is refused for the first of the conditions that fails
pub record IsRefusedFor (m : Moment) (step : Step) (e : StepRefused) : Type 0 where
  pub before : AreMetBefore m step e
  pub fails : ¬ Condition m step e
