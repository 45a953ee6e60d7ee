-- Lists of steps.
use Rattle.std.specs.Prelude.{◌≡◌, ◌≢◌, ℕ, ◌⊎◌, List, [], ◌∷◌, Some, slice_get, take}
use Rattle.hm_core.specs.declared.step.Step.{Step}
use Rattle.hm_core.specs.declared.step.StepRefused.{StepRefused}
use Rattle.hm_core.specs.declared.step.StepRefused.TheVariants.{Memory}
use Rattle.hm_core.specs.Firsts.{IsFreshMachine}
use Rattle.hm_core.specs.Running.{Moment, site_of}
use Rattle.hm_core.specs.Taking.{IsAdmitted, IsRefusedFor, Takes}

-- a step is refused for a condition that fails, and then changes nothing
pub record IsRefused (m : Moment) (step : Step) (n : Moment) : Type 0 where
  pub why : StepRefused
  pub condition : why ≢ Memory
  pub refused : IsRefusedFor m step why
  pub unchanged : n ≡ m

-- a step is answered where it is taken or refused
abbrev pub Answers : Moment → Step → Moment → Type 0
Answers m step n = ((word : ℕ) × Takes m step word n) ⊎ IsRefused m step n

-- a machine plays a list of steps by answering one after another
abbrev pub Plays : Moment → List Step → Moment → Type 0
Plays m [] n = n ≡ m
Plays m (step ∷ steps) n = (l : Moment) × Answers m step l × Plays l steps n

-- a machine has played steps up to one that it would take: there was no memory for it
pub record Stops (m : Moment) (steps : List Step) (n : Moment) : Type 0 where
  pub count : ℕ
  pub next : Step
  pub is : slice_get steps count ≡ Some next
  pub before : Plays m (take count steps) n
  pub admitted : IsAdmitted n next

-- a machine has played steps from a fresh one of the same heap on
pub record PlaysFresh (steps : List Step) (n : Moment) : Type 0 where
  pub first : Moment
  pub fresh : IsFreshMachine first
  pub site : site_of n ≡ site_of first
  pub plays : Plays first steps n

-- it has stopped on the way
pub record StopsFresh (steps : List Step) (n : Moment) : Type 0 where
  pub first : Moment
  pub fresh : IsFreshMachine first
  pub site : site_of n ≡ site_of first
  pub stops : Stops first steps n
