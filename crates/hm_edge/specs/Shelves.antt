-- What a read of a shelf appends, what it counts, and why it is refused.
use Rattle.std.specs.Prelude.{◌≡◌, ◌≢◌, ◌↔◌, ℕ, ◌≤◌, List, [], ◌∷◌, ◌++◌, length, Option, IfSome, Result, Ok, Err, ⊤}
use Rattle.std.specs.Option.{option_map}
use Rattle.std.specs.IoError.{error_kind}
use Rattle.std.specs.declared.io.Error.{Error}
use Rattle.std.specs.declared.io.ErrorKind.TheVariants.{OutOfMemory}
use Rattle.hm_edge.specs.declared.shelf.ShelfRefused.{ShelfRefused}
use Rattle.hm_edge.specs.declared.shelf.ShelfRefused.TheVariants.{Failed, Long, Memory}
use Rattle.hm_edge.specs.Faults.{next_count}

-- `new` is `old` and then at most `limit` bytes: those that the shelf tells, where it tells them
pub record Appends (told : Option (List ℕ)) (limit : ℕ) (old new : List ℕ) : Type 0 where
  pub bytes : List ℕ
  pub whole : new ≡ old ++ bytes
  pub within : length bytes ≤ limit
  pub honest : IfSome told (λ content. bytes ≡ content)

-- the names whose reads failed, after one more read: a read that failed adds its name
abbrev pub failed_after : {X : Type 0} → Result X ShelfRefused → List ℕ
    → Option (List (List ℕ)) → Option (List (List ℕ))
failed_after (Err Failed) name names = option_map (λ all. all ++ name ∷ []) names
failed_after (Err Long) name names = names
failed_after (Err Memory) name names = names
failed_after (Ok x) name names = names

-- the count of faults after one more read: a read that failed raises it by one
abbrev pub faults_after : {X : Type 0} → Result X ShelfRefused → ℕ → ℕ
faults_after (Err Failed) faults = next_count faults
faults_after (Err Long) faults = faults
faults_after (Err Memory) faults = faults
faults_after (Ok x) faults = faults

-- the refusal is `Memory` where the error is want of memory, and `Failed` at any other error
pub record IsRefusalFor (error : Error) (refused : ShelfRefused) : Type 0 where
  pub memory : (refused ≡ Memory) ↔ (error_kind error ≡ OutOfMemory)
  pub other : refused ≢ Long

-- the fact holds, unless the answer is that memory ran out
abbrev pub UnlessMemory : {X : Type 0} → Result X ShelfRefused → Type 0 → Type 0
UnlessMemory (Err Failed) fact = fact
UnlessMemory (Err Long) fact = fact
UnlessMemory (Err Memory) fact = ⊤
UnlessMemory (Ok x) fact = fact
