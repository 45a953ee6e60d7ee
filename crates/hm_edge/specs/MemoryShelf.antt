-- A shelf in memory: what its callers see of it, and what its next read answers.
use Rattle.std.specs.Prelude.{ℕ, ◌==◌, nat_lt, bytes_eq, if◌then◌else◌, length, List, Vec, String, Option, None, Some, Result, Ok, Err, string_bytes}
use Rattle.std.specs.declared.alloc.Global.{Global}
use Rattle.std.specs.List.{list_any}
use Rattle.std.specs.Map.{lookup}
use Rattle.hm_edge.specs.declared.shelf.ShelfRefused.{ShelfRefused}
use Rattle.hm_edge.specs.declared.shelf.ShelfRefused.TheVariants.{Failed, Long}
use Rattle.hm_edge.specs.Faults.{next_count}

-- a name and its bytes, as lists
abbrev pub file_of : String Global × Vec ℕ Global → List ℕ × List ℕ
file_of file = (string_bytes file.0, file.1.items)

-- a shelf in memory as its callers see it
pub record ShelfState : Type 0 where
  -- the files, in the order in which they were given
  pub files : List (List ℕ × List ℕ)
  -- the numbers of the reads that fail
  pub fails : List ℕ
  -- how many reads there have been
  pub calls : ℕ
  -- how many of them failed
  pub faults : ℕ
  -- the names whose reads failed, oldest first
  pub failed : List (List ℕ)

-- the bytes of the first file with the name
abbrev pub bytes_of : List (List ℕ × List ℕ) → List ℕ → Option (List ℕ)
bytes_of files name = lookup (λ other. bytes_eq other name) files

-- what a read with the number finds: nothing, where it is one of those that fail
abbrev pub found_at : ShelfState → ℕ → List ℕ → Option (List ℕ)
found_at shelf call name =
    if list_any (λ number. number == call) shelf.fails then None else bytes_of shelf.files name

-- what a read answers to what it found
abbrev pub answer_to : Option (List ℕ) → ℕ → Result (Unit {0}) ShelfRefused
answer_to None limit = Err Failed
answer_to (Some bytes) limit = if nat_lt limit (length bytes) then Err Long else Ok tt

-- what the next read answers, unless memory runs out
abbrev pub due_answer : ShelfState → List ℕ → ℕ → Result (Unit {0}) ShelfRefused
due_answer shelf name limit = answer_to (found_at shelf (next_count shelf.calls) name) limit
