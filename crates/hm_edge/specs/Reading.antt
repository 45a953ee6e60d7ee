-- What a bounded read takes from a reader, where the reader tells what it has left.
use Rattle.std.specs.Prelude.{◌≡◌, ℕ, ◌≤◌, ◌<◌, List, ◌++◌, length, Option}
use Rattle.std.specs.Io.KnownBytes.{Consumes, IsAtEnd}

-- a reader gave at most so many bytes
pub record GivesAtMost (most : ℕ) (left left_after : Option (List ℕ)) : Type 0 where
  pub bytes : List ℕ
  pub within : length bytes ≤ most
  pub given : Consumes left left_after bytes

-- a reader gave so many bytes, and `new` is `old` and then those
pub record Reads (count : ℕ) (left left_after : Option (List ℕ)) (old new : List ℕ) : Type 0 where
  pub bytes : List ℕ
  pub size : length bytes ≡ count
  pub given : Consumes left left_after bytes
  pub appended : new ≡ old ++ bytes

-- all that the reader had left was read, unless that is so many bytes or more
pub record ReadsAll (most count : ℕ) (left left_after : Option (List ℕ)) (old new : List ℕ)
    : Type 0 where
  pub reads : Reads count left left_after old new
  pub within : count ≤ most
  pub end : count < most → IsAtEnd left_after
