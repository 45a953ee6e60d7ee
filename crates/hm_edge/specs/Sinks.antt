-- What a put adds to the bytes of a sink, and what it counts.
use Rattle.std.specs.Prelude.{ℕ, List, ◌++◌, Option, Result, Ok, Err, take}
use Rattle.std.specs.Option.{option_map}
use Rattle.hm_edge.specs.declared.sink.SinkFailed.{SinkFailed}
use Rattle.hm_edge.specs.Faults.{next_count}

-- the part of a piece that was appended: all of it, or as many bytes as the fault says
abbrev pub part_put : {X : Type 0} → List ℕ → Result X SinkFailed → List ℕ
part_put piece (Ok x) = piece
part_put piece (Err fault) = take fault.wrote piece

-- the bytes of a sink after more of them, where it tells its bytes
abbrev pub bytes_after : List ℕ → Option (List ℕ) → Option (List ℕ)
bytes_after more written = option_map (λ bytes. bytes ++ more) written

-- the count of faults after one more put: a put that failed raises it by one
abbrev pub faults_after : {X : Type 0} → Result X SinkFailed → ℕ → ℕ
faults_after (Ok x) faults = faults
faults_after (Err fault) faults = next_count faults
