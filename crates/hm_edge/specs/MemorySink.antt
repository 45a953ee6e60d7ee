-- A sink in memory: what its callers see of it, and what its next put does.
use Rattle.std.specs.Prelude.{ℕ, ◌-◌, ◌==◌, ◌&&◌, min, if◌then◌else◌, is_none, length, List, find, Option, Result, Ok, Err}
use Rattle.std.specs.Option.{option_map_or}
use Rattle.hm_edge.specs.declared.memory_sink.SinkFail.{SinkFail}
use Rattle.hm_edge.specs.declared.sink.SinkFailed.{SinkFailed}
use Rattle.hm_edge.specs.Faults.{next_count}

-- a sink in memory as its callers see it
pub record SinkState : Type 0 where
  -- the bytes written so far
  pub bytes : List ℕ
  -- how many bytes it takes in all
  pub room : ℕ
  -- the puts that fail, each with the number of bytes that it takes all the same
  pub fails : List SinkFail
  -- how many puts there have been
  pub calls : ℕ
  -- how many of them failed
  pub faults : ℕ

-- the entry for a put: the first with its number
abbrev pub entry_for : List SinkFail → ℕ → Option SinkFail
entry_for fails call = find (λ fail. fail.call == call) fails

-- the entry for the next put
abbrev pub next_entry : SinkState → Option SinkFail
next_entry sink = entry_for sink.fails (next_count sink.calls)

-- how many bytes of the next piece are appended: what fits, and at most what its entry says
abbrev pub due_len : SinkState → List ℕ → ℕ
due_len sink piece =
    let fitting = min (length piece) (sink.room - length sink.bytes) in
    option_map_or (λ fail. min fail.wrote fitting) (next_entry sink) fitting

-- what the next put answers: Ok where no entry names it and the whole piece is appended
abbrev pub due_answer : SinkState → List ℕ → Result (Unit {0}) SinkFailed
due_answer sink piece =
    if is_none (next_entry sink) && (due_len sink piece == length piece)
    then Ok tt
    else Err (record { wrote = due_len sink piece })
