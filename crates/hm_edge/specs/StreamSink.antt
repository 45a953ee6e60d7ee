-- A sink over a stream: what its callers see of it, what the stream gets, and what a fault does.
use Rattle.std.specs.Prelude.{◌≡◌, ℕ, ◌-◌, ◌||◌, Bool, true, length, List, [], ◌++◌, take, Option, Result, Err, is_err, OnErr}
use Rattle.std.specs.Io.KnownBytes.{Appends, append_known}
use Rattle.hm_edge.specs.declared.sink.SinkFailed.{SinkFailed}
use Rattle.hm_edge.specs.Sinks.{faults_after}

-- a sink over a stream as its callers see it
pub record StreamState (W : Type 0) : Type 0 where
  -- the stream
  pub writer : W
  -- the bytes taken and not yet written to the stream
  pub held : List ℕ
  -- a call has failed
  pub broken : Bool
  -- how many calls have failed
  pub faults : ℕ
  -- how often a piece was put
  pub puts : ℕ

-- the bytes of the stream and then those held, where the stream tells its bytes
abbrev pub taken_bytes : {W : Type 0} → (W → Option (List ℕ)) → StreamState W → Option (List ℕ)
taken_bytes contents sink = append_known (contents sink.writer) sink.held

-- the stream's bytes grew by a front of those held and the piece after them,
-- `wrote` bytes of the piece among them
pub record GrowsByFront (old new : Option (List ℕ)) (held piece : List ℕ) (wrote : ℕ) : Type 0 where
  pub count : ℕ
  pub front : Appends old new (take count (held ++ piece))
  pub of_piece : wrote ≡ count - length held

-- a call fails without a write
pub record Refuses {W : Type 0} (old new : StreamState W) (result : Result (Unit {0}) SinkFailed)
    : Type 0 where
  pub none : result ≡ Err (record { wrote = 0 })
  pub writer : new.writer ≡ old.writer

-- a call that fails breaks the sink and is counted, and each call of a broken sink fails
pub record FailsForGood {W : Type 0} (old new : StreamState W)
    (result : Result (Unit {0}) SinkFailed) : Type 0 where
  pub refused : old.broken ≡ true → Refuses old new result
  pub broken : new.broken ≡ (old.broken || is_err result)
  pub dropped : OnErr result (new.held ≡ [])
  pub count : new.faults ≡ faults_after result old.faults
