-- Where the flush fails, the stream took all that was held.
use Rattle.std.proofs.Common.{[]}
use Rattle.std.proofs.KnownBytes.{Appends-kept, Appends-nil}
use Rattle.hm_edge.proofs.Fronts.{GrowsByFront-past_held}
use Rattle.hm_edge.proofs.stream_sink.StreamSinkFinish.finish.Goals as goal

pub returns-in-Err-clause-front : goal.returns-in-Err-clause-front
returns-in-Err-clause-front g c =
    let first = rw (← c.self.view_is) at c.in_ok-write_held.ensures.written in
    rw (c.fail.ensures.after, c.fail.ensures.wrote) (GrowsByFront-past_held _ _ _ _ [] 0 (Appends-kept _ _ _ _ first c.in-Err.ensures.bytes) (Appends-nil _))
