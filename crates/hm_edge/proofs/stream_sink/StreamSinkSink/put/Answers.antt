-- Where a long piece fails, the stream took all that was held and a front of the piece.
use Rattle.hm_edge.proofs.Fronts.{GrowsByFront-past_held}
use Rattle.hm_edge.proofs.stream_sink.StreamSinkSink.put.Goals as goal

pub returns-then-wrote-piece-clause-front : goal.returns-then-wrote-piece-clause-front
returns-then-wrote-piece-clause-front g c =
    let first = rw (← c.self-2.view_is, c.count_put.ensures) at c.in_ok-write_held.ensures.written in
    rw (c.fail.ensures.after, c.fail.ensures.wrote) (GrowsByFront-past_held _ _ _ _ _ _ first c.write_out-wrote.ensures.front)
