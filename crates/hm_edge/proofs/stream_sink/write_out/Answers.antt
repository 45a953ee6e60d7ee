-- A write takes a front of the rest, or leaves the stream as it was.
use Rattle.std.proofs.Common.{◌-◌, ◌≤◌, length, drop, arith, length-take, length-drop}
use Rattle.std.proofs.KnownBytes.{Appends-kept}
use Rattle.hm_edge.proofs.Fronts.{Appends-more_of_rest}
use Rattle.hm_edge.proofs.stream_sink.write_out.Goals as goal
use Rattle.hm_edge.proofs.stream_sink.write_out.Goals.{in-Ok, in-Err}

pub loop-preserved : goal.loop-preserved
loop-preserved g c =
    let bytes = c.args.bytes.now in
    let done = c.loop.written in
    elim c.match-write.branch [
      | in-Ok w ↦
          let fits : w.in-Ok.taken ≤ length bytes - done =
          omega (arith, w.in-Ok.ensures.bound, length-take (length bytes - done) (drop done bytes), length-drop done bytes) in
          rw w.written-is (record {
            within = omega arith;
            front = Appends-more_of_rest _ _ _ bytes done _ fits c.loop.invariant.front w.in-Ok.ensures.bytes;
          })
      | in-Err w ↦ rw w.written-is (record {
        within = c.loop.invariant.within;
        front = Appends-kept _ _ _ _ c.loop.invariant.front w.in-Err.ensures.bytes;
      })
    ]
