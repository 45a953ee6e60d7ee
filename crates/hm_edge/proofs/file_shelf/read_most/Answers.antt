-- Each read gives a front of what is left, and no more than there is room for.
use Rattle.std.proofs.Common.{◌≡◌, ◌+◌, ◌≤◌, ◌++◌, take, ap, ◌∙◌, sym, arith}
use Rattle.std.proofs.lemmas.List.{take-append-le, length-take}
use Rattle.hm_edge.proofs.Reading.{GivesAtMost-more, Reads-kept, Reads-more}
use Rattle.hm_edge.proofs.file_shelf.read_most.Goals as goal
use Rattle.hm_edge.proofs.file_shelf.read_most.Goals.{in-Ok+in_ok-extend_from_slice-in-Ok, in-Err}

pub returns-in_err-extend_from_slice-in-Ok-clause-most :
    goal.returns-in_err-extend_from_slice-in-Ok-clause-most
returns-in_err-extend_from_slice-in-Ok-clause-most g c =
    let front = length-take c.min-room.result c.loop.chunk in
    let fits : c.loop.count + c.in-Ok.taken ≤ c.args.most =
    omega (arith, c.in-Ok.ensures.bound.0, c.read.auto.buf, front, c.min-room.ensures, c.loop.invariant.within) in
    GivesAtMost-more _ _ _ c.loop.count c.in-Ok.taken _ _ (take c.in-Ok.taken c.read.new.buf)
    (sym c.in-Ok.ensures.bound.1) c.loop.invariant.read c.in-Ok.ensures.bytes.0 c.args.most fits

pub loop-preserved : goal.loop-preserved
loop-preserved g c =
    let front = length-take c.min-room.result c.loop.chunk in
    elim c.match-read.branch [
      | in-Ok+in_ok-extend_from_slice-in-Ok w ↦
          let fits : c.loop.count + w.in-Ok.taken ≤ c.args.most =
          omega (arith, w.in-Ok.ensures.bound.0, c.read.auto.buf, front, c.min-room.ensures, c.loop.invariant.within) in
          let items : w.extend_from_slice.new.self.items
          ≡ c.loop.into.items ++ take w.in-Ok.taken c.read.new.buf =
          w.in_ok-extend_from_slice-in-Ok.ensures.items
          ∙ ap (λ l. c.loop.into.items ++ l) (take-append-le _ _ _ w.in-Ok.ensures.bound.0) in
          rw (w.count-is, w.into-is, items) (record {
            within = fits;
            read = Reads-more _ _ _ c.loop.count w.in-Ok.taken _ _ _ (sym w.in-Ok.ensures.bound.1)
                c.loop.invariant.read w.in-Ok.ensures.bytes.0;
          })
      | in-Err w ↦ rw (w.count-is, w.into-is) (record {
        within = c.loop.invariant.within;
        read = Reads-kept _ _ _ _ _ _ c.loop.invariant.read w.in-Err.ensures.bytes;
      })
    ]
