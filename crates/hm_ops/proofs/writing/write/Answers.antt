use Rattle.std.proofs.Common.{◌+◌, slice_index, refl, arith}
use Rattle.hm_ops.proofs.WrittenWords.{lasting_named, lasts_same, works_stored, wrote_more}
use Rattle.hm_ops.proofs.writing.write.Goals as goal

pub store_own-requires-clause-named : goal.store_own-requires-clause-named
store_own-requires-clause-named g c =
    let w = c.loop-i.invariant.wrote in
    lasting_named g.U.Usage.lawful g.U.Usage.allowed c.args.cells.now c.loop-i.pass
    (c.args.first + c.loop-i.i) (slice_index c.args.words.now c.loop-i.i) c.loop-i.invariant.works.sound
    (lasts_same c.args.pass.now c.loop-i.pass w.roots w.hand (c.args.first + c.loop-i.i)
    (slice_index c.args.words.now c.loop-i.i)
    (c.requires.lasting c.loop-i.i (omega arith)))

pub loop-i-preserved : goal.loop-i-preserved
loop-i-preserved g c =
    let w = slice_index c.args.words.now c.loop-i.i in
    let k = c.loop-i.invariant.works in
    record {
      wrote = wrote_more g.U.Usage.lawful g.U.Usage.allowed c.args.cells.now c.args.pass.now c.loop-i.pass
          c.store_own.new.pass c.args.first c.loop-i.i w c.args.words.now k c.store_own.ensures.sound
          c.store_own.ensures.took
          c.loop-i.invariant.wrote refl (omega arith) (λ i low. c.requires.lasting i (omega arith));
      works = works_stored g.U.Usage.lawful g.U.Usage.allowed c.args.cells.now c.args.pass.now
          c.loop-i.pass c.store_own.new.pass c.args.first c.loop-i.i w c.args.words.now k
          c.store_own.ensures.sound c.store_own.ensures.took;
    }
