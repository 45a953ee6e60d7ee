use Rattle.std.proofs.Common.{◌∙◌, ap, arith, length-set, slice_index}
use Rattle.hm_moves.specs.declared.part.Known.{Known}
use Rattle.hm_ops.specs.Walking.{contents_at}
use Rattle.hm_ops.proofs.FieldLoads.{hand_same, kept_sized, loads_then, read_more, same_list}
use Rattle.hm_ops.proofs.loading.load_numbers.Goals as goal

pub returns-clause-value : goal.returns-clause-value
returns-clause-value g c =
    same_list c.loop-i.numbers (contents_at c.args.pass.now c.args.v).numbers 10 0 c.loop-i.invariant.ten
    (kept_sized g.U.Usage.lawful g.U.Usage.allowed c.args.cells.now c.args.pass.now c.args.v
    c.requires.works.sound c.requires.kept).ten
    (λ j low. c.loop-i.invariant.numbers j (omega arith))

pub loop-i-preserved : goal.loop-i-preserved
loop-i-preserved g c =
    let k = c.loop-i.invariant in
    let one = c.load_number.ensures in
    let s = c.args.pass.now in
    let t = c.loop-i.pass in
    record {
      loads = loads_then g.U.Usage.lawful g.U.Usage.allowed c.args.cells.now s t c.load_number.new.pass
          c.args.v c.args.scan (hand_same s t k.hand) k.loads one.loads;
      hand = one.hand ∙ k.hand;
      works = one.works;
      ten = length-set c.loop-i.numbers c.loop-i.i c.load_number.result ∙ k.ten;
      numbers = λ j low. read_more c.loop-i.numbers (contents_at s c.args.v).numbers c.loop-i.i
          c.load_number.result (omega (arith, k.ten))
          (one.value ∙ ap (λ (n : Known). slice_index n.contents.numbers c.loop-i.i)
          (k.loads.stays.known c.args.v c.requires.kept).1) k.numbers j low;
    }
