use Rattle.std.proofs.Common.{false, is_some, map, arith, ◌∙◌, inl, inr, length-set}
use Rattle.std.proofs.lemmas.List.{length-map}
use Rattle.hm_model.specs.declared.object.Name.{Name}
use Rattle.hm_model.proofs.SightFacts.{rests_then}
use Rattle.hm_cells.specs.Facts.{sight_of}
use Rattle.hm_ops.specs.Walking.{contents_at}
use Rattle.hm_ops.proofs.PlacedReferences.{bits_all, here_more, others_more, outside_other, set_more, still_rooted}
use Rattle.hm_ops.proofs.FieldLoads.{rooted_sized, same_list}
use Rattle.hm_ops.proofs.reading.read_references.Goals as goal

pub loop-i-preserved : goal.loop-i-preserved
loop-i-preserved g c =
    let k = c.loop-i.invariant in
    let r = c.read_reference.ensures in
    record {
      keeps = r.reads.keeps;
      rests = rests_then (sight_of c.args.pass.now) (sight_of c.loop-i.pass)
          (sight_of c.read_reference.new.pass) k.rests r.reads.rests;
      rooted = still_rooted g.U.Usage.lawful g.U.Usage.allowed c.args.cells.now c.args.pass.now
          c.loop-i.pass c.read_reference.new.pass c.args.v c.args.hand c.loop-i.i (omega arith) k.known
          k.rooted r.reads;
      known = r.reads.known ∙ k.known;
      here = here_more g.U.Usage.lawful g.U.Usage.allowed c.args.cells.now c.args.pass.now c.loop-i.pass
          c.read_reference.new.pass c.args.v c.args.hand c.loop-i.i (omega arith) k.known k.rooted r.reads
          k.here;
      others = others_more g.U.Usage.lawful g.U.Usage.allowed c.args.cells.now c.args.pass.now
          c.loop-i.pass c.read_reference.new.pass c.args.v c.args.hand c.loop-i.i (omega arith) k.known
          k.rooted r.reads k.others;
      places = λ root out. r.reads.places root.0
          (outside_other root c.args.hand c.loop-i.i out (omega arith)) ∙ k.places root out;
      four = length-set c.loop-i.set c.loop-i.i c.read_reference.result ∙ k.four;
      set = set_more g.U.Usage.lawful g.U.Usage.allowed c.args.cells.now c.args.pass.now c.loop-i.pass
          c.read_reference.new.pass c.args.v c.args.hand c.loop-i.i (omega arith) k.known k.rooted r.reads
          c.loop-i.set c.read_reference.result k.four r.value k.set;
    }

pub returns-clause-value : goal.returns-clause-value
returns-clause-value g c =
    let refs = (contents_at c.args.pass.now c.args.v).refs in
    let sized = rooted_sized g.U.Usage.lawful g.U.Usage.allowed c.args.cells.now c.args.pass.now c.args.v
    c.requires.keeps (c.requires.rooted.0.0, c.requires.rooted.2) in
    same_list c.loop-i.set (map (is_some {T = Name}) refs) 4 false c.loop-i.invariant.four
    (length-map refs is_some ∙ sized.four)
    (bits_all c.loop-i.set refs c.loop-i.invariant.four sized.four
    (λ j low. c.loop-i.invariant.set j (omega arith)))

pub returns-clause-names : goal.returns-clause-names
returns-clause-names g c = record {
  here = λ i low. c.loop-i.invariant.here i (omega arith);
  below = λ k low. c.loop-i.invariant.others k (inl low);
  above = λ k high. c.loop-i.invariant.others k (inr (omega arith));
}

pub returns-clause-places : goal.returns-clause-places
returns-clause-places g c = c.loop-i.invariant.places
