use Rattle.std.proofs.Common.{◌≡◌, ℕ, suc, ◌+◌, ◌-◌, List, [], ◌∷◌, ◌++◌, sym, ap, ◌∙◌, arith}
use Rattle.hm_cells.proofs.Words.{Me, opening_of, View, view, Knowledge, site_of, Facts, knowledge, back, front, fresh_pass, fresh_passes, newcomers}
use Rattle.hm_cells.proofs.Dealt.{dealt, less_one, the_last}
use Rattle.hm_cells.proofs.table.Cells.deal.Goals as goal

pub fresh-requires-clause-seat : goal.fresh-requires-clause-seat
fresh-requires-clause-seat g c =
    let site = site_of c.args.opening.now in
    let n : ℕ = site.shape.callers - c.loop-k.k in
    let m : ℕ = site.shape.callers - 1 - c.loop-k.k in
    let one : n ≡ suc m = omega (arith, c.loop-k-test.true) in
    c.last_out-last.ensures.new
    ∙ (ap (λ (x : Me (Unit {0}) (Knowledge g.row.U.Denot)). (
      knowledge (view x.0.view.seen
          (back x.0.view.parts)),
      [],
    ))
    c.loop-k.invariant.me
    ∙ ap (λ (v : View g.row.U.Denot). (knowledge v, [])) (the_last site n m one))

pub loop-k-preserved : goal.loop-k-preserved
loop-k-preserved g c =
    let site = site_of c.args.opening.now in
    let z = c.args.self.now.table in
    let n : ℕ = site.shape.callers - c.loop-k.k in
    let m : ℕ = site.shape.callers - 1 - c.loop-k.k in
    let one : n ≡ suc m = omega (arith, c.loop-k-test.true) in
    let same : site.shape.callers - (c.loop-k.k + 1) ≡ m = omega arith in
    let old : List (Facts g.row.U.Denot) = c.loop-k.passes.items in
    let table : c.last_out-last.result.table_id ≡ z = c.last_out-last.ensures.table
    ∙ c.loop-k.invariant.table in
    let items : c.insert.new.self.items ≡ fresh_pass z site m ∷ old =
    (c.in_ok-insert.ensures).items
    ∙ ap (λ (f : Facts g.row.U.Denot). f ∷ old) (c.in_ok-pass.ensures
    ∙ ap (λ (t : _). fresh_pass t site m) table) in
    record {
      table = c.last_out-last.ensures.own ∙ c.loop-k.invariant.table;
      me = c.last_out-last.ensures.kept
          ∙ (ap (λ (x : Me (Unit {0}) (Knowledge g.row.U.Denot)).
          (knowledge (view x.0.view.seen (front x.0.view.parts)), x.1)) c.loop-k.invariant.me
          ∙ ap (λ (v : View g.row.U.Denot). (knowledge v, []))
          (less_one site n m one ∙ ap (λ (i : ℕ). view (opening_of site.start) (newcomers site i))
          (sym same)));
      dealt = ap (λ (l : List (Facts g.row.U.Denot)). fresh_passes z site (site.shape.callers -
          (c.loop-k.k + 1)) ++ l) items
          ∙ (ap (λ (i : ℕ). fresh_passes z site i ++ (fresh_pass z site m ∷ old)) same
          ∙ dealt site z n m old (fresh_passes z site site.shape.callers) one c.loop-k.invariant.dealt);
    }
