use Rattle.std.proofs.Common.{arith, ◌≡◌, ◌∙◌, ◌+◌, ◌-◌, ◌<◌, ℕ, List, [], ◌∷◌, ◌++◌, length, drop, get_or, suc, drop-cons, ap, sym, subst}
use Rattle.std.proofs.Math.Seq.{drop-length}
use Rattle.hm_model.proofs.BuildingFacts.{builds_none, builds_more, builds_then}
use Rattle.hm_list.specs.declared.key.Pair.{Pair}
use Rattle.hm_list.specs.Cells.{LeadsTo}
use Rattle.hm_list.proofs.PlaceFacts.{outside_none, outside_then}
use Rattle.hm_list.proofs.change.push_fronts.Goals as goal

pub loop-i-init : goal.loop-i-init
loop-i-init g c =
    let now = g.C.Caller.sight c.args.c.now in
    let n = length c.args.front.now in (
      omega arith,
      builds_more g.U.Usage.lawful g.U.Usage.allowed now now 0 (n - n) (omega arith) (builds_none g.U.Usage.lawful g.U.Usage.allowed now),
      outside_none now c.args.at.0 (c.args.at.0 + 1),
      (λ rest is. subst (λ (l : List Pair). LeadsTo g.U.NodeUsage.node now c.args.at (l ++ rest)) (sym (drop-length c.args.front.now)) is),
    )

pub loop-i-preserved : goal.loop-i-preserved
loop-i-preserved g c =
    let before = g.C.Caller.sight c.args.c.now in
    let now = g.C.Caller.sight c.loop-i.c in
    let after = g.C.Caller.sight c.push_front.new.c in
    let i = c.loop-i.invariant in
    let e = c.in_ok-push_front.ensures in
    let none : Pair = record { key = record { a = 0; b = 0 }; load = [] } in
    let p : Pair = get_or c.args.front.now (c.loop-i.i - 1) none in
    let within : c.loop-i.i - 1 < length c.args.front.now = omega arith in
    let next : suc (c.loop-i.i - 1) ≡ c.loop-i.i = omega arith in
    let one : drop (c.loop-i.i - 1) c.args.front.now ≡ p ∷ drop c.loop-i.i c.args.front.now =
    drop-cons c.args.front.now (c.loop-i.i - 1) none within ∙ ap (λ (k : ℕ). p ∷ drop k c.args.front.now) next in
    let built = builds_then g.U.Usage.lawful g.U.Usage.allowed before now after (length c.args.front.now - c.loop-i.i) 1 i.1 c.push_front.ensures.builds in (
      omega arith,
      builds_more g.U.Usage.lawful g.U.Usage.allowed before after (length c.args.front.now - c.loop-i.i + 1) (length c.args.front.now - (c.loop-i.i - 1)) (omega arith) built,
      outside_then before now after c.args.at.0 (c.args.at.0 + 1) i.2 c.push_front.ensures.others,
      (λ rest is. subst (λ (l : List Pair). LeadsTo g.U.NodeUsage.node after c.args.at (l ++ rest)) (sym one) (e.put (drop c.loop-i.i c.args.front.now ++ rest) (i.3 rest is))),
    )

pub returns-in_err-push_front-clause-builds : goal.returns-in_err-push_front-clause-builds
returns-in_err-push_front-clause-builds g c =
    let before = g.C.Caller.sight c.args.c.now in
    let after = g.C.Caller.sight c.push_front.new.c in
    let i = c.loop-i.invariant in
    builds_more g.U.Usage.lawful g.U.Usage.allowed before after (length c.args.front.now - c.loop-i.i + 1) (length c.args.front.now) (omega arith)
    (builds_then g.U.Usage.lawful g.U.Usage.allowed before (g.C.Caller.sight c.loop-i.c) after (length c.args.front.now - c.loop-i.i) 1 i.1 c.push_front.ensures.builds)
