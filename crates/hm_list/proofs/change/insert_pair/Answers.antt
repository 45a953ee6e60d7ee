use Rattle.std.proofs.Common.{arith, ◌≡◌, ◌∙◌, ◌+◌, ◌≤◌, List, ◌∷◌, ◌++◌, length, ap, sym, subst}
use Rattle.hm_model.proofs.BuildingFacts.{builds_rests, builds_then, builds_more}
use Rattle.hm_list.specs.declared.key.Pair.{Pair}
use Rattle.hm_list.specs.Pairs.{insert}
use Rattle.hm_list.specs.Cells.{pairs_at, LeadsTo}
use Rattle.hm_list.proofs.Building.{moved_list}
use Rattle.hm_list.proofs.change.insert_pair.Goals as goal

pub returns-in_default-clause-builds : goal.returns-in_default-clause-builds
returns-in_default-clause-builds g c =
    builds_more g.U.Usage.lawful g.U.Usage.allowed (g.C.Caller.sight c.args.c.now) (g.C.Caller.sight c.seek.new.c) 0 _ (omega arith) c.seek.ensures.builds

pub returns-in_default-push_front-clause-builds : goal.returns-in_default-push_front-clause-builds
returns-in_default-push_front-clause-builds g c =
    let lawful = g.U.Usage.lawful in
    let allowed = g.U.Usage.allowed in
    let before = g.C.Caller.sight c.args.c.now in
    let sought = g.C.Caller.sight c.seek.new.c in
    let one = g.C.Caller.sight c.push_front.new.c in
    builds_more lawful allowed before one (0 + 1) (length (pairs_at before c.args.list) + 1) (omega arith)
    (builds_then lawful allowed before sought one 0 1 c.seek.ensures.builds c.push_front.ensures.builds)

pub returns-in_default-push_fronts-clause-builds : goal.returns-in_default-push_fronts-clause-builds
returns-in_default-push_fronts-clause-builds g c =
    let lawful = g.U.Usage.lawful in
    let allowed = g.U.Usage.allowed in
    let before = g.C.Caller.sight c.args.c.now in
    let sought = g.C.Caller.sight c.seek.new.c in
    let one = g.C.Caller.sight c.push_front.new.c in
    let all = g.C.Caller.sight c.push_fronts.new.c in
    let n = length c.as_slice.result.now in
    let few : length c.in-Ok.front.passed.items ≤ length (pairs_at before c.args.list) = c.in-Ok.ensures.sought.few in
    let whole : n ≡ length c.in-Ok.front.passed.items = ap (λ (l : List Pair). length l) c.as_slice.ensures.value in
    builds_more lawful allowed before all (0 + 1 + n) (length (pairs_at before c.args.list) + 1) (omega arith)
    (builds_then lawful allowed before one all (0 + 1) n (builds_then lawful allowed before sought one 0 1 c.seek.ensures.builds c.push_front.ensures.builds) c.push_fronts.ensures.builds)

pub returns-clause-builds : goal.returns-clause-builds
returns-clause-builds g c =
    let lawful = g.U.Usage.lawful in
    let allowed = g.U.Usage.allowed in
    let before = g.C.Caller.sight c.args.c.now in
    let sought = g.C.Caller.sight c.seek.new.c in
    let one = g.C.Caller.sight c.push_front.new.c in
    let all = g.C.Caller.sight c.push_fronts.new.c in
    let after = g.C.Caller.sight c.copy_root.new.self in
    let n = length c.as_slice.result.now in
    let few : length c.in-Ok.front.passed.items ≤ length (pairs_at before c.args.list) = c.in-Ok.ensures.sought.few in
    let whole : n ≡ length c.in-Ok.front.passed.items = ap (λ (l : List Pair). length l) c.as_slice.ensures.value in
    builds_more lawful allowed before after (0 + 1 + n + 0) (length (pairs_at before c.args.list) + 1) (omega arith)
    (builds_then lawful allowed before all after (0 + 1 + n) 0
    (builds_then lawful allowed before one all (0 + 1) n (builds_then lawful allowed before sought one 0 1 c.seek.ensures.builds c.push_front.ensures.builds) c.push_fronts.ensures.builds)
    (builds_rests lawful allowed all after c.copy_root.ensures.same))

pub returns-clause-put : goal.returns-clause-put
returns-clause-put g c =
    let node = g.U.NodeUsage.node in
    let before = g.C.Caller.sight c.args.c.now in
    let all = g.C.Caller.sight c.push_fronts.new.c in
    let after = g.C.Caller.sight c.copy_root.new.self in
    let s = c.in-Ok.ensures.sought in
    let q : Pair = c.args.pair in
    let built = c.in-Ok-push_fronts.ensures.put (q ∷ s.rest) (c.in-Ok-push_front.ensures.put s.rest s.list) in
    let is : c.as_slice.result.now ++ q ∷ s.rest ≡ insert q (pairs_at before c.args.list) =
    ap (λ (l : List Pair). l ++ q ∷ s.rest) c.as_slice.ensures.value ∙ sym (s.inserts q.load) in
    subst (λ (l : List Pair). LeadsTo node after c.args.list l) is
    (moved_list node all after c.args.top c.args.list (c.as_slice.result.now ++ q ∷ s.rest) c.copy_root.ensures.same c.copy_root.ensures.names built)
