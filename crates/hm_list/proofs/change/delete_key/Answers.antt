use Rattle.std.proofs.Common.{arith, ◌≡◌, ◌∙◌, ◌+◌, ◌≤◌, List, ◌++◌, length, Option, is_some, false, ap, sym, subst}
use Rattle.hm_model.specs.declared.object.Name.{Name}
use Rattle.hm_model.specs.Sight.{present, root_of}
use Rattle.hm_model.proofs.BuildingFacts.{builds_rests, builds_then, builds_more}
use Rattle.hm_list.specs.declared.key.Pair.{Pair}
use Rattle.hm_list.specs.Pairs.{lookup, delete}
use Rattle.hm_list.specs.Cells.{IsList, pairs_at, LeadsTo}
use Rattle.hm_list.proofs.ListFacts.{list_goes}
use Rattle.hm_list.proofs.Walking.{delete_absent}
use Rattle.hm_list.proofs.Building.{moved_list}
use Rattle.hm_list.proofs.change.delete_key.Goals as goal

pub returns-in_default-clause-builds : goal.returns-in_default-clause-builds
returns-in_default-clause-builds g c =
    builds_more g.U.Usage.lawful g.U.Usage.allowed (g.C.Caller.sight c.args.c.now) (g.C.Caller.sight c.seek.new.c) 0 _ (omega arith) c.seek.ensures.builds

pub returns-in_default-push_fronts-clause-builds : goal.returns-in_default-push_fronts-clause-builds
returns-in_default-push_fronts-clause-builds g c =
    let lawful = g.U.Usage.lawful in
    let allowed = g.U.Usage.allowed in
    let before = g.C.Caller.sight c.args.c.now in
    let sought = g.C.Caller.sight c.seek.new.c in
    let all = g.C.Caller.sight c.push_fronts.new.c in
    let n = length c.as_slice.result.now in
    let few : length c.in-Ok.front.passed.items ≤ length (pairs_at before c.args.list) = c.in-Ok.ensures.sought.few in
    let whole : n ≡ length c.in-Ok.front.passed.items = ap (λ (l : List Pair). length l) c.as_slice.ensures.value in
    builds_more lawful allowed before all (0 + n) (length (pairs_at before c.args.list)) (omega arith)
    (builds_then lawful allowed before sought all 0 n c.seek.ensures.builds c.push_fronts.ensures.builds)

pub returns-clause-builds : goal.returns-clause-builds
returns-clause-builds g c =
    let lawful = g.U.Usage.lawful in
    let allowed = g.U.Usage.allowed in
    let before = g.C.Caller.sight c.args.c.now in
    let sought = g.C.Caller.sight c.seek.new.c in
    let all = g.C.Caller.sight c.push_fronts.new.c in
    let after = g.C.Caller.sight c.copy_root.new.self in
    let n = length c.as_slice.result.now in
    let few : length c.in-Ok.front.passed.items ≤ length (pairs_at before c.args.list) = c.in-Ok.ensures.sought.few in
    let whole : n ≡ length c.in-Ok.front.passed.items = ap (λ (l : List Pair). length l) c.as_slice.ensures.value in
    builds_more lawful allowed before after (0 + n + 0) (length (pairs_at before c.args.list)) (omega arith)
    (builds_then lawful allowed before all after (0 + n) 0
    (builds_then lawful allowed before sought all 0 n c.seek.ensures.builds c.push_fronts.ensures.builds)
    (builds_rests lawful allowed all after c.copy_root.ensures.same))

pub returns-clause-removed : goal.returns-clause-removed
returns-clause-removed g c =
    let node = g.U.NodeUsage.node in
    let before = g.C.Caller.sight c.args.c.now in
    let all = g.C.Caller.sight c.push_fronts.new.c in
    let after = g.C.Caller.sight c.copy_root.new.self in
    let s = c.in-Ok.ensures.sought in
    let built = c.in-Ok-push_fronts.ensures.put s.rest s.list in
    let is : c.as_slice.result.now ++ s.rest ≡ delete c.args.key (pairs_at before c.args.list) =
    ap (λ (l : List Pair). l ++ s.rest) c.as_slice.ensures.value ∙ sym s.deletes in
    subst (λ (l : List Pair). LeadsTo node after c.args.list l) is
    (moved_list node all after c.args.top c.args.list (c.as_slice.result.now ++ s.rest) c.copy_root.ensures.same c.copy_root.ensures.names built)

pub returns-then-not-front-clause-removed : goal.returns-then-not-front-clause-removed
returns-then-not-front-clause-removed g c =
    let node = g.U.NodeUsage.node in
    let before = g.C.Caller.sight c.args.c.now in
    let sought = g.C.Caller.sight c.seek.new.c in
    let pairs = pairs_at before c.args.list in
    let s = c.in-Ok.ensures.sought in
    let b = c.seek.ensures.builds in
    let none : is_some (lookup c.args.key pairs) ≡ false = sym s.is ∙ c.if-not-front.true in
    let same : root_of sought c.args.list ≡ root_of before c.args.list = c.seek.ensures.others.below c.args.list.0 c.requires.below in
    let moved = list_goes node g.U.Usage.lawful g.U.Usage.allowed g.met.U.NodeUsage.node_laws before sought b.own b.goes (root_of before c.args.list) pairs c.requires.list.leads in
    subst (λ (l : List Pair). LeadsTo node sought c.args.list l) (sym (delete_absent c.args.key pairs none))
    (subst (λ (o : Option Name). IsList (node sought.usage) (present sought) o pairs) (sym same) moved)
