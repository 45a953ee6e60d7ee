use Rattle.std.proofs.Common.{arith, [], ◌∙◌, sym}
use Rattle.hm_model.proofs.BuildingFacts.{builds_then}
use Rattle.hm_list.specs.Cells.{pairs_at}
use Rattle.hm_list.proofs.ListFacts.{unset_where}
use Rattle.hm_list.proofs.Walking.{walked_start, walked_on, walked_found, walked_none}
use Rattle.hm_list.proofs.walk.search.Goals as goal

pub loop-key-init : goal.loop-key-init
loop-key-init g c =
    let before = g.C.Caller.sight c.args.c.now in (
      [],
      pairs_at before c.args.list,
      walked_start g.U.NodeUsage.node g.U.Usage.lawful g.U.Usage.allowed before (g.C.Caller.sight c.copy_root.new.self) c.args.list c.args.top c.args.top c.args.key (pairs_at before c.args.list)
          (omega arith) (omega arith) c.copy_root.ensures.same c.copy_root.ensures.names c.requires.list.leads,
    )

pub loop-key-preserved : goal.loop-key-preserved
loop-key-preserved g c =
    let i = c.loop-key.invariant in
    let t = c.take_first-pair.ensures in
    let before = g.C.Caller.sight c.args.c.now in
    let on = walked_on g.U.NodeUsage.node g.U.Usage.lawful g.U.Usage.allowed before (g.C.Caller.sight c.loop-key.c) (g.C.Caller.sight c.take_first-pair.new.c) c.args.top c.args.top c.args.key (pairs_at before c.args.list) i.0 i.1 c.take_first-pair.result
    (omega arith) (omega arith) i.2 t.builds t.longer t.others t.taken (sym c.is_key_less.ensures ∙ c.if-not-is_key_less.false) in
    (_, on.0, on.1)

pub returns-then-not-is_key_less-clause-found : goal.returns-then-not-is_key_less-clause-found
returns-then-not-is_key_less-clause-found g c =
    let i = c.loop-key.invariant in
    let t = c.take_first-pair.ensures in
    let before = g.C.Caller.sight c.args.c.now in
    c.load_under.ensures ∙ sym (walked_found g.U.NodeUsage.node g.U.Usage.lawful g.U.Usage.allowed before (g.C.Caller.sight c.loop-key.c) (g.C.Caller.sight c.take_first-pair.new.c) c.args.top c.args.top c.args.key (pairs_at before c.args.list) i.0 i.1 c.take_first-pair.result i.2 t.taken (sym c.is_key_less.ensures ∙ c.if-not-is_key_less.true))

pub returns-clause-found : goal.returns-clause-found
returns-clause-found g c =
    let i = c.loop-key.invariant in
    let before = g.C.Caller.sight c.args.c.now in
    sym (walked_none g.U.NodeUsage.node g.U.Usage.lawful g.U.Usage.allowed before (g.C.Caller.sight c.loop-key.c) c.args.top c.args.top c.args.key (pairs_at before c.args.list) i.0 i.1 i.2 (unset_where _ c.is_set.result c.is_set.ensures c.loop-key-test.false))

pub returns-then-not-is_key_less-clause-builds : goal.returns-then-not-is_key_less-clause-builds
returns-then-not-is_key_less-clause-builds g c =
    builds_then g.U.Usage.lawful g.U.Usage.allowed (g.C.Caller.sight c.args.c.now) (g.C.Caller.sight c.loop-key.c) (g.C.Caller.sight c.take_first-pair.new.c) 0 0 c.loop-key.invariant.2.builds c.take_first-pair.ensures.builds
