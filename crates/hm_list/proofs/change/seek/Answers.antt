use Rattle.std.proofs.Common.{arith, ◌≡◌, ◌≢◌, ◌∙◌, ◌+◌, List, refl, sym, subst}
use Rattle.hm_model.specs.Sight.{name_at}
use Rattle.hm_model.proofs.BuildingFacts.{builds_rests, builds_then}
use Rattle.hm_list.specs.declared.key.Pair.{Pair}
use Rattle.hm_list.specs.Cells.{pairs_at}
use Rattle.hm_list.proofs.ListFacts.{unset_where}
use Rattle.hm_list.proofs.Walking.{Walked, walked_start, walked_on, walked_aside, sought_stop, sought_end}
use Rattle.hm_list.proofs.change.seek.Goals as goal

pub loop-key-init : goal.loop-key-init
loop-key-init g c =
    let before = g.C.Caller.sight c.args.c.now in
    let now = g.C.Caller.sight c.copy_root.new.self in
    let pairs = pairs_at before c.args.list in
    let start = walked_start g.U.NodeUsage.node g.U.Usage.lawful g.U.Usage.allowed before now c.args.list c.args.top record { 0 = c.args.top.0 + 1 } c.args.key pairs
    (omega arith) (omega arith) c.copy_root.ensures.same c.copy_root.ensures.names c.requires.list.leads in
    (refl, (pairs, subst (λ (l : List Pair). Walked g.U.NodeUsage.node g.U.Usage.lawful g.U.Usage.allowed before now c.args.top record { 0 = c.args.top.0 + 1 } c.args.key pairs l pairs) (sym c.new-passed.ensures.items) start))

pub returns-then-not-is_key_less-clause-builds : goal.returns-then-not-is_key_less-clause-builds
returns-then-not-is_key_less-clause-builds g c =
    let before = g.C.Caller.sight c.args.c.now in
    let now = g.C.Caller.sight c.loop-key.c in
    let aside = g.C.Caller.sight c.copy_root-in-loop-key.new.self in
    let taken = g.C.Caller.sight c.take_first-pair.new.c in
    let after = g.C.Caller.sight c.step_past.new.c in
    let lawful = g.U.Usage.lawful in
    let allowed = g.U.Usage.allowed in
    builds_then lawful allowed before taken after 0 0
    (builds_then lawful allowed before aside taken 0 0
    (builds_then lawful allowed before now aside 0 0 c.loop-key.invariant.1.1.builds (builds_rests lawful allowed now aside c.copy_root-in-loop-key.ensures.same))
    c.take_first-pair.ensures.builds)
    (builds_rests lawful allowed taken after c.step_past.ensures.rests)

pub returns-in_err-push-clause-builds : goal.returns-in_err-push-clause-builds
returns-in_err-push-clause-builds g c =
    let before = g.C.Caller.sight c.args.c.now in
    let now = g.C.Caller.sight c.loop-key.c in
    let aside = g.C.Caller.sight c.copy_root-in-loop-key.new.self in
    let taken = g.C.Caller.sight c.take_first-pair.new.c in
    let lawful = g.U.Usage.lawful in
    let allowed = g.U.Usage.allowed in
    builds_then lawful allowed before aside taken 0 0
    (builds_then lawful allowed before now aside 0 0 c.loop-key.invariant.1.1.builds (builds_rests lawful allowed now aside c.copy_root-in-loop-key.ensures.same))
    c.take_first-pair.ensures.builds

pub returns-then-not-is_key_less-clause-sought : goal.returns-then-not-is_key_less-clause-sought
returns-then-not-is_key_less-clause-sought g c =
    let before = g.C.Caller.sight c.args.c.now in
    let now = g.C.Caller.sight c.loop-key.c in
    let aside = g.C.Caller.sight c.copy_root-in-loop-key.new.self in
    let taken = g.C.Caller.sight c.take_first-pair.new.c in
    let after = g.C.Caller.sight c.step_past.new.c in
    let node = g.U.NodeUsage.node in
    let lawful = g.U.Usage.lawful in
    let allowed = g.U.Usage.allowed in
    let pairs = pairs_at before c.args.list in
    let i = c.loop-key.invariant in
    let r = c.copy_root-in-loop-key.ensures in
    let t = c.take_first-pair.ensures in
    let other : c.args.top.0 + 1 ≢ c.args.top.0 = omega arith in
    let w = walked_aside node lawful allowed before now aside c.args.top record { 0 = c.args.top.0 + 1 } c.args.top c.args.key pairs c.loop-key.passed.items i.1.0 _ (omega arith) (omega arith) other i.1.1 r.same r.names in
    let kept : name_at aside.roots c.args.top.0 ≡ name_at aside.roots (c.args.top.0 + 1) = r.names.here ∙ sym (r.names.others (c.args.top.0 + 1) other) in
    sought_stop node lawful allowed g.met.U.NodeUsage.node_laws before aside taken after c.args.top record { 0 = c.args.top.0 + 1 } c.args.key pairs c.loop-key.passed.items i.1.0 c.take_first-pair.result c.is_key_same-found.result
    refl w kept t.builds t.others t.taken (sym c.is_key_less.ensures ∙ c.if-not-is_key_less.true) c.is_key_same-found.ensures c.step_past.ensures.rests c.step_past.ensures.here

pub loop-key-preserved : goal.loop-key-preserved
loop-key-preserved g c =
    let before = g.C.Caller.sight c.args.c.now in
    let now = g.C.Caller.sight c.loop-key.c in
    let aside = g.C.Caller.sight c.copy_root-in-loop-key.new.self in
    let taken = g.C.Caller.sight c.take_first-pair.new.c in
    let node = g.U.NodeUsage.node in
    let lawful = g.U.Usage.lawful in
    let allowed = g.U.Usage.allowed in
    let pairs = pairs_at before c.args.list in
    let i = c.loop-key.invariant in
    let r = c.copy_root-in-loop-key.ensures in
    let t = c.take_first-pair.ensures in
    let other : c.args.top.0 + 1 ≢ c.args.top.0 = omega arith in
    let w = walked_aside node lawful allowed before now aside c.args.top record { 0 = c.args.top.0 + 1 } c.args.top c.args.key pairs c.loop-key.passed.items i.1.0 _ (omega arith) (omega arith) other i.1.1 r.same r.names in
    let on = walked_on node lawful allowed before aside taken c.args.top record { 0 = c.args.top.0 + 1 } c.args.key pairs c.loop-key.passed.items i.1.0 c.take_first-pair.result
    (omega arith) (omega arith) w t.builds t.longer t.others t.taken (sym c.is_key_less.ensures ∙ c.if-not-is_key_less.false) in (
      i.0,
      (
        on.0,
        subst (λ (l : List Pair). Walked node lawful allowed before taken c.args.top record { 0 = c.args.top.0 + 1 } c.args.key pairs l on.0) (sym c.in_ok-push.ensures.items) on.1,
      ),
    )

pub returns-clause-sought : goal.returns-clause-sought
returns-clause-sought g c =
    let before = g.C.Caller.sight c.args.c.now in
    let i = c.loop-key.invariant in
    sought_end g.U.NodeUsage.node g.U.Usage.lawful g.U.Usage.allowed before (g.C.Caller.sight c.loop-key.c) (g.C.Caller.sight c.step_past-2.new.c) c.args.top record { 0 = c.args.top.0 + 1 } c.args.key (pairs_at before c.args.list) c.loop-key.passed.items i.1.0
    refl i.1.1 (unset_where _ c.is_set.result c.is_set.ensures c.loop-key-test.false) c.step_past-2.ensures.rests c.step_past-2.ensures.here
