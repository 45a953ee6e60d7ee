-- Where the attempt was stored one order more is applied; where it was not, what was noted is taken away again.
use Rattle.std.proofs.Common.{◌≡◌, ◌∙◌, List, Err, refl, ap, sym, subst, slice_index}
use Rattle.std.specs.Prelude.{◌+◌}
use Rattle.hm_orders.specs.declared.report.Done.{Done}
use Rattle.hm_model.specs.declared.root.StoreIfRefused.{StoreIfRefused}
use Rattle.hm_model.specs.declared.root.StoreIfRefused.TheVariants as refusal
use Rattle.hm_desk.specs.Working.{IsAtDesk, IsAtWork}
use Rattle.hm_desk.proofs.Coming.{work_quietly}
use Rattle.hm_desk.proofs.Storing.{next_order, work_stored, desk_refused, greater_refused, quiet_refused, changed_refused, pushed, popped}
use Rattle.hm_desk.proofs.applying.store.Goals as goal

pub store_if-requires-clause-allowed : goal.store_if-requires-clause-allowed
store_if-requires-clause-allowed g c =
    let it = next_order _ _ _ c.requires.more c.requires.order in it.2.allowed

pub returns-in-Ok-clause-work : goal.returns-in-Ok-clause-work
returns-in-Ok-clause-work g c =
    let it = next_order _ _ _ c.requires.more c.requires.order in
    let noted = pushed c.push.result _ (sym c.if-is_err.ensures.value) c.push.ensures.noted in
    let p = c.args.so_far.now in
    subst (λ (dones : List Done). IsAtWork (g.C.Caller.sight c.store_if.new.self) c.args.orders.now record {
      next = p.next + 1;
      told = p.told;
      done = dones;
      resting = slice_index c.args.attempt.numbers 8;
    }) (sym noted)
    (work_stored _ _ _ _ it.0 c.args.attempt _ _ refl c.requires.work it.1 c.requires.more c.requires.settled it.2
    c.in-Ok.ensures.stored)

taken_away : (g : _) (c : goal.After-from g) → c.pop.new.self ≡ c.args.so_far.now.done
taken_away g c =
    popped _ _ _ _ c.pop.result (pushed c.push.result _ (sym c.if-is_err.ensures.value) c.push.ensures.noted)
    c.pop.ensures.last c.pop.ensures.none

-- a refusal as full leaves the caller as it was
untouched : (g : _) (c : goal.After-from g) → c.in-Err.refused ≡ refusal.Full
    → g.C.Caller.sight c.store_if.new.self ≡ g.C.Caller.sight c.args.c.now
untouched g c is = c.store_if.ensures.unchanged (c.in-Err.is ∙ ap (λ (e : StoreIfRefused). Err e) is)

desk_after : (g : _) (c : goal.After-from g) → IsAtDesk (g.C.Caller.sight c.store_if.new.self)
desk_after g c =
    desk_refused _ _ _ _ _ _ c.in-Err.refused c.requires.work.desk (untouched g c) c.in-Err.ensures.changed

pub returns-in-Err-clause-work : goal.returns-in-Err-clause-work
returns-in-Err-clause-work g c =
    let p = c.args.so_far.now in
    subst (λ (dones : List Done). IsAtWork (g.C.Caller.sight c.store_if.new.self) c.args.orders.now record {
      next = p.next;
      told = p.told;
      done = dones;
      resting = p.resting;
    }) (sym (taken_away g c))
    (work_quietly _ _ _ p c.requires.work
    (quiet_refused _ _ _ _ _ _ c.in-Err.refused (untouched g c) c.in-Err.ensures.changed) (desk_after g c))

pub returns-in-Err-clause-unchanged : goal.returns-in-Err-clause-unchanged
returns-in-Err-clause-unchanged g c other =
    let p = c.args.so_far.now in
    ap (λ (dones : List Done). record { next = p.next; told = p.told; done = dones; resting = p.resting }) (taken_away g c)

pub returns-in-Err-clause-changed : goal.returns-in-Err-clause-changed
returns-in-Err-clause-changed g c is =
    changed_refused _ _ _ _ _ _ c.in-Err.refused refl c.requires.work.desk (desk_after g c) c.requires.stamp
    c.in-Err.ensures.stamp c.in-Err.ensures.changed (sym c.from.ensures ∙ is)

pub returns-in-Err-clause-greater : goal.returns-in-Err-clause-greater
returns-in-Err-clause-greater g c is =
    greater_refused _ _ _ _ _ _ c.in-Err.refused refl c.requires.work.desk (desk_after g c) c.requires.stamp
    c.in-Err.ensures.changed (sym c.from.ensures ∙ is)
