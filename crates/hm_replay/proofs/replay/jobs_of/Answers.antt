-- Each pass is ready for its orders, and has its job.
use Rattle.std.proofs.Common.{rules, ◌≡◌, ◌∙◌, ◌<◌, ◌++◌, ◌∷◌, [], length, map, sym, ap, subst}
use Rattle.std.proofs.lemmas.List.{append_assoc}
use Rattle.hm_replay.specs.Working.{AreJobs}
use Rattle.hm_replay.proofs.Jobs.{count_more, jobs_more, next_ready, next_rests, next_within, own_orders}
use Rattle.hm_replay.proofs.replay.jobs_of.Goals as goal

pub new-requires-clause-ready : goal.new-requires-clause-ready
new-requires-clause-ready c =
    let place : length c.loop-pass.yielded ≡ c.len.result = search rules in
    let all = c.loop-pass.invariant.all ∙ ap (λ l. c.loop-pass.yielded ++ l) c.in-Some.ensures.steps.0 in
    let within : c.len.result < length c.args.files.now =
    subst (λ n. n < length c.args.files.now) place
    (next_within _ c.loop-pass.yielded c.in-Some.pass c.next.new.self.rest.items c.args.files.now all c.requires.ready.1.count) in
    next_ready _ _ _ c.requires.ready.1 c.loop-pass.yielded c.in-Some.pass c.next.new.self.rest.items
    all _
    (own_orders c.args.files.now _ c.len.result c.index-files-len.result _ place within c.index-files-len.is
    c.as_slice-orders.ensures.value)

pub loop-pass-preserved : goal.loop-pass-preserved
loop-pass-preserved c =
    let i = c.loop-pass.invariant in
    let place : length c.loop-pass.yielded ≡ c.len.result = search rules in
    let all = i.all ∙ ap (λ l. c.loop-pass.yielded ++ l) c.in-Some.ensures.steps.0 in
    let within : c.len.result < length c.args.files.now =
    subst (λ n. n < length c.args.files.now) place
    (next_within _ c.loop-pass.yielded c.in-Some.pass c.next.new.self.rest.items c.args.files.now all c.requires.ready.1.count) in
    record {
      count = count_more _ _ c.new.result c.loop-pass.yielded c.in-Some.pass c.push_reserved.ensures.items i.count;
      all = all ∙ sym (append_assoc c.loop-pass.yielded (c.in-Some.pass ∷ []) c.next.new.self.rest.items);
      room = search rules;
      jobs = subst (AreJobs c.args.passes.items (map (λ orders. orders.items) c.args.files.now))
          (sym c.push_reserved.ensures.items)
          (jobs_more _ _ _ i.jobs c.loop-pass.yielded i.count c.in-Some.pass c.next.new.self.rest.items all c.new.result
          c.new.ensures.pass
          (own_orders c.args.files.now _ c.len.result c.index-files-len.result _ place within c.index-files-len.is
          (c.new.ensures.orders ∙ c.as_slice-orders.ensures.value)));
    }

pub new-requires-clause-rests : goal.new-requires-clause-rests
new-requires-clause-rests c =
    next_rests c.args.heap.now c.args.passes.items c.requires.all c.requires.rest c.loop-pass.yielded
    c.in-Some.pass c.next.new.self.rest.items
    (c.loop-pass.invariant.all ∙ ap (λ l. c.loop-pass.yielded ++ l) c.in-Some.ensures.steps.0)
