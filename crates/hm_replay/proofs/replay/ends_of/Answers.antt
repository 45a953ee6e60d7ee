-- One job more has ended.
use Rattle.std.proofs.Common.{rules, ◌≡◌, ◌∙◌, ◌++◌, ◌∷◌, List, [], ap, sym}
use Rattle.std.proofs.lemmas.List.{append_assoc, map-append}
use Rattle.std.proofs.lemmas.List.Elements.{All-append, All-cons, All-nil}
use Rattle.hm_replay.specs.Working.{IsAtWork, Working}
use Rattle.hm_replay.proofs.Jobs.{count_more}
use Rattle.hm_replay.proofs.replay.ends_of.Goals as goal

pub loop-job-preserved : goal.loop-job-preserved
loop-job-preserved c =
    let i = c.loop-job.invariant in
    let one : List Working = c.in-Some.job ∷ [] in
    let all = i.all ∙ ap (λ l. c.loop-job.yielded ++ l) c.in-Some.ensures.steps.0 in
    record {
      all = all ∙ sym (append_assoc c.loop-job.yielded one c.next.new.self.rest.items);
      first = count_more _ _ c.end-pass.result.0 c.loop-job.yielded c.in-Some.job c.push_reserved.ensures.items i.first;
      second = count_more _ _ c.end-pass.result.1 c.loop-job.yielded c.in-Some.job c.push_reserved-in-loop-job.ensures.items i.second;
      passes = c.push_reserved.ensures.items
          ∙ ((λ j. i.passes j ++ c.end-pass.ensures.pass j ∷ [])
          ∙ sym (map-append (λ (job : Working). job.pass) c.loop-job.yielded one));
      came = c.push_reserved-in-loop-job.ensures.items
          ∙ ((λ j. i.came j ++ c.end-pass.ensures.came j ∷ [])
          ∙ sym (map-append (λ (job : Working). job.came) c.loop-job.yielded one));
      room = search rules;
      more = search rules;
      at_work = All-append IsAtWork c.loop-job.yielded one i.at_work
          (All-cons IsAtWork c.in-Some.job [] c.end-pass.ensures.at_work (All-nil IsAtWork));
    }
