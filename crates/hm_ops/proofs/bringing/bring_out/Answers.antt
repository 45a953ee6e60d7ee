-- Each attempt goes on from where the one before has come.
use Rattle.std.proofs.Common.{◌≡◌, ◌<◌, Option, subst, sym, unwrap_or}
use Rattle.hm_shape.specs.declared.version.Version.{Version}
use Rattle.hm_ops.specs.Resting.{IsKept}
use Rattle.hm_ops.specs.Walking.{ahead}
use Rattle.hm_ops.specs.Bringing.{Brings, Comes, Searches}
use Rattle.hm_ops.specs.declared.bringing.Copied.TheVariants.{Already}
use Rattle.hm_ops.specs.declared.bringing.Search.TheVariants.{Goes, Ends}
use Rattle.hm_ops.proofs.Searching.{kept_last}
use Rattle.hm_ops.proofs.SearchSteps.{last_ends, last_goes, last_nearer, last_there, last_works}
use Rattle.hm_ops.proofs.bringing.bring_out.Goals as goal

pub attempt-requires-clause-kept : goal.attempt-requires-clause-kept
attempt-requires-clause-kept g c =
    let l = c.loop-next in
    subst (IsKept l.pass) (sym c.unwrap_or.ensures)
    (kept_last c.args.pass.now l.pass l.pass c.args.v c.args.scan l.later c.requires.kept l.invariant.comes)

pub last_of-later-requires : goal.last_of-later-requires
last_of-later-requires g c =
    let l = c.loop-next in
    last_there g.U.Usage.lawful g.U.Usage.allowed c.args.cells.now c.args.pass.now l.pass c.attempt.new.pass c.args.v
    c.unwrap_or.result c.args.scan l.later (Goes c.in-Goes.next) l.invariant.comes c.in-Goes.ensures.searches

pub last_of-requires : goal.last_of-requires
last_of-requires g c =
    let l = c.loop-next in
    last_there g.U.Usage.lawful g.U.Usage.allowed c.args.cells.now c.args.pass.now l.pass c.attempt.new.pass c.args.v
    c.unwrap_or.result c.args.scan l.later (Ends c.in-Ends.end) l.invariant.comes c.in-Ends.ensures.searches

pub loop-next-preserved : goal.loop-next-preserved
loop-next-preserved g c =
    let l = c.loop-next in
    let u = c.last_of-later.new.pass in
    let x = subst (λ (w : Version). Searches l.pass w c.args.scan (Goes c.in-Goes.next) c.attempt.new.pass)
    c.unwrap_or.ensures c.in-Goes.ensures.searches in
    record {
      comes = subst (λ (o : Option Version). Comes c.args.pass.now c.args.v c.args.scan Already o u)
          (sym c.last_of-later.ensures.last)
          (last_goes g.U.Usage.lawful g.U.Usage.allowed c.args.cells.now c.args.pass.now l.pass c.attempt.new.pass u
          c.args.v c.args.scan l.later c.requires.kept c.requires.hand l.invariant.comes c.in-Goes.next x
          c.in-Goes.ensures.works c.last_of-later.ensures.pass);
      works = last_works g.U.Usage.lawful g.U.Usage.allowed c.args.cells.now c.args.pass.now l.pass c.attempt.new.pass u
          c.args.v c.args.scan l.later c.requires.kept c.requires.hand l.invariant.comes (Goes c.in-Goes.next) x
          c.in-Goes.ensures.works c.last_of-later.ensures.pass;
    }

pub loop-next-smaller : goal.loop-next-smaller
loop-next-smaller g c =
    let l = c.loop-next in
    let m = c.args.cells.now in
    let u = c.last_of-later.new.pass in
    let x = subst (λ (w : Version). Searches l.pass w c.args.scan (Goes c.in-Goes.next) c.attempt.new.pass)
    c.unwrap_or.ensures c.in-Goes.ensures.searches in
    subst (λ (o : Option Version). ahead m u (unwrap_or o c.args.v) < ahead m l.pass (unwrap_or l.later c.args.v))
    (sym c.last_of-later.ensures.last)
    (last_nearer g.U.Usage.lawful g.U.Usage.allowed m c.args.pass.now l.pass c.attempt.new.pass u
    c.args.v c.args.scan l.later c.requires.kept c.requires.hand l.invariant.comes c.in-Goes.next x
    c.in-Goes.ensures.works c.last_of-later.ensures.pass)

pub returns-in-Ends-clause-brings : goal.returns-in-Ends-clause-brings
returns-in-Ends-clause-brings g c =
    let l = c.loop-next in
    let u = c.last_of.new.pass in
    let x = subst (λ (w : Version). Searches l.pass w c.args.scan (Ends c.in-Ends.end) c.attempt.new.pass)
    c.unwrap_or.ensures c.in-Ends.ensures.searches in
    subst (λ (o : Option Version). Brings c.args.pass.now c.args.v c.args.scan
    record { copied = c.in-Ends.end.copied; later = o } u)
    (sym c.last_of.ensures.last)
    (last_ends g.U.Usage.lawful g.U.Usage.allowed c.args.cells.now c.args.pass.now l.pass c.attempt.new.pass u
    c.args.v c.args.scan l.later c.requires.kept c.requires.hand l.invariant.comes c.in-Ends.end x
    c.in-Ends.ensures.works c.last_of.ensures.pass)

pub returns-in-Ends-clause-works : goal.returns-in-Ends-clause-works
returns-in-Ends-clause-works g c =
    let l = c.loop-next in
    let x = subst (λ (w : Version). Searches l.pass w c.args.scan (Ends c.in-Ends.end) c.attempt.new.pass)
    c.unwrap_or.ensures c.in-Ends.ensures.searches in
    last_works g.U.Usage.lawful g.U.Usage.allowed c.args.cells.now c.args.pass.now l.pass c.attempt.new.pass
    c.last_of.new.pass c.args.v c.args.scan l.later c.requires.kept c.requires.hand l.invariant.comes
    (Ends c.in-Ends.end) x c.in-Ends.ensures.works c.last_of.ensures.pass
