use Rattle.std.proofs.Common.{refl, Option, IfSome, sym, subst}
use Rattle.hm_core.proofs.Words.{Entry, IsThere, store_of, Reads, own_part}
use Rattle.hm_core.proofs.EntryTests.{wants_fit}
use Rattle.hm_core.proofs.machine.Machine.wants.Goals as goal

pub returns-in-Some-want : goal.returns-in-Some-want
returns-in-Some-want c scan =
    let m = c.args.self.now in
    let t = wants_fit m c.args.caller c.in-Some.ensures.sound c.requires.awake c.args.v c.in-Some.at
    c.args.want scan (sym c.in-Some.ensures.known) c.requires.look in
    let P : Option Entry → Type 0 = λ o. IfSome o (Reads (IsThere (store_of m.history))
    (own_part m c.args.caller) c.in-Some.at) in (
      λ h. t.0 (subst P (sym c.in-Some-want.is) (c.reads.ensures.0 h)),
      λ f. c.reads.ensures.1 (subst P c.in-Some-want.is (t.1 f)),
    )

pub returns-in-None-want : goal.returns-in-None-want
returns-in-None-want c scan =
    let m = c.args.self.now in
    let t = wants_fit m c.args.caller c.in-Some.ensures.sound c.requires.awake c.args.v c.in-Some.at
    c.args.want scan (sym c.in-Some.ensures.known) c.requires.look in
    (λ h. t.0 (rw c.in-None-want.is tt), λ f. refl)
