-- First what the act does to stage and regions, then what is found, published and let go.
use Rattle.std.proofs.Common.{◌≡◌, sym, ap, ◌∙◌, subst, arith}
use Rattle.hm_core.proofs.Words.{HandState}
use Rattle.hm_core.specs.Hands.{CanWork, hand_bared, hand_noted, hand_readied, hand_worked}
use Rattle.hm_core.proofs.Following.{cursor_readied, followed, work_readied}
use Rattle.hm_core.proofs.hand.Hand.follow.Goals as goal

pub note-requires-clause-cursor : goal.note-requires-clause-cursor
note-requires-clause-cursor c =
    let most = cursor_readied c.args.shape c.args.caller c.args.self.now
    c.args.m.now.act c.args.x in
    let at : c.ready.new.self.cycle.scan.cursor
    ≡ (hand_readied c.args.shape c.args.caller c.args.self.now c.args.m.now.act
    c.args.x).cycle.scan.cursor =
    ap (λ (h : HandState). h.cycle.scan.cursor) (c.ready.ensures c.args.shape) in
    omega (arith, most, at, c.requires.cursor)

pub work-requires : goal.work-requires
work-requires c =
    let s = c.args.shape in
    let m = c.args.m.now in
    let now = c.note.ensures
    ∙ ap (λ (h : HandState). hand_noted s h m c.args.found) (c.ready.ensures s) in
    subst (λ (h : HandState). CanWork h m c.args.x c.args.found) (sym now)
    (work_readied s c.args.caller c.args.self.now m c.args.x c.args.found c.requires.work)

pub returns : goal.returns
returns c h is =
    let s = c.args.shape in
    let q = c.args.caller in
    let m = c.args.m.now in
    let x = c.args.x in
    let found = c.args.found in
    c.bare.ensures ∙ (ap (hand_bared s) c.work.ensures
    ∙ (ap (λ (l : HandState). hand_bared s (hand_worked l m x found)) c.note.ensures
    ∙ (ap (λ (l : HandState). hand_bared s (hand_worked (hand_noted s l m found) m x found))
    (c.ready.ensures s)
    ∙ (ap (λ (l : HandState). hand_bared s (hand_worked
    (hand_noted s (hand_readied s q l m.act x) m found) m x found)) is
    ∙ followed s q h m.act m.scan m.let_go x found))))
