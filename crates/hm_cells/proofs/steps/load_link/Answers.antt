use Rattle.std.proofs.Common.{rules, sym, subst}
use Rattle.hm_cells.proofs.Words.{Facts, known_at, MayWant, wanted, facts_of}
use Rattle.hm_cells.proofs.Wanting.{HasLengths, want_may, want_reads}
use Rattle.hm_cells.proofs.Loading.{ground_here, link_found, link_now, link_ready, load_fit, load_version}
use Rattle.hm_cells.proofs.steps.load_link.Goals as goal

pub word_of-at-requires-clause-version : goal.word_of-at-requires-clause-version
word_of-at-requires-clause-version g c =
    let i = c.pass.inside in
    load_version g.U.Usage.lawful g.U.Usage.allowed i.seat i.grip i.own c.pass.invariant
    c.args.pass.now c.pass.view_is c.args.v c.requires.look

pub load-word-requires-clause-ready : goal.load-word-requires-clause-ready
load-word-requires-clause-ready g c =
    let i = c.pass.inside in
    let s : Facts g.row.U.Denot = facts_of i.seat i.grip in
    let long : HasLengths c.args.want = search rules in
    let may : MayWant s (known_at s c.args.v) c.args.want =
    subst (λ (f : Facts g.row.U.Denot). MayWant f (known_at f c.args.v) c.args.want)
    (sym c.pass.view_is) c.requires.want in
    link_ready g.U.Usage.lawful g.U.Usage.allowed i.seat i.grip i.own c.pass.invariant
    c.args.pass.now c.pass.view_is c.args.v c.requires.look c.word_of-at.result
    c.word_of-at.ensures.value c.args.scan
    (wanted s (known_at s c.args.v) c.args.want) c.requires.hand
    (want_reads g.U.Usage.lawful g.U.Usage.allowed g.U.Usage.laws s (known_at s c.args.v)
    c.args.want long may)
    (want_may g.U.Usage.lawful g.U.Usage.allowed g.U.Usage.laws s (known_at s c.args.v)
    c.args.want may)

pub note-requires-clause-ground : goal.note-requires-clause-ground
note-requires-clause-ground g c =
    let i = c.pass.inside in
    ground_here g.U.Usage.lawful g.U.Usage.allowed i.seat i.grip i.own c.pass.invariant
    c.args.pass.now c.pass.view_is

pub note-requires-clause-found : goal.note-requires-clause-found
note-requires-clause-found g c =
    let i = c.pass.inside in
    link_found g.U.Usage.lawful g.U.Usage.allowed i.seat i.grip i.own c.pass.invariant
    c.args.pass.now c.pass.view_is c.load-word.new.seat c.args.scan c.args.v
    (λ s. wanted s (known_at s c.args.v) c.args.want) c.load-word.result c.named-next.result
    c.load-word.ensures.told c.named-next.ensures.named

pub invariant_of-pass : goal.invariant_of-pass
invariant_of-pass g c =
    let i = c.pass.inside in
    let e = c.load-word.ensures in
    (link_now g.U.Usage.lawful g.U.Usage.allowed i.seat i.grip i.own c.pass.invariant
    c.args.pass.now c.pass.view_is c.load-word.new.seat c.args.scan c.args.v
    (λ s. wanted s (known_at s c.args.v) c.args.want) c.load-word.result c.named-next.result e.told
    c.named-next.ensures.named c.requires.look c.note.new.grip c.note.new.own e.own e.slots
    c.note.ensures.own c.note.ensures.grip).0

pub returns-clause-took : goal.returns-clause-took
returns-clause-took g c =
    let i = c.pass.inside in
    let e = c.load-word.ensures in
    (link_now g.U.Usage.lawful g.U.Usage.allowed i.seat i.grip i.own c.pass.invariant
    c.args.pass.now c.pass.view_is c.load-word.new.seat c.args.scan c.args.v
    (λ s. wanted s (known_at s c.args.v) c.args.want) c.load-word.result c.named-next.result e.told
    c.named-next.ensures.named c.requires.look c.note.new.grip c.note.new.own e.own e.slots
    c.note.ensures.own c.note.ensures.grip).1

pub returns-clause-fit : goal.returns-clause-fit
returns-clause-fit g c =
    let i = c.pass.inside in
    load_fit g.U.Usage.lawful g.U.Usage.allowed i.seat i.grip i.own c.pass.invariant
    c.args.pass.now c.pass.view_is c.args.v c.requires.look

pub returns-clause-sound : goal.returns-clause-sound
returns-clause-sound g c = (invariant_of-pass g c).sound
