use Rattle.std.proofs.Common.{rules, refl, Some}
use Rattle.hm_cells.proofs.Words.{known_at, linked, stored}
use Rattle.hm_cells.proofs.Wanting.{HasLengths}
use Rattle.hm_cells.proofs.Loading.{ground_here, load_fit, load_version}
use Rattle.hm_cells.proofs.Linking.{later_now, later_version, link_store_ready, made_now}
use Rattle.hm_cells.proofs.steps.link_store.Goals as goal

pub word_of-at-requires-clause-version : goal.word_of-at-requires-clause-version
word_of-at-requires-clause-version g c =
    let i = c.pass.inside in
    load_version g.U.Usage.lawful g.U.Usage.allowed i.seat i.grip i.own c.pass.invariant
    c.args.pass.now c.pass.view_is c.args.v c.requires.look

pub exchange-word-requires-clause-ready : goal.exchange-word-requires-clause-ready
exchange-word-requires-clause-ready g c =
    let i = c.pass.inside in
    let long : HasLengths c.args.want = search rules in
    link_store_ready g.U.Usage.lawful g.U.Usage.allowed i.seat i.grip i.own c.pass.invariant
    c.args.pass.now c.pass.view_is c.next_version-next.result c.next_version-next.ensures c.args.v
    c.requires.look c.args.want c.word_of-at.result c.name.result c.word_of-at.ensures.value
    c.name.ensures long c.requires.want
    c.requires.room c.requires.hand c.requires.whole c.requires.allowed

pub invariant_of-pass : goal.invariant_of-pass
invariant_of-pass g c =
    let i = c.pass.inside in
    let e = c.exchange-word.ensures in
    (made_now g.U.Usage.lawful g.U.Usage.allowed i.seat i.grip i.own c.pass.invariant
    c.args.pass.now c.pass.view_is c.next_version-next.result c.next_version-next.ensures c.args.v
    c.requires.look (λ f. linked f (known_at f c.args.v) c.args.want)
    (λ f. Some (stored f (known_at f c.args.v) c.args.want)) refl
    c.exchange-word.new.seat c.exchange-word.result e.told c.in-None.ensures.named c.take.new.self
    e.own e.slots c.take.ensures).0

pub note-requires-clause-ground : goal.note-requires-clause-ground
note-requires-clause-ground g c =
    let i = c.pass.inside in
    ground_here g.U.Usage.lawful g.U.Usage.allowed i.seat i.grip i.own c.pass.invariant
    c.args.pass.now c.pass.view_is

pub note-requires-clause-found : goal.note-requires-clause-found
note-requires-clause-found g c =
    let i = c.pass.inside in
    later_version g.U.Usage.lawful g.U.Usage.allowed i.seat i.grip i.own c.pass.invariant
    c.args.pass.now c.pass.view_is c.next_version-next.result c.next_version-next.ensures c.args.v
    c.requires.look (λ f. linked f (known_at f c.args.v) c.args.want)
    (λ f. Some (stored f (known_at f c.args.v) c.args.want)) refl
    c.exchange-word.new.seat c.exchange-word.result c.exchange-word.ensures.told c.in-Some.later
    c.in-Some.ensures.named

pub invariant_of-pass-in-Some : goal.invariant_of-pass-in-Some
invariant_of-pass-in-Some g c =
    let i = c.pass.inside in
    let e = c.exchange-word.ensures in
    (later_now g.U.Usage.lawful g.U.Usage.allowed i.seat i.grip i.own c.pass.invariant
    c.args.pass.now c.pass.view_is c.next_version-next.result c.next_version-next.ensures c.args.v
    c.requires.look (λ f. linked f (known_at f c.args.v) c.args.want)
    (λ f. Some (stored f (known_at f c.args.v) c.args.want)) refl
    c.exchange-word.new.seat c.exchange-word.result e.told c.in-Some.later c.in-Some.ensures.named
    c.note.new.grip c.note.new.own e.own e.slots c.note.ensures.own c.note.ensures.grip).0

pub returns-in-None-clause-took : goal.returns-in-None-clause-took
returns-in-None-clause-took g c =
    let i = c.pass.inside in
    let e = c.exchange-word.ensures in
    (made_now g.U.Usage.lawful g.U.Usage.allowed i.seat i.grip i.own c.pass.invariant
    c.args.pass.now c.pass.view_is c.next_version-next.result c.next_version-next.ensures c.args.v
    c.requires.look (λ f. linked f (known_at f c.args.v) c.args.want)
    (λ f. Some (stored f (known_at f c.args.v) c.args.want)) refl
    c.exchange-word.new.seat c.exchange-word.result e.told c.in-None.ensures.named c.take.new.self
    e.own e.slots c.take.ensures).1

pub returns-in-None-clause-fit : goal.returns-in-None-clause-fit
returns-in-None-clause-fit g c =
    let i = c.pass.inside in
    load_fit g.U.Usage.lawful g.U.Usage.allowed i.seat i.grip i.own c.pass.invariant
    c.args.pass.now c.pass.view_is c.args.v c.requires.look

pub returns-in-None-clause-sound : goal.returns-in-None-clause-sound
returns-in-None-clause-sound g c = (invariant_of-pass g c).sound

pub returns-in-Some-clause-took : goal.returns-in-Some-clause-took
returns-in-Some-clause-took g c =
    let i = c.pass.inside in
    let e = c.exchange-word.ensures in
    (later_now g.U.Usage.lawful g.U.Usage.allowed i.seat i.grip i.own c.pass.invariant
    c.args.pass.now c.pass.view_is c.next_version-next.result c.next_version-next.ensures c.args.v
    c.requires.look (λ f. linked f (known_at f c.args.v) c.args.want)
    (λ f. Some (stored f (known_at f c.args.v) c.args.want)) refl
    c.exchange-word.new.seat c.exchange-word.result e.told c.in-Some.later c.in-Some.ensures.named
    c.note.new.grip c.note.new.own e.own e.slots c.note.ensures.own c.note.ensures.grip).1

pub returns-in-Some-clause-fit : goal.returns-in-Some-clause-fit
returns-in-Some-clause-fit g c =
    let i = c.pass.inside in
    load_fit g.U.Usage.lawful g.U.Usage.allowed i.seat i.grip i.own c.pass.invariant
    c.args.pass.now c.pass.view_is c.args.v c.requires.look

pub returns-in-Some-clause-sound : goal.returns-in-Some-clause-sound
returns-in-Some-clause-sound g c = (invariant_of-pass-in-Some g c).sound
