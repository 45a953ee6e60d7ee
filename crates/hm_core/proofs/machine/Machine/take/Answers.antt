-- The code leaves the plain data after the move.
use Rattle.std.proofs.Common.{rules, ◌<◌, ◌^◌, sym, ap, ◌∙◌, subst}
use Rattle.hm_core.proofs.Words.{ChronicleState, core_of, IsSound}
use Rattle.hm_core.proofs.Moments.{awake_below, done_few}
use Rattle.hm_core.proofs.MoveNeeds.{row_small}
use Rattle.hm_core.proofs.MoveTaken.{reading, stage_small, noted_again, stands_now, stamp_now, caller_now, follow_now, packs_now, readied_now, below_now, small_now, after_is, sound_now, core_now, done_is, done_fits, low_now, hands_now}
use Rattle.hm_core.proofs.machine.Machine.take.Goals as goal

pub word_of-at-requires-clause-caller : goal.word_of-at-requires-clause-caller
word_of-at-requires-clause-caller c =
    awake_below c.args.self.now (subst IsSound c.self.view_is c.self.invariant.sound) c.args.caller
    c.requires.awake

pub ends_cycle-ends-requires : goal.ends_cycle-ends-requires
ends_cycle-ends-requires c =
    let m = c.args.self.now in
    let read = reading c.self.view_is c.self.invariant.sound c.requires.awake c.requires.may
    c.word_of-at.ensures.value c.word_of-at.ensures.below c.index-x.ensures
    (stage_small _ m c.self.view_is c.self.invariant.sound c.index-stage.result.now
    c.index-stage.ensures
    (let small : c.index-stage.result.now < 2 ^ 64 = search rules in small)) in
    packs_now read

pub row_of-row-requires : goal.row_of-row-requires
row_of-row-requires c =
    awake_below c.args.self.now (subst IsSound c.self.view_is c.self.invariant.sound) c.args.caller
    c.requires.awake

pub enter-requires : goal.enter-requires
enter-requires c =
    let m = c.args.self.now in
    let read = reading c.self.view_is c.self.invariant.sound c.requires.awake c.requires.may
    c.word_of-at.ensures.value c.word_of-at.ensures.below c.index-x.ensures
    (stage_small _ m c.self.view_is c.self.invariant.sound c.index-stage.result.now
    c.index-stage.ensures
    (let small : c.index-stage.result.now < 2 ^ 64 = search rules in small)) in
    record {
      stands = stands_now read c.entry.result c.entry.ensures;
      caller = caller_now read c.entry.result _ c.entry.ensures c.self.invariant.makers;
      stamp = stamp_now read c.entry.result c.entry.ensures;
    }

pub free-requires : goal.free-requires
free-requires c =
    let m = c.args.self.now in
    let read = reading c.self.view_is c.self.invariant.sound c.requires.awake c.requires.may
    c.word_of-at.ensures.value c.word_of-at.ensures.below c.index-x.ensures
    (stage_small _ m c.self.view_is c.self.invariant.sound c.index-stage.result.now
    c.index-stage.ensures
    (let small : c.index-stage.result.now < 2 ^ 64 = search rules in small)) in
    record {
      caller = low_now read;
      rows = c.self.invariant.sound.rows_size;
      freed = λ row. (row_small _ c.self.invariant.sound row).2;
    }

pub end-requires : goal.end-requires
end-requires c =
    let m = c.args.self.now in
    let read = reading c.self.view_is c.self.invariant.sound c.requires.awake c.requires.may
    c.word_of-at.ensures.value c.word_of-at.ensures.below c.index-x.ensures
    (stage_small _ m c.self.view_is c.self.invariant.sound c.index-stage.result.now
    c.index-stage.ensures
    (let small : c.index-stage.result.now < 2 ^ 64 = search rules in small)) in
    record {
      hands = hands_now read c.enter.new.hand c.as_slice.result.now c.as_slice.ensures.value;
      rows = c.free.ensures.long ∙ c.self.invariant.sound.rows_size;
    }

pub overflow_add-self : goal.overflow_add-self
overflow_add-self c =
    let few = done_few _ c.self.invariant.sound in
    let fits = done_fits c.ends_cycle-ends.result c.self.inside.done c.from.result few
    c.from.ensures in search rules

pub becomes-requires : goal.becomes-requires
becomes-requires c =
    let m = c.args.self.now in
    let read = reading c.self.view_is c.self.invariant.sound c.requires.awake c.requires.may
    c.word_of-at.ensures.value c.word_of-at.ensures.below c.index-x.ensures
    (stage_small _ m c.self.view_is c.self.invariant.sound c.index-stage.result.now
    c.index-stage.ensures
    (let small : c.index-stage.result.now < 2 ^ 64 = search rules in small)) in
    packs_now read

pub follow-requires : goal.follow-requires
follow-requires c =
    let m = c.args.self.now in
    let read = reading c.self.view_is c.self.invariant.sound c.requires.awake c.requires.may
    c.word_of-at.ensures.value c.word_of-at.ensures.below c.index-x.ensures
    (stage_small _ m c.self.view_is c.self.invariant.sound c.index-stage.result.now
    c.index-stage.ensures
    (let small : c.index-stage.result.now < 2 ^ 64 = search rules in small)) in
    follow_now read c.index_mut-hand.result.now c.index_mut-2.result.now c.enter.new.hand
    c.finds-found.result
    c.index_mut-hand.ensures.value c.in_ok-enter.ensures.noted c.index_mut-2.ensures.value
    c.finds-found.ensures

pub publish-requires : goal.publish-requires
publish-requires c =
    let m = c.args.self.now in
    let read = reading c.self.view_is c.self.invariant.sound c.requires.awake c.requires.may
    c.word_of-at.ensures.value c.word_of-at.ensures.below c.index-x.ensures
    (stage_small _ m c.self.view_is c.self.invariant.sound c.index-stage.result.now
    c.index-stage.ensures
    (let small : c.index-stage.result.now < 2 ^ 64 = search rules in small)) in
    let are = readied_now read c.index_mut-hand.result.now c.index.result.now c.enter.new.hand
    c.as_slice.result.now c.ends_cycle-ends.result c.free.new.rows.items c.end.new.rows.items
    c.end.new.known.items
    c.index_mut-hand.ensures.value c.in_ok-enter.ensures.noted c.index.ensures
    c.as_slice.ensures.value c.ends_cycle-ends.ensures
    c.free.ensures.freed c.free.ensures.long c.end.ensures.dead c.end.ensures.rows_long
    c.end.ensures.forgotten c.end.ensures.known_long in
    let small = small_now read c.free.new.rows.items c.end.new.rows.items c.end.new.known.items are
    c.row_of-row.result c.index_mut-3.result.now c.publishes-fresh.result c.row_of-row.ensures.below
    c.index_mut-3.ensures.value c.publishes-fresh.ensures in
    record {
      below = below_now read c.free.new.rows.items c.end.new.rows.items c.end.new.known.items are
          c.publishes-fresh.result c.publishes-fresh.ensures;
      used = small.0;
      made = small.1;
    }

pub invariant_of-self-2 : goal.invariant_of-self-2
invariant_of-self-2 c =
    let m = c.args.self.now in
    let read = reading c.self.view_is c.self.invariant.sound c.requires.awake c.requires.may
    c.word_of-at.ensures.value c.word_of-at.ensures.below c.index-x.ensures
    (stage_small _ m c.self.view_is c.self.invariant.sound c.index-stage.result.now
    c.index-stage.ensures
    (let small : c.index-stage.result.now < 2 ^ 64 = search rules in small)) in
    let are = readied_now read c.index_mut-hand.result.now c.index.result.now c.enter.new.hand
    c.as_slice.result.now c.ends_cycle-ends.result c.free.new.rows.items c.end.new.rows.items
    c.end.new.known.items
    c.index_mut-hand.ensures.value c.in_ok-enter.ensures.noted c.index.ensures
    c.as_slice.ensures.value c.ends_cycle-ends.ensures
    c.free.ensures.freed c.free.ensures.long c.end.ensures.dead c.end.ensures.rows_long
    c.end.ensures.forgotten c.end.ensures.known_long in
    let is = after_is read c.free.new.rows.items c.end.new.rows.items c.end.new.known.items are
    c.enter.new.hand
    c.becomes.ensures c.row_of-row.ensures.row c.row_of-row.ensures.below c.publish.ensures.known
    (ap (λ (z : ChronicleState). z.entries) c.in_ok-enter.ensures.entries)
    c.index_mut-3.ensures.value c.publish.ensures.row c.index_mut-hand.ensures.value
    (c.follow.ensures c.index_mut-hand.result.now
    (noted_again read c.index_mut-hand.result.now c.index_mut-2.result.now
    c.enter.new.hand c.index_mut-hand.ensures.value c.in_ok-enter.ensures.noted
    c.index_mut-2.ensures.value))
    c.index_mut-seat.ensures.value c.in_ok-enter.ensures.seen c.entry.ensures c.finds-found.ensures
    c.publishes-fresh.ensures
    (done_is c.ends_cycle-ends.result _ c.self.inside.done c.from.result c.ends_cycle-ends.ensures
    c.from.ensures) in
    record {
      sound = subst IsSound (sym is)
          (sound_now read c.free.new.rows.items c.end.new.rows.items c.end.new.known.items are);
      makers = ap (λ (z : ChronicleState). z.makers) c.in_ok-enter.ensures.entries
          ∙ c.self.invariant.makers;
    }

pub returns-clause-taken : goal.returns-clause-taken
returns-clause-taken c =
    let m = c.args.self.now in
    let read = reading c.self.view_is c.self.invariant.sound c.requires.awake c.requires.may
    c.word_of-at.ensures.value c.word_of-at.ensures.below c.index-x.ensures
    (stage_small _ m c.self.view_is c.self.invariant.sound c.index-stage.result.now
    c.index-stage.ensures
    (let small : c.index-stage.result.now < 2 ^ 64 = search rules in small)) in
    let are = readied_now read c.index_mut-hand.result.now c.index.result.now c.enter.new.hand
    c.as_slice.result.now c.ends_cycle-ends.result c.free.new.rows.items c.end.new.rows.items
    c.end.new.known.items
    c.index_mut-hand.ensures.value c.in_ok-enter.ensures.noted c.index.ensures
    c.as_slice.ensures.value c.ends_cycle-ends.ensures
    c.free.ensures.freed c.free.ensures.long c.end.ensures.dead c.end.ensures.rows_long
    c.end.ensures.forgotten c.end.ensures.known_long in
    let is = after_is read c.free.new.rows.items c.end.new.rows.items c.end.new.known.items are
    c.enter.new.hand
    c.becomes.ensures c.row_of-row.ensures.row c.row_of-row.ensures.below c.publish.ensures.known
    (ap (λ (z : ChronicleState). z.entries) c.in_ok-enter.ensures.entries)
    c.index_mut-3.ensures.value c.publish.ensures.row c.index_mut-hand.ensures.value
    (c.follow.ensures c.index_mut-hand.result.now
    (noted_again read c.index_mut-hand.result.now c.index_mut-2.result.now
    c.enter.new.hand c.index_mut-hand.ensures.value c.in_ok-enter.ensures.noted
    c.index_mut-2.ensures.value))
    c.index_mut-seat.ensures.value c.in_ok-enter.ensures.seen c.entry.ensures c.finds-found.ensures
    c.publishes-fresh.ensures
    (done_is c.ends_cycle-ends.result _ c.self.inside.done c.from.result c.ends_cycle-ends.ensures
    c.from.ensures) in
    ap core_of is ∙ core_now read c.free.new.rows.items c.end.new.rows.items
    c.end.new.known.items are
