-- The pass up to the maker of the last fill leaves what the fills leave.
use Rattle.std.proofs.Common.{◌≡◌, ◌-◌, length, Some, slice_get, rules, ◌∙◌}
use Rattle.hm_book.proofs.TakenFills.{last_maker-within, passed-last}
use Rattle.hm_book.proofs.queue.take_fills.Goals as goal

pub bounds-queue-fills : goal.bounds-queue-fills
bounds-queue-fills c =
    let is : slice_get c.args.fills.now (length c.args.fills.now - 1) ≡ Some c.in-Some.fill.now = search rules in
    last_maker-within c.args.queue.now c.args.fills.now c.requires.fills c.in-Some.fill.now is

pub returns-in-Some-clause-items : goal.returns-in-Some-clause-items
returns-in-Some-clause-items c =
    let is : slice_get c.args.fills.now (length c.args.fills.now - 1) ≡ Some c.in-Some.fill.now = search rules in
    c.take_up_to.ensures.items
    ∙ passed-last c.args.queue.now c.args.fills.now c.requires.fills c.in-Some.fill.now is c.args.order.now c.args.resting.now.items _ c.requires.rising c.requires.queue
