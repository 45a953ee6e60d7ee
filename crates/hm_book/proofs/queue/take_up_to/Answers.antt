-- What the closure keeps is told by two functions.
use Rattle.std.proofs.Common.{rules}
use Rattle.hm_book.specs.Queue.{stays, stays_as}
use Rattle.hm_book.proofs.Retained.{retained_same}
use Rattle.hm_book.proofs.queue.take_up_to.Goals as goal

pub returns-clause-items : goal.returns-clause-items
returns-clause-items c =
    let test = stays c.args.side c.args.last.now c.args.quantity in
    let change = stays_as c.args.last.now c.args.quantity in
    retained_same _ test change _ (λ x b t y h. (search rules, search rules, search rules)) _ _ c.retain_mut.ensures.filtered
