-- Each return gives the effect of trading along the queue, by whether something is left and rests.
use Rattle.std.proofs.Common.{◌≡◌, ◌+◌, ◌∷◌, [], ◌++◌, true, false, sym, ap, ◌∙◌, arith, rules}
use Rattle.hm_book.specs.Effect.{Effect, keeps_rest, rest_of}
use Rattle.hm_book.specs.Queue.{IsQueue, book_after_all, can_trade, fills_along, left_along}
use Rattle.hm_book.proofs.Effects.{trade_effect-filled, trade_effect-rested, trade_effect-dropped}
use Rattle.hm_book.proofs.trading.trade.Goals as goal

pub returns-then-left-eq0 : goal.returns-then-left-eq0
returns-then-left-eq0 c =
    let order = c.args.order.now in
    let book = c.args.resting.now.items in
    let queue = c.in_ok-queue.queue.items in
    let along = fills_along (c.args.made + 1) c.args.root order.quantity queue in
    let is : IsQueue order.side (can_trade order) book queue = rw c.deref.ensures.value at c.in_ok-queue.ensures.queue in
    let left : c.in_ok-fills.left ≡ left_along order.quantity queue = rw c.deref-2.ensures.value at c.in_ok-fills.ensures.left in
    let fills : c.in_ok-fills.fills.items ≡ along = rw c.deref-2.ensures.value at c.in_ok-fills.ensures.fills in
    let taken : c.take_fills.new.resting.items ≡ book_after_all c.in_ok-fills.fills.items book =
    rw c.deref-then-left-eq0-2.ensures.value at c.take_fills.ensures.items in
    let effect =
    trade_effect-filled order c.args.root c.args.made book queue c.requires.fresh c.requires.rising is
    (sym left ∙ omega arith) in
    record {
      fate = sym (ap (λ (e : Effect). e.fate) effect);
      fills = fills ∙ sym (ap (λ (e : Effect). e.fills) effect);
      book = taken ∙ ap (λ fs. book_after_all fs book) fills ∙ sym (ap (λ (e : Effect). e.book) effect);
      memory = tt;
    }

pub returns-then-not-keeps_rest : goal.returns-then-not-keeps_rest
returns-then-not-keeps_rest c =
    let order = c.args.order.now in
    let book = c.args.resting.now.items in
    let queue = c.in_ok-queue.queue.items in
    let along = fills_along (c.args.made + 1) c.args.root order.quantity queue in
    let is : IsQueue order.side (can_trade order) book queue = rw c.deref.ensures.value at c.in_ok-queue.ensures.queue in
    let left : c.in_ok-fills.left ≡ left_along order.quantity queue = rw c.deref-2.ensures.value at c.in_ok-fills.ensures.left in
    let fills : c.in_ok-fills.fills.items ≡ along = rw c.deref-2.ensures.value at c.in_ok-fills.ensures.fills in
    let taken : c.take_fills-then-not-keeps_rest.new.resting.items ≡ book_after_all c.in_ok-fills.fills.items book =
    rw c.deref-then-not-keeps_rest-2.ensures.value at c.take_fills-then-not-keeps_rest.ensures.items in
    let drops : keeps_rest order.kind ≡ false = search rules in
    let effect =
    trade_effect-dropped order c.args.root c.args.made book queue c.requires.fresh c.requires.rising is drops
    (λ none. omega (arith, left, none)) in
    record {
      fate = sym (ap (λ (e : Effect). e.fate) effect);
      fills = fills ∙ sym (ap (λ (e : Effect). e.fills) effect);
      book = taken ∙ ap (λ fs. book_after_all fs book) fills ∙ sym (ap (λ (e : Effect). e.book) effect);
      memory = tt;
    }

pub returns : goal.returns
returns c =
    let order = c.args.order.now in
    let book = c.args.resting.now.items in
    let queue = c.in_ok-queue.queue.items in
    let along = fills_along (c.args.made + 1) c.args.root order.quantity queue in
    let is : IsQueue order.side (can_trade order) book queue = rw c.deref.ensures.value at c.in_ok-queue.ensures.queue in
    let left : c.in_ok-fills.left ≡ left_along order.quantity queue = rw c.deref-2.ensures.value at c.in_ok-fills.ensures.left in
    let fills : c.in_ok-fills.fills.items ≡ along = rw c.deref-2.ensures.value at c.in_ok-fills.ensures.fills in
    let taken : c.take_fills-2.new.resting.items ≡ book_after_all c.in_ok-fills.fills.items book =
    rw (c.deref-4.ensures.value, c.in_ok-reserve.ensures.items) at c.take_fills-2.ensures.items in
    let rest : c.rest_of.result ≡ rest_of order c.args.root (left_along order.quantity queue) =
    c.rest_of.ensures ∙ ap (rest_of order c.args.root) left in
    let keeps : keeps_rest order.kind ≡ true = search rules in
    let effect =
    trade_effect-rested order c.args.root c.args.made book queue c.requires.fresh c.requires.rising is keeps
    (λ none. omega (arith, left, none)) in
    record {
      fate = sym (ap (λ (e : Effect). e.fate) effect);
      fills = fills ∙ sym (ap (λ (e : Effect). e.fills) effect);
      book =
          c.push_reserved.ensures.items
          ∙ ap (λ resting. resting ++ c.rest_of.result ∷ []) (taken ∙ ap (λ fs. book_after_all fs book) fills)
          ∙ ap (λ r. book_after_all along book ++ r ∷ []) rest
          ∙ sym (ap (λ (e : Effect). e.book) effect);
      memory = tt;
    }
