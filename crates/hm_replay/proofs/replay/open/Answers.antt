-- The heap starts with an empty book, and each pass is ready for its file.
use Rattle.std.proofs.Common.{rules, ◌≡◌, ◌∙◌, Vec, Global, List, length, map, refl, ap, sym, subst}
use Rattle.std.proofs.lemmas.List.{take_all, length-map}
use Rattle.hm_orders.specs.declared.order.Order.{Order}
use Rattle.hm_moves.specs.declared.part.Site.{Site}
use Rattle.hm_agreement.specs.Spelled.{IsBookStart}
use Rattle.hm_agreement.proofs.BookStart.{opening_lawful}
use Rattle.hm_cellbook.specs.declared.usage.BookUsage.{BookUsage}
use Rattle.hm_replay.proofs.Opened.{ready}
use Rattle.hm_replay.proofs.replay.open.Goals as goal

pub make-requires-clause-lawful : goal.make-requires-clause-lawful
make-requires-clause-lawful c = opening_lawful _ record { numbers = refl; sides = refl }

pub returns-clause-ready : goal.returns-clause-ready
returns-clause-ready c =
    let made = c.in_ok-make.ensures in
    let site = made.site in
    let callers : c.unwrap-shape.result.callers ≡ length c.args.files.now = search rules in
    let lengths : c.new.result ≡ map (length {A = Order}) (map (λ orders. orders.items) c.args.files.now) =
    c.new.ensures ∙ (c.loop-orders.invariant
    ∙ ap (λ (l : List (Vec Order Global)). map (length {A = Order}) (map (λ orders. orders.items) l))
    (take_all c.loop-orders.orders-index c.args.files.now c.loop-orders-test.false)) in
    ready c.in_ok-make.field-0.0 _ _ c.requires.files made.all
    (ap (λ (g : Site BookUsage). g.shape.callers) site ∙ (callers ∙ sym (length-map c.args.files.now (λ orders. orders.items))))
    (subst IsBookStart (sym (ap (λ (g : Site BookUsage). g.start) site)) record { numbers = refl; sides = refl })
    c.args.settings.now.limits (ap (λ (g : Site BookUsage). g.usage.limits) site ∙ refl)
    (ap (λ (g : Site BookUsage). g.usage.lengths) site ∙ lengths)
    made.fresh made.histories
