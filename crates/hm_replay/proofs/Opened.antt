-- A fresh heap with an empty book, and its passes.
use Rattle.std.proofs.Common.{◌≡◌, ℕ, ◌+◌, ◌<◌, List, length, map, Some, slice_get, slice_index, get_or, refl, sym, ap, ◌∙◌, subst, arith}
use Rattle.std.specs.List.{All}
use Rattle.std.proofs.lemmas.Option.{slice_get_within, get_or_from_slice_get}
use Rattle.std.proofs.lemmas.List.{get_or-map}
use Rattle.hm_orders.specs.declared.order.Order.{Order}
use Rattle.hm_orders.specs.Orders.{AreRowsOf}
use Rattle.hm_model.specs.declared.object.Name.{Name}
use Rattle.hm_model.specs.Sight.{Sight, HasHistory, IsFresh}
use Rattle.hm_book.specs.declared.limits.Limits.{Limits}
use Rattle.hm_agreement.specs.Spelled.{IsBookStart}
use Rattle.hm_agreement.proofs.BookStart.{common_is}
use Rattle.hm_cellbook.specs.declared.usage.BookUsage.{BookUsage}
use Rattle.hm_cellbook.specs.Fetched.{book_allowed, book_lawful}
use Rattle.hm_moves.specs.declared.part.Site.{Site}
use Rattle.hm_cells.specs.Closing.{AreAll}
use Rattle.hm_cells.specs.Facts.{Facts, Made}
use Rattle.hm_heap.specs.Tending.{working_sight}
use Rattle.hm_desk.specs.Desk.{AreOwn, KeepsBook}
use Rattle.hm_replay.specs.Loading.{AreOfFiles}
use Rattle.hm_replay.specs.Working.{AreReady}
use Rattle.hm_replay.proofs.Files.{of_file}

-- a fresh caller keeps the empty book
pub keeps_fresh : (c : Sight BookUsage) → IsFresh c → HasHistory book_lawful book_allowed c → IsBookStart c.start
    → c.number < 8 → KeepsBook c.usage.limits c
keeps_fresh c fresh history start few = record {
  start = start;
  limits_are = refl;
  number = few;
  common = fresh.common ∙ ap (λ (n : Name). Some n) (common_is c.start start);
  unset = fresh.unset;
  history = history;
}

-- the orders of its file are its own
pub own_file : (c : Sight BookUsage) (files : List (List Order)) (k : ℕ) (orders : List Order) → AreOfFiles files
    → slice_get files k ≡ Some orders → c.number ≡ k → c.usage.lengths ≡ map length files → AreOwn c orders
own_file c files k orders are is number lengths =
    let file = of_file files are k orders is in
    let within = slice_get_within files k orders is in
    let long : slice_index c.usage.lengths c.number ≡ length orders =
    (λ i. slice_index (lengths i) (number i))
    ∙ (get_or-map (λ (l : List Order). length l) files k orders 0 within
    ∙ ap (λ (l : List Order). length l) (get_or_from_slice_get files k orders orders is)) in
    record {
      rows = subst (λ (q : ℕ). AreRowsOf (q + 1) orders) (sym number) file.rows;
      few = omega (arith, long);
    }

module _ (m : Made BookUsage) (passes : List (Facts BookUsage)) (files : List (List Order)) (are : AreOfFiles files)
    (all : AreAll m passes) (callers : m.site.shape.callers ≡ length files) (start : IsBookStart m.site.start)
    (limits : Limits) (limits_are : m.site.usage.limits ≡ limits) (lengths : m.site.usage.lengths ≡ map length files)
    (fresh : All (λ s. IsFresh (working_sight s)) passes)
    (histories : All (λ s. HasHistory book_lawful book_allowed (working_sight s)) passes) where
  -- each pass of a fresh heap is ready for its file
  pub ready : AreReady limits passes files
  ready = record {
    count = all.count ∙ callers;
    each = λ k s orders is file.
        let long = slice_get_within passes k s is in
        let at : get_or passes k s ≡ s = get_or_from_slice_get passes k s s is in
        let new : IsFresh (working_sight s) = subst (λ t. IsFresh (working_sight t)) at (fresh k s long) in
        let lawful : HasHistory book_lawful book_allowed (working_sight s) =
        subst (λ t. HasHistory book_lawful book_allowed (working_sight t)) at (histories k s long) in
        let site = (all.fits k s is).site in
        let number = all.numbers k s is in
        let within = slice_get_within files k orders file in
        record {
          keeps = keeps_fresh (working_sight s) new lawful
              (subst IsBookStart (sym (ap (λ (g : Site BookUsage). g.start) site)) start)
              (omega (arith, number, within, are.few));
          own = own_file (working_sight s) files k orders are file number
              (ap (λ (g : Site BookUsage). g.usage.lengths) site ∙ lengths);
          fresh = new;
        };
    limits_are = λ k s is. ap (λ (g : Site BookUsage). g.usage.limits) (all.fits k s is).site ∙ limits_are;
  }
