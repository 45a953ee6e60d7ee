-- The caller of a fresh heap keeps the empty book, and has come nowhere with its orders.
use Rattle.std.proofs.Common.{◌≡◌, ◌==◌, ◌+◌, ◌<◌, List, [], ◌∷◌, All, Some, None, rules, inl, refl, sym, ap, ◌∙◌, subst, arith, replicate}
use Rattle.std.proofs.lemmas.List.Elements.{All-cons, All-filter, All-nil}
use Rattle.hm_orders.specs.declared.order.Order.{Order}
use Rattle.hm_orders.specs.Interleaving.{dones_part}
use Rattle.hm_model.specs.declared.object.Name.{Name}
use Rattle.hm_model.specs.declared.object.Start.{Start}
use Rattle.hm_model.specs.declared.entry.Entry.{Entry}
use Rattle.hm_model.specs.declared.entry.Entry.TheVariants.{Create}
use Rattle.hm_model.specs.Effect.{caller_of}
use Rattle.hm_model.specs.History.{IsSizedStart, calls_of, common_name, opening_of, side_names}
use Rattle.hm_model.specs.Building.{IsBuilding}
use Rattle.hm_model.specs.Sight.{Sight, IsFresh}
use Rattle.hm_model.proofs.SightFacts.{has_history_fresh}
use Rattle.hm_book.specs.declared.limits.Limits.{Limits}
use Rattle.hm_book.specs.Run.{dones_of, empty_state}
use Rattle.hm_agreement.specs.Cells.{board_name}
use Rattle.hm_agreement.specs.Spelled.{IsBookStart, spelled}
use Rattle.hm_agreement.specs.Told.{last_told}
use Rattle.hm_agreement.proofs.BookStart.{common_is, opening_lawful, spelled_opening, start_is}
use Rattle.hm_cellbook.specs.declared.usage.BookUsage.{BookUsage}
use Rattle.hm_cellbook.specs.Fetched.{book_allowed, book_lawful}
use Rattle.hm_desk.specs.Desk.{KeepsBook}
use Rattle.hm_desk.specs.Progress.{HasCome}
use Rattle.hm_desk.proofs.Quiet.{spells_nothing, tells_nothing}

-- a start with an empty book has its sizes
sized_start : (start : Start) → IsBookStart start → IsSizedStart start
sized_start start h = subst IsSizedStart (sym (start_is start h)) (search rules)

-- its opening creates two objects
abbrev empty_start : Start
empty_start = record { numbers = replicate 10 0; sides = None ∷ None ∷ None ∷ Some (replicate 10 0) ∷ [] }

abbrev common_made : Entry
common_made = Create 0 (common_name empty_start) (side_names 0 empty_start.sides) empty_start.numbers

opening_builds : (start : Start) → IsBookStart start → All IsBuilding (opening_of start)
opening_builds start h =
    let first : IsBuilding common_made = tt in
    let board : IsBuilding (Create 0 board_name (replicate 4 None) (replicate 10 0)) = tt in
    subst (λ (x : Start). All IsBuilding (opening_of x)) (sym (start_is start h))
    (All-cons IsBuilding (Create 0 board_name (replicate 4 None) (replicate 10 0)) (common_made ∷ []) board
    (All-cons IsBuilding common_made [] first (All-nil IsBuilding)))

-- a fresh caller keeps the empty book
pub fresh_keeps : (limits : Limits) (c : Sight BookUsage) → IsFresh c → IsBookStart c.start
    → c.usage.limits ≡ limits → c.number < 8 → KeepsBook limits c
fresh_keeps limits c fresh start is few = record {
  start = start;
  limits_are = is;
  number = few;
  common = fresh.common ∙ ap (λ (n : Name). Some n) (common_is c.start start);
  unset = fresh.unset;
  history = has_history_fresh book_lawful book_allowed c fresh (sized_start c.start start)
      (opening_lawful c.start start);
}

-- and has come nowhere
pub fresh_come : (c : Sight BookUsage) (orders : List Order) → IsFresh c → IsBookStart c.start
    → HasCome c orders record { next = 0; told = 0; done = []; resting = 0 }
fresh_come c orders fresh start =
    let mine : c.mine ≡ calls_of c.number (opening_of c.start) = fresh.mine ∙ ap (calls_of c.number) fresh.seen in
    let builds : All IsBuilding (calls_of c.number (opening_of c.start)) =
    All-filter (λ (e : Entry). caller_of e == c.number) IsBuilding (opening_of c.start)
    (opening_builds c.start start) in
    let none : spelled c.seen ≡ [] = ap spelled fresh.seen ∙ spelled_opening c.start start in
    record {
      within = omega arith;
      applied = ap spelled mine ∙ spells_nothing _ builds;
      done = sym (ap (λ (l : List Order). dones_part (c.number + 1) (dones_of c.usage.limits empty_state l)) none);
      told = sym (ap last_told mine ∙ tells_nothing _ builds 0);
      owed = inl refl;
      resting = refl;
    }
