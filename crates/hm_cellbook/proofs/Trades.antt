-- Trading on the lists of a book, fill by fill.
use Rattle.std.proofs.Common.{◌≡◌, ℕ, zero, suc, ◌+◌, ◌-◌, ◌*◌, ◌<◌, ◌≤◌, ◌==◌, min, nat_le, Bool, true, false, if◌then◌else◌, List, [], ◌∷◌, ◌++◌, length, Option, Some, None, refl, sym, ap, ◌∙◌, subst, arith, append_assoc, append-nil, option_and_then, ⊎_elim, length-append}
use Rattle.std.specs.List.{Contains}
use Rattle.std.specs.Option.{option_map, option_map_or}
use Rattle.std.proofs.lemmas.Bool.{cases_Bool}
use Rattle.std.proofs.Math.Nat.{mul-le-mul_right}
use Rattle.hm_orders.specs.declared.order.Order.{Order}
use Rattle.hm_orders.specs.declared.report.Fill.{Fill}
use Rattle.hm_model.specs.Sight.{Sight}
use Rattle.hm_model.specs.Building.{Builds}
use Rattle.hm_model.proofs.BuildingFacts.{builds_none, builds_then, builds_more}
use Rattle.hm_book.specs.declared.book.Resting.{Resting}
use Rattle.hm_book.specs.Trading.{best_opposite, if_crossed, next_maker, fill_with, after_fill, book_after, Traded, no_trade, with_fill, trades}
use Rattle.hm_book.proofs.Taking.{length-after_fill}
use Rattle.hm_cellbook.specs.declared.usage.BookUsage.{BookUsage}
use Rattle.hm_cellbook.specs.Fetched.{book_lawful, book_allowed}
use Rattle.hm_cellbook.specs.Working.{WorksOn, BeginsOn, HasTraded}
use Rattle.hm_cellbook.proofs.Sides.{length_used_up, length_left_over}
use Rattle.hm_cellbook.proofs.Makers.{maker_is, best_in_book}

-- what trading gives, with fills before it
abbrev pub with_fills : List Fill → Traded → Traded
with_fills fills traded = record traded { fills = fills ++ traded.fills }

-- an order has traded so far: these fills and then trading on the book that is worked on are the whole trading
pub record Trades (c d : Sight BookUsage) (order : Order) (root made : ℕ) (book : List Resting)
    (fills : List Fill)
    (left resting : ℕ) : Type 0 where
  pub work : List Resting
  pub most : ℕ
  pub works : WorksOn d work
  pub whole : trades (length book) order root (made + 1) order.quantity book
      ≡ with_fills fills (trades most order root (made + 1 + length fills) left work)
  pub fuel : length fills + most ≡ length book
  pub long : 0 < left → length work ≤ most
  pub count : resting ≡ length work
  pub short : length work ≤ length book
  pub builds : Builds book_lawful book_allowed c d (2 * length fills * (length book + 9))

-- after a fill there are fills
pub some_fills : (fills : List Fill) (fill : Fill) → fills ++ fill ∷ [] ≡ [] → ⊥
some_fills [] fill none = cc
some_fills (x ∷ fills) fill none = cc

-- it begins with no fill
pub trades_start : (c : Sight BookUsage) (order : Order) (root made : ℕ) (book : List Resting) (resting : ℕ)
    → BeginsOn c root resting book → Trades c c order root made book [] order.quantity resting
trades_start c order root made book resting h = record {
  work = book;
  most = length book;
  works = h.works;
  whole = ap (λ (k : ℕ). trades (length book) order root k order.quantity book) (omega arith);
  fuel = omega arith;
  long = λ some. omega arith;
  count = sym h.count;
  short = omega arith;
  builds = builds_more book_lawful book_allowed c c 0 (2 * length {A = Fill} [] * (length book + 9))
      (omega arith)
      (builds_none book_lawful book_allowed c);
}

-- as it does where the fills are an empty list
pub trades_start_at : (c : Sight BookUsage) (order : Order) (root made : ℕ) (book : List Resting)
    (resting : ℕ) (fills : List Fill)
    → fills ≡ [] → BeginsOn c root resting book → Trades c c order root made book fills order.quantity resting
trades_start_at c order root made book resting fills none h =
    subst (λ (l : List Fill). Trades c c order root made book l order.quantity resting) (sym none)
    (trades_start c order root made book resting h)

-- where some order rests, no more are taken out than rest
pub out_few : (b : Bool) (out resting n : ℕ) → out ≡ (if b then 1 else 0) → resting ≡ n → 0 < n
    → out ≤ resting
out_few true out resting n is count some = omega arith
out_few false out resting n is count some = omega arith

-- some quantity is traded
pub less_left : (left quantity maker : ℕ) → quantity ≡ min left maker → 0 < left → 0 < maker
    → left - quantity < left
less_left left quantity maker is some some' = omega arith

-- a fill is that with the maker
pub fill_is : (number count root left quantity : ℕ) (maker : Resting) → number ≡ count → quantity
    ≡ min left maker.quantity
    → record { number = number; taker = root; maker = maker.root; price = maker.price; quantity = quantity }
    ≡ fill_with count root left maker
fill_is number count root left quantity maker n q = λ i. record {
  number = n i;
  taker = root;
  maker = maker.root;
  price = maker.price;
  quantity = q i;
}

-- trading is at an end where there is no next maker
trades_none : (most : ℕ) (order : Order) (root number left : ℕ) (work : List Resting)
    → next_maker order left work ≡ None → trades most order root number left work ≡ no_trade left work
trades_none zero order root number left work none = refl
trades_none (suc most) order root number left work none =
    ap (λ (o : Option Resting). option_map_or
    (λ fill. with_fill fill (trades most order root (number + 1) (left - fill.quantity)
    (book_after fill work)))
    (option_map (fill_with number root left) o) (no_trade left work)) none

-- it goes on where there is one
trades_some : (most : ℕ) (order : Order) (root number left : ℕ) (work : List Resting) (maker : Resting)
    → next_maker order left work ≡ Some maker
    → trades (suc most) order root number left work
    ≡ with_fill (fill_with number root left maker)
    (trades most order root (number + 1) (left - min left maker.quantity)
    (after_fill maker.root (min left maker.quantity) work))
trades_some most order root number left work maker some =
    ap (λ (o : Option Resting). option_map_or
    (λ fill. with_fill fill (trades most order root (number + 1) (left - fill.quantity)
    (book_after fill work)))
    (option_map (fill_with number root left) o) (no_trade left work)) some

-- no maker comes next where none is crossed or nothing is left
next_none : (order : Order) (left : ℕ) (work : List Resting)
    → (0 < left → option_and_then (if_crossed order) (best_opposite order.side work) ≡ None)
    → next_maker order left work ≡ None
next_none order left work none = go (left == 0) refl
  where
    go : (b : Bool) → (left == 0) ≡ b
        → (if b then None else option_and_then (if_crossed order) (best_opposite order.side work)) ≡ None
    go true is = refl
    go false is = none (grind (arith, is))

next_some : (order : Order) (left : ℕ) (work : List Resting) (maker : Resting) → 0 < left
    → option_and_then (if_crossed order) (best_opposite order.side work) ≡ Some maker
    → next_maker order left work ≡ Some maker
next_some order left work maker some is = go (left == 0) refl
  where
    go : (b : Bool) → (left == 0) ≡ b
        → (if b then None else option_and_then (if_crossed order) (best_opposite order.side work))
        ≡ Some maker
    go true zero' = absurd (grind (arith, zero'))
    go false zero' = is

module _ (c d : Sight BookUsage) (order : Order) (root made : ℕ) (book : List Resting) (fills : List Fill)
    (left resting : ℕ) (t : Trades c d order root made book fills left resting) where
  -- no more fills were made than the whole trading has
  pub fills_few : length fills ≤ length (trades (length book) order root (made + 1) order.quantity book).fills
  fills_few =
      let more = (trades t.most order root (made + 1 + length fills) left t.work).fills in
      let long : length (trades (length book) order root (made + 1) order.quantity book).fills
      ≡ length (fills ++ more) =
      ap (λ (x : Traded). length x.fills) t.whole in
      omega (arith, length-append fills more)

  -- the calls so far, and fetches, build no more than the whole trading may
  pub fetched_builds : (e : Sight BookUsage) → Builds book_lawful book_allowed d e 0
      → Builds book_lawful book_allowed c e
      (2 * length (trades (length book) order root (made + 1) order.quantity book).fills * (length book + 9))
  fetched_builds e h =
      let n = length (trades (length book) order root (made + 1) order.quantity book).fills in
      let few : length fills ≤ n = fills_few in
      builds_more book_lawful book_allowed c e (2 * length fills * (length book + 9) + 0)
      (2 * n * (length book + 9))
      (grind (arith, mul-le-mul_right (length book + 9) few))
      (builds_then book_lawful book_allowed c d e (2 * length fills * (length book + 9)) 0 t.builds h)

  -- where no maker comes next, the whole trading is done
  pub trades_end : (0 < left → option_and_then (if_crossed order) (best_opposite order.side t.work) ≡ None)
      → (e : Sight BookUsage) → WorksOn e t.work
      → HasTraded e (trades (length book) order root (made + 1) order.quantity book) fills left resting
  trades_end none e works =
      let all : trades (length book) order root (made + 1) order.quantity book
      ≡ with_fills fills (no_trade left t.work) =
      t.whole ∙ ap (with_fills fills) (trades_none t.most order root (made + 1 + length fills) left t.work
      (next_none order left t.work none)) in
      record {
        works = subst (λ (x : Traded). WorksOn e x.book) (sym all) works;
        fills = sym (ap (λ (x : Traded). x.fills) all ∙ append-nil fills);
        left = sym (ap (λ (x : Traded). x.left) all);
        resting = t.count ∙ sym (ap (λ (x : Traded). length x.book) all);
      }

  module _ (maker : Resting) (some : 0 < left)
      (next : option_and_then (if_crossed order) (best_opposite order.side t.work) ≡ Some maker) where
    -- a maker is in the book that is worked on
    pub maker_there : Contains t.work maker
    maker_there = (best_in_book order.side t.work maker t.works.listable (maker_is order _ maker next).0).0

    pub some_rests : 0 < length t.work
    some_rests = let within = maker_there.1 in omega arith

    -- there is one fill more
    more_fuel : (m : ℕ) × (t.most ≡ suc m)
    more_fuel = go t.most refl
      where
        go : (k : ℕ) → t.most ≡ k → (m : ℕ) × (t.most ≡ suc m)
        go zero is = let long = t.long some in let here = some_rests in absurd (omega arith)
        go (suc m) is = (m, is)

    abbrev rest_of_it : Traded
    rest_of_it =
        trades more_fuel.0 order root (made + 1 + length fills + 1) (left - min left maker.quantity)
        (after_fill maker.root (min left maker.quantity) t.work)

    one_more : trades (length book) order root (made + 1) order.quantity book
        ≡ with_fills fills (with_fill (fill_with (made + 1 + length fills) root left maker) rest_of_it)
    one_more =
        t.whole
        ∙ ap (with_fills fills)
        (ap (λ (k : ℕ). trades k order root (made + 1 + length fills) left t.work) more_fuel.1
        ∙ trades_some more_fuel.0 order root (made + 1 + length fills) left t.work maker
        (next_some order left t.work maker some next))

    -- so many fills and one more are of the whole trading
    pub filled_few : length fills + 1
        ≤ length (trades (length book) order root (made + 1) order.quantity book).fills
    filled_few =
        let more : List Fill = (with_fill
        (fill_with (made + 1 + length fills) root left maker) rest_of_it).fills in
        let long : length (trades (length book) order root (made + 1) order.quantity book).fills
        ≡ length (fills ++ more) = ap (λ (x : Traded). length x.fills) one_more in
        omega (arith, length-append fills more)

    -- the calls so far, and those for this fill, build no more than the whole trading may
    pub filled_builds : (e f : Sight BookUsage) → Builds book_lawful book_allowed d e 0
        → Builds book_lawful book_allowed e f (2 * (length t.work + 9))
        → Builds book_lawful book_allowed c f
        (2 * length (trades (length book) order root (made + 1) order.quantity book).fills
        * (length book + 9))
    filled_builds e f fetches takes =
        let n = length (trades (length book) order root (made + 1) order.quantity book).fills in
        let few : length fills + 1 ≤ n = filled_few in
        let short = t.short in
        let wide : 2 * (length fills + 1) * (length book + 9) ≤ 2 * n * (length book + 9) =
        grind (arith, mul-le-mul_right (length book + 9) few) in
        builds_more book_lawful book_allowed c f
        (2 * length fills * (length book + 9) + 0 + 2 * (length t.work + 9))
        (2 * n * (length book + 9)) (omega arith)
        (builds_then book_lawful book_allowed c e f (2 * length fills * (length book + 9) + 0)
        (2 * (length t.work + 9))
        (builds_then book_lawful book_allowed c d e
        (2 * length fills * (length book + 9)) 0 t.builds fetches) takes)

    -- the next fill is made
    pub trades_on : (e f : Sight BookUsage) (fill : Fill) (quantity out : ℕ) → quantity
        ≡ min left maker.quantity
        → fill ≡ fill_with (made + 1 + length fills) root left maker
        → Builds book_lawful book_allowed d e 0
        → Builds book_lawful book_allowed e f (2 * (length t.work + 9))
        → WorksOn f (after_fill maker.root quantity t.work)
        → out ≡ (if nat_le maker.quantity quantity then 1 else 0)
        → Trades c f order root made book (fills ++ fill ∷ []) (left - quantity) (resting - out)
    trades_on e f fill quantity out least is fetches takes works counted =
        let after = after_fill maker.root quantity t.work in
        let rest = trades more_fuel.0 order root (made + 1 + length fills + 1) (left - quantity) after in
        let n : length (fills ++ fill ∷ []) ≡ length fills + 1 = length-append fills (fill ∷ [])
        ∙ omega arith in
        let here = some_rests in
        let short = t.short in
        let fuel = t.fuel in
        let one = more_fuel.1 in
        let shorter : length after ≤ length t.work = length-after_fill maker.root quantity t.work in
        record {
          work = after;
          most = more_fuel.0;
          works = works;
          whole = whole_after quantity fill least is;
          fuel = omega arith;
          long = λ left'. let used : maker.quantity ≤ quantity = omega arith in
              let gone = length_used_up t.work t.works.listable maker maker_there quantity used in
              let long = t.long some in
              omega arith;
          count = ⊎_elim
              (λ (used : nat_le maker.quantity quantity ≡ true).
              let all : maker.quantity ≤ quantity = grind (arith, used) in
              let gone = length_used_up t.work t.works.listable maker maker_there quantity all in
              let one' : out ≡ 1 = counted ∙ rw used refl in
              let count = t.count in
              omega arith)
              (λ (kept : nat_le maker.quantity quantity ≡ false).
              let less : quantity < maker.quantity = grind (arith, kept) in
              let same = length_left_over t.work t.works.listable maker maker_there quantity less in
              let none : out ≡ 0 = counted ∙ rw kept refl in
              let count = t.count in
              omega arith)
              (cases_Bool (nat_le maker.quantity quantity));
          short = omega arith;
          builds = builds_more book_lawful book_allowed c f
              (2 * length fills * (length book + 9) + 0 + 2 * (length t.work + 9))
              (2 * length (fills ++ fill ∷ []) * (length book + 9))
              (let wide : 2 * (length fills + 1) * (length book + 9)
              ≡ 2 * length (fills ++ fill ∷ []) * (length book + 9) =
              ap (λ (k : ℕ). 2 * k * (length book + 9)) (sym n) in omega arith)
              (builds_then book_lawful book_allowed c e f (2 * length fills * (length book + 9) + 0)
              (2 * (length t.work + 9))
              (builds_then book_lawful book_allowed c d e
              (2 * length fills * (length book + 9)) 0 t.builds fetches) takes);
        }
      where
        whole_after : (quantity : ℕ) (fill : Fill) → quantity ≡ min left maker.quantity
            → fill ≡ fill_with (made + 1 + length fills) root left maker
            → trades (length book) order root (made + 1) order.quantity book
            ≡ with_fills (fills ++ fill ∷ [])
            (trades more_fuel.0 order root (made + 1 + length (fills ++ fill ∷ [])) (left - quantity)
            (after_fill maker.root quantity t.work))
        whole_after quantity fill least is =
            let n : length (fills ++ fill ∷ []) ≡ length fills + 1 = length-append fills (fill ∷ [])
            ∙ omega arith in
            let number : made + 1 + length fills + 1 ≡ made + 1 + length (fills ++ fill ∷ []) = omega arith in
            let rest = trades more_fuel.0 order root (made + 1 + length fills + 1) (left - quantity)
            (after_fill maker.root quantity t.work) in
            let same : rest_of_it ≡ rest =
            ap (λ (q : ℕ). trades more_fuel.0 order root (made + 1 + length fills + 1) (left - q)
            (after_fill maker.root q t.work)) (sym least) in
            let regroup : with_fills fills (with_fill fill rest) ≡ with_fills (fills ++ fill ∷ []) rest =
            ap (λ (l : List Fill). record rest { fills = l })
            (sym (append_assoc fills (fill ∷ []) rest.fills)) in
            one_more
            ∙ (ap (λ (x : Traded). with_fills fills
            (with_fill (fill_with (made + 1 + length fills) root left maker) x)) same
            ∙ (ap (λ (x : Fill). with_fills fills (with_fill x rest)) (sym is)
            ∙ (regroup
            ∙ ap (λ (k : ℕ). with_fills (fills ++ fill ∷ [])
            (trades more_fuel.0 order root k (left - quantity)
            (after_fill maker.root quantity t.work))) number)))
