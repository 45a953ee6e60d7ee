-- What becomes of an order: of a cancel, and of one that trades by what trading has left of it.
use Rattle.std.proofs.Common.{◌≡◌, ◌≢◌, ℕ, ◌+◌, ◌-◌, ◌*◌, ◌<◌, ◌≤◌, ◌==◌, Bool, true, false, cond, if◌then◌else◌, List, [], ◌∷◌, ◌++◌, length, Option, Some, is_some, refl, sym, ap, ◌∙◌, subst, arith, length-append}
use Rattle.std.specs.List.{All}
use Rattle.std.proofs.lemmas.Bool.{cond-true, cond-false}
use Rattle.std.proofs.lemmas.List.Elements.{All-contains}
use Rattle.hm_orders.specs.declared.order.Order.{Order}
use Rattle.hm_orders.specs.declared.order.Kind.{Kind}
use Rattle.hm_orders.specs.declared.order.Kind.TheVariants.{Limit, Immediate, Market, Cancel}
use Rattle.hm_orders.specs.declared.report.Fate.{Fate}
use Rattle.hm_orders.specs.declared.report.Fate.TheVariants.{Rested, Filled, Dropped, Cancelled, Denied}
use Rattle.hm_orders.specs.declared.report.Fill.{Fill}
use Rattle.hm_orders.specs.Orders.{IsWellFormed, HasFieldsOf, IsTradingSide, IsGiven}
use Rattle.hm_model.specs.declared.root.Root.{Root}
use Rattle.hm_model.specs.Sight.{Sight}
use Rattle.hm_model.specs.Building.{Builds}
use Rattle.hm_model.proofs.BuildingFacts.{builds_then, builds_more}
use Rattle.hm_list.specs.declared.key.Key.{Key}
use Rattle.hm_list.specs.Pairs.{lookup}
use Rattle.hm_list.specs.Cells.{pairs_at}
use Rattle.hm_book.specs.declared.book.Resting.{Resting}
use Rattle.hm_book.specs.declared.limits.Limits.{Limits}
use Rattle.hm_book.specs.Limits.{admits}
use Rattle.hm_book.specs.Trading.{Traded, after_fill, trades}
use Rattle.hm_book.specs.Effect.{Effect, rests, without, rest_of, keeps_rest, no_fill, cancel_effect, traded_as, effect_after, trade_effect, admitted_effect, effect_of}
use Rattle.hm_book.proofs.Rising.{Rises-from_pairs}
use Rattle.hm_book.proofs.TradesSound.{trades_few}
use Rattle.hm_agreement.specs.Cells.{IsInRange}
use Rattle.hm_cellbook.specs.declared.usage.BookUsage.{BookUsage}
use Rattle.hm_cellbook.specs.Cost.{changes, cells_of}
use Rattle.hm_cellbook.specs.Fetched.{book_lawful, book_allowed}
use Rattle.hm_cellbook.specs.Sides.{IsListable}
use Rattle.hm_cellbook.specs.Working.{ids_place, WorksOn, BeginsOn, HasTraded, HasEffect, IsNamed, IsLoadOf}
use Rattle.hm_cellbook.proofs.AfterTrades.{rests_traded, earlier_traded}
use Rattle.hm_cellbook.proofs.Sides.{rests_is, named_is, without_is, length_used_up, listable_rest}

-- an order of which the rest is kept has a side, a price and a quantity
pub fields_of : (order : Order) → keeps_rest order.kind ≡ true → IsWellFormed order
    → IsTradingSide order.side × IsGiven order.price × IsGiven order.quantity
fields_of order keeps h = go order.kind keeps h.fields
  where
    go : (k : Kind) → keeps_rest k ≡ true → HasFieldsOf k order.side order.price order.quantity
        → IsTradingSide order.side × IsGiven order.price × IsGiven order.quantity
    go Limit keeps fields = fields
    go Immediate keeps fields = absurd (cc)
    go Market keeps fields = absurd (cc)
    go Cancel keeps fields = absurd (cc)

-- what an order begins on stays where its caller works on it
pub begins_on : (c d : Sight BookUsage) (root resting : ℕ) (book : List Resting)
    → BeginsOn c root resting book
    → WorksOn d book → BeginsOn d root resting book
begins_on c d root resting book h works = record { works = works; count = h.count; earlier = h.earlier }

module _ (limits : Limits) (order : Order) (root fills : ℕ) (book : List Resting) where
  -- an order that the limits do not admit is denied
  pub denied_is : admits limits order ≡ false → effect_of limits order root fills book ≡ no_fill Denied book
  denied_is not_admitted = cond-false _ _ _ not_admitted

  -- any other that is no cancel trades
  pub trading_is : admits limits order ≡ true → order.kind ≢ Cancel
      → effect_of limits order root fills book ≡ trade_effect order root fills book
  trading_is admitted other = cond-true _ _ _ admitted ∙ go order.kind other
    where
      go : (k : Kind) → k ≢ Cancel
          → admitted_effect k order root fills book ≡ trade_effect order root fills book
      go Limit other = refl
      go Immediate other = refl
      go Market other = refl
      go Cancel other = absurd (other refl)

-- the resting ids tell whether the order is a repeated one
pub found_rests : (c : Sight BookUsage) (book : List Resting) (file id : ℕ) (at : Root) (k : Key)
    (o : Option (List ℕ)) (b : Bool)
    → WorksOn c book → at ≡ ids_place → k ≡ record { a = file; b = id } → o ≡ lookup k (pairs_at c at)
    → b ≡ is_some o → b ≡ rests file id book
found_rests c book file id at k o b w is key found test =
    test ∙ (ap (λ (x : Option (List ℕ)). is_some x) (found
    ∙ (ap (λ (j : Key). lookup j (pairs_at c at)) key
    ∙ (ap (λ (r : Root). lookup record { a = file; b = id } (pairs_at c r)) is
    ∙ ap (lookup record { a = file; b = id }) w.ids.are)))
    ∙ rests_is file id book)

-- the resting ids tell which order has a name
pub found_named : (c : Sight BookUsage) (book : List Resting) (file id : ℕ) (at : Root) (k : Key)
    (o : Option (List ℕ)) (load : List ℕ)
    → WorksOn c book → at ≡ ids_place → k ≡ record { a = file; b = id } → o ≡ lookup k (pairs_at c at)
    → o ≡ Some load → (r : Resting) × IsNamed file id book r × IsLoadOf load r
found_named c book file id at k o load w is key found some =
    let named = named_is file id book load (sym (ap (lookup record { a = file; b = id }) w.ids.are)
    ∙ (ap (λ (r : Root). lookup record { a = file; b = id } (pairs_at c r)) (sym is)
    ∙ (ap (λ (j : Key). lookup j (pairs_at c at)) (sym key) ∙ (sym found ∙ some)))) in (
      named.0,
      named.1,
      record {
        range = All-contains IsInRange book named.0 w.listable.ranges named.1.there;
        is = named.2;
      },
    )

-- a cancel whose order rests takes it out
pub cancelled_is : (order : Order) (book : List Resting) → rests order.file order.id book ≡ true
    → cancel_effect order book ≡ no_fill Cancelled (without order.file order.id book)
cancelled_is order book there = rw there refl

-- its caller works on the book that is left
pub cancelled_effect : (d : Sight BookUsage) (order : Order) (book : List Resting) (r : Resting)
    (told : Fate) (fills : List Fill) (count resting : ℕ) → rests order.file order.id book ≡ true
    → IsListable book → IsNamed order.file order.id book r
    → WorksOn d (after_fill r.root r.quantity book) → told ≡ Cancelled → fills ≡ []
    → count ≡ resting - 1 → length book ≡ resting
    → HasEffect d (cancel_effect order book) told fills count
cancelled_effect d order book r told fills count resting there listable named works is none one all =
    let left : without order.file order.id book ≡ after_fill r.root r.quantity book =
    ap (λ (k : ℕ). without k order.id book) (sym named.of_file)
    ∙ (ap (λ (k : ℕ). without r.file k book) (sym named.has_id)
    ∙ without_is book listable r named.there r.quantity (omega arith)) in
    let long = length_used_up book listable r named.there r.quantity (omega arith) in
    let short : length (without order.file order.id book) ≡ length (after_fill r.root r.quantity book) =
    ap (λ (b : List Resting). length b) left in
    subst (λ (e : Effect). HasEffect d e told fills count) (sym (cancelled_is order book there))
    record {
      works = subst (λ (b : List Resting). WorksOn d b) (sym left) works;
      fate = is;
      fills = none;
      resting = omega arith;
    }

-- taking it out builds no more than that may cost
pub cancelled_builds : (c d e : Sight BookUsage) (order : Order) (book : List Resting)
    → rests order.file order.id book ≡ true → Builds book_lawful book_allowed c d 0
    → Builds book_lawful book_allowed d e (2 * (length book + 9))
    → Builds book_lawful book_allowed c e (cells_of (cancel_effect order book) (length book))
cancelled_builds c d e order book there fetches out =
    subst (λ (x : Effect). Builds book_lawful book_allowed c e (cells_of x (length book)))
    (sym (cancelled_is order book there))
    (builds_more book_lawful book_allowed c e (0 + 2 * (length book + 9)) _ (omega arith)
    (builds_then book_lawful book_allowed c d e 0 (2 * (length book + 9)) fetches out))

module _ (order : Order) (root made : ℕ) (book : List Resting)
    (new : rests order.file order.id book ≡ false) where
  -- an order that is new trades
  trade_new : trade_effect order root made book
      ≡ effect_after order root (trades (length book) order root (made + 1) order.quantity book)
  trade_new = rw new refl

  -- its fills are those of trading
  pub effect_fills : (trade_effect order root made book).fills
      ≡ (trades (length book) order root (made + 1) order.quantity book).fills
  effect_fills = ap (λ (e : Effect). e.fills) trade_new
      ∙ go (trades (length book) order root (made + 1) order.quantity book)
    where
      go : (t : Traded) → (effect_after order root t).fills ≡ t.fills
      go t = by_left (t.left == 0) (keeps_rest order.kind)
        where
          by_left : (none keeps : Bool)
              → (if none then traded_as Filled t.book t
              else if keeps then traded_as Rested (t.book ++ rest_of order root t.left ∷ []) t
              else traded_as Dropped t.book t).fills ≡ t.fills
          by_left true keeps = refl
          by_left false true = refl
          by_left false false = refl

  module _ (d : Sight BookUsage) (fills : List Fill) (left resting : ℕ)
      (h : HasTraded d (trades (length book) order root (made + 1) order.quantity book) fills left resting)
    where
      -- where nothing is left of it, it is filled
      pub filled_effect : left ≡ 0 → HasEffect d (trade_effect order root made book) Filled fills resting
      filled_effect none =
          let t = trades (length book) order root (made + 1) order.quantity book in
          let zero' : t.left ≡ 0 = sym h.left ∙ none in
          let same : trade_effect order root made book ≡ traded_as Filled t.book t = trade_new
          ∙ after t zero' in
          subst (λ (e : Effect). HasEffect d e Filled fills resting) (sym same)
          record { works = h.works; fate = refl; fills = h.fills; resting = h.resting }
        where
          after : (t : Traded) → t.left ≡ 0 → effect_after order root t ≡ traded_as Filled t.book t
          after t none = rw none refl

      -- the book that is left is no longer than it was
      pub left_few : 0 < left → IsListable book
          → length (trades (length book) order root (made + 1) order.quantity book).book ≤ length book
      left_few some listable =
          let t = trades (length book) order root (made + 1) order.quantity book in
          few t (trades_few order root (length book) (made + 1) order.quantity book
          (Rises-from_pairs book listable.rising)) h.left
        where
          few : (t : Traded) → length t.fills + length t.book ≤ length book + cond (t.left == 0) 1 0 → left
              ≡ t.left
              → length t.book ≤ length book
          few t all same = go (t.left == 0) refl all
            where
              go : (b : Bool) → (t.left == 0) ≡ b → length t.fills + length t.book ≤ length book + cond b 1 0
                  → length t.book ≤ length book
              go true is all = absurd (grind (arith, is, same, some))
              go false is all = omega arith

      -- what is left of it can be listed
      pub rest_listable : All (λ r. r.root < root) book → IsInRange (rest_of order root left)
          → IsListable ((trades (length book) order root (made + 1) order.quantity book).book ++ rest_of order
          root left ∷ [])
      rest_listable earlier range =
          let t = trades (length book) order root (made + 1) order.quantity book in
          listable_rest t.book (rest_of order root left) h.works.listable
          (rests_traded order root (length book) (made + 1) order.quantity book order.file order.id new)
          (earlier_traded order root (length book) (made + 1) order.quantity book root earlier) range

      -- what an order makes of which something is left
      left_is : 0 < left → trade_effect order root made book
          ≡ (let t = trades (length book) order root (made + 1) order.quantity book in
          if keeps_rest order.kind then traded_as Rested (t.book ++ rest_of order root left ∷ []) t
          else traded_as Dropped t.book t)
      left_is some = trade_new ∙ after (trades (length book) order root (made + 1) order.quantity book) h.left
        where
          after : (t : Traded) → left ≡ t.left → effect_after order root t
              ≡ (if keeps_rest order.kind then traded_as Rested (t.book ++ rest_of order root left ∷ []) t
              else traded_as Dropped t.book t)
          after t same = go (t.left == 0) refl
            where
              go : (b : Bool) → (t.left == 0) ≡ b
                  → (if b then traded_as Filled t.book t
                  else if keeps_rest order.kind then traded_as Rested
                  (t.book ++ rest_of order root t.left ∷ []) t
                  else traded_as Dropped t.book t)
                  ≡ (if keeps_rest order.kind then traded_as Rested (t.book ++ rest_of order root left ∷ []) t
                  else traded_as Dropped t.book t)
              go true is = absurd (grind (arith, is, same, some))
              go false is = ap (λ (k : ℕ). if keeps_rest order.kind
                  then traded_as Rested (t.book ++ rest_of order root k ∷ []) t
                  else traded_as Dropped t.book t) (sym same)

      -- what is left of it rests, by its kind
      pub rested_is : 0 < left → keeps_rest order.kind ≡ true → trade_effect order root made book
          ≡ (let t = trades (length book) order root (made + 1) order.quantity book in
          traded_as Rested (t.book ++ rest_of order root left ∷ []) t)
      rested_is some keeps = left_is some ∙ cond-true _ _ _ keeps

      pub rested_effect : 0 < left → keeps_rest order.kind ≡ true → (e : Sight BookUsage) (count : ℕ)
          → WorksOn e ((trades (length book) order root (made + 1) order.quantity book).book ++ rest_of order
          root left ∷ [])
          → count ≡ resting + 1 → HasEffect e (trade_effect order root made book) Rested fills count
      rested_effect some keeps e count works one =
          let t = trades (length book) order root (made + 1) order.quantity book in
          subst (λ (f : Effect). HasEffect e f Rested fills count) (sym (rested_is some keeps))
          record {
            works = works;
            fate = refl;
            fills = h.fills;
            resting = one ∙ (ap (λ (k : ℕ). k + 1) h.resting
                ∙ sym (length-append t.book (rest_of order root left ∷ [])));
          }

      -- or is thrown away
      pub dropped_effect : 0 < left → keeps_rest order.kind ≡ false
          → HasEffect d (trade_effect order root made book) Dropped fills resting
      dropped_effect some drops =
          subst (λ (f : Effect). HasEffect d f Dropped fills resting)
          (sym (left_is some ∙ cond-false _ _ _ drops))
          record { works = h.works; fate = refl; fills = h.fills; resting = h.resting }

-- fetches and trading build no more than the effect may cost
traded_cost : (c d e : Sight BookUsage) (n m : ℕ) (effect : Effect) → length effect.fills ≡ n
    → Builds book_lawful book_allowed c d 0
    → Builds book_lawful book_allowed d e (2 * n * (m + 9))
    → Builds book_lawful book_allowed c e (cells_of effect m)
traded_cost c d e n m effect is fetches trades =
    let wide : cells_of effect m ≡ 2 * (n + changes effect.fate) * (m + 9) =
    ap (λ (x : ℕ). 2 * (x + changes effect.fate) * (m + 9)) is in
    builds_more book_lawful book_allowed c e (0 + 2 * n * (m + 9)) (cells_of effect m) (omega arith)
    (builds_then book_lawful book_allowed c d e 0 (2 * n * (m + 9)) fetches trades)

-- nor does resting after it
rested_cost : (c d e f : Sight BookUsage) (n m w : ℕ) (effect : Effect) → length effect.fills ≡ n → w ≤ m
    → effect.fate ≡ Rested
    → Builds book_lawful book_allowed c d 0
    → Builds book_lawful book_allowed d e (2 * n * (m + 9))
    → Builds book_lawful book_allowed e f (2 * (w + 9))
    → Builds book_lawful book_allowed c f (cells_of effect m)
rested_cost c d e f n m w effect is few rested fetches trades rests =
    let wide : cells_of effect m ≡ 2 * (n + 1) * (m + 9) =
    ap (λ (x : ℕ). 2 * (x + changes effect.fate) * (m + 9)) is
    ∙ ap (λ (x : Fate). 2 * (n + changes x) * (m + 9)) rested in
    builds_more book_lawful book_allowed c f (0 + 2 * n * (m + 9) + 2 * (w + 9)) (cells_of effect m)
    (omega arith)
    (builds_then book_lawful book_allowed c e f (0 + 2 * n * (m + 9)) (2 * (w + 9))
    (builds_then book_lawful book_allowed c d e 0 (2 * n * (m + 9)) fetches trades) rests)

-- an order that is new begins on a book
pub record IsNew (c : Sight BookUsage) (order : Order) (root resting : ℕ) (book : List Resting)
    : Type 0 where
  pub new : rests order.file order.id book ≡ false
  pub begins : BeginsOn c root resting book

-- so it does where its caller has looked for its id and not found it
pub looked_new : (c d : Sight BookUsage) (order : Order) (root resting : ℕ) (found : Bool)
    (book : List Resting)
    → ((b : List Resting) → WorksOn c b → found ≡ rests order.file order.id b)
    → ((b : List Resting) → WorksOn c b → WorksOn d b) → found ≡ false → BeginsOn c root resting book
    → IsNew d order root resting book
looked_new c d order root resting found book told works none h = record {
  new = sym (told book h.works) ∙ none;
  begins = begins_on c d root resting book h (works book h.works);
}

module _ (c d e : Sight BookUsage) (order : Order) (root resting made : ℕ) (book : List Resting)
    (is : IsNew d order root resting book) (fetches : Builds book_lawful book_allowed c d 0)
    (trading : (b : List Resting) → BeginsOn d root resting b
    → Builds book_lawful book_allowed d e (2 * length
    (trades (length b) order root (made + 1) order.quantity b).fills * (length b + 9))) where
  -- a new order that trades builds no more than its effect may cost
  pub traded_builds : Builds book_lawful book_allowed c e
      (cells_of (trade_effect order root made book) (length book))
  traded_builds = traded_cost c d e _ (length book) (trade_effect order root made book)
      (ap (λ (l : List Fill). length l) (effect_fills order root made book is.new)) fetches
      (trading book is.begins)

  -- nor does one of which something is left, which rests
  pub rested_builds : (f : Sight BookUsage) (fills : List Fill) (left count : ℕ) → 0 < left
      → keeps_rest order.kind ≡ true
      → HasTraded e (trades (length book) order root (made + 1) order.quantity book) fills left count
      → ((b : List Resting) → WorksOn e b → Builds book_lawful book_allowed e f (2 * (length b + 9)))
      → Builds book_lawful book_allowed c f
      (cells_of (trade_effect order root made book) (length book))
  rested_builds f fills left count some keeps traded resting' = rested_cost c d e f _ (length book) _
      (trade_effect order root made book)
      (ap (λ (l : List Fill). length l) (effect_fills order root made book is.new))
      (left_few order root made book is.new e fills left count traded some is.begins.works.listable)
      (ap (λ (x : Effect). x.fate) (rested_is order root made book is.new e fills left count traded some keeps))
      fetches (trading book is.begins) (resting' _ traded.works)
