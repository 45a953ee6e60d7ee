-- Books in which no two orders stand in the way of one another, and what trading leaves of them.
use Rattle.std.proofs.Common.{◌≡◌, ℕ, zero, suc, ◌+◌, ◌-◌, Bool, true, false, ◌==◌, cond, leb, min, List, [], ◌∷◌, ◌++◌, length, if◌then◌else◌, ◌||◌, Option, Some, None, refl, arith}
use Rattle.std.specs.List.{AllByRecursion, AllPairs, list_any}
use Rattle.std.specs.Option.{option_map, option_map_or}
use Rattle.std.proofs.lemmas.List.Elements.{All-from_recursion, recursion_from_All}
use Rattle.std.proofs.lemmas.List.Kept.{AllPairs-cons}
use Rattle.hm_orders.specs.declared.order.Order.{Order}
use Rattle.hm_book.specs.declared.book.Resting.{Resting}
use Rattle.hm_book.specs.Trading.{after_taking, after_fill, next_maker, fill_with, no_trade, Traded, trades}
use Rattle.hm_orders.specs.declared.order.Kind.{Kind}
use Rattle.hm_orders.specs.declared.order.Kind.TheVariants.{Limit, Immediate, Market, Cancel}
use Rattle.hm_orders.specs.declared.report.Fate.TheVariants.{Rested, Filled, Dropped, Cancelled, Unknown, Repeated, Denied}
use Rattle.hm_book.specs.declared.limits.Limits.{Limits}
use Rattle.hm_book.specs.Limits.{admits}
use Rattle.hm_book.specs.Effect.{no_fill, has_name, rests, without, rest_of, keeps_rest, traded_as, effect_after, trade_effect, admitted_effect, effect_of}
use Rattle.hm_book.proofs.Along.{trades_from}
use Rattle.hm_book.proofs.Rising.{AllByRecursion-after_fill}

module _ (R : Resting → Resting → Type 0)
    (same : (a b : Resting) (n : ℕ) → R a b → R (record a { quantity = n }) b × R a (record b { quantity = n })) where
  -- each order of a book stands so to all later ones
  abbrev pub Apart : List Resting → Type 0
  Apart [] = Unit {0}
  Apart (resting ∷ book) = AllByRecursion (R resting) book × Apart book

  lowered : (resting : Resting) (n : ℕ) (book : List Resting) → AllByRecursion (R resting) book
      → AllByRecursion (R (record resting { quantity = n })) book
  lowered resting n [] all = tt
  lowered resting n (later ∷ book) all = ((same resting later n all.0).0, lowered resting n book all.1)

  apart_taken : (quantity : ℕ) (resting : Resting) (book : List Resting) (b : Bool) → Apart (resting ∷ book)
      → Apart (cond b [] (record resting { quantity = resting.quantity - quantity } ∷ []) ++ book)
  apart_taken quantity resting book true h = h.1
  apart_taken quantity resting book false h = (lowered resting (resting.quantity - quantity) book h.0, h.1)

  apart_at : (root quantity : ℕ) (resting : Resting) (book : List Resting) (b : Bool) → Apart (resting ∷ book)
      → Apart (after_fill root quantity book)
      → Apart (cond b (after_taking quantity resting ++ book) (resting ∷ after_fill root quantity book))
  apart_at root quantity resting book true h rest = apart_taken quantity resting book (leb resting.quantity quantity) h
  apart_at root quantity resting book false h rest = (
    AllByRecursion-after_fill (R resting) (λ later n some r. (same resting later n r).1) root quantity book h.0,
    rest,
  )

  -- they do after a fill
  pub apart_after_fill : (root quantity : ℕ) (book : List Resting) → Apart book → Apart (after_fill root quantity book)
  apart_after_fill root quantity [] h = tt
  apart_after_fill root quantity (resting ∷ book) h =
      apart_at root quantity resting book (resting.root == root) h (apart_after_fill root quantity book h.1)

  module _ (order : Order) (taker : ℕ) where
    apart_with : (most number left : ℕ) (book : List Resting) (next : Option Resting) → Apart book
        → ((number left : ℕ) (after : List Resting) → Apart after → Apart (trades most order taker number left after).book)
        → Apart (option_map_or (trades_from order taker most number left book) (option_map (fill_with number taker left) next) (no_trade left book)).book
    apart_with most number left book None h rest = h
    apart_with most number left book (Some maker) h rest =
        let taken = min left maker.quantity in
        rest (number + 1) (left - taken) (after_fill maker.root taken book) (apart_after_fill maker.root taken book h)

    -- and after trading
    pub apart_trades : (most number left : ℕ) (book : List Resting) → Apart book
        → Apart (trades most order taker number left book).book
    apart_trades zero number left book h = h
    apart_trades (suc most) number left book h =
        apart_with most number left book (next_maker order left book) h
        (λ number left after h. apart_trades most number left after h)

  all_without : (P : Resting → Type 0) (file id : ℕ) (book : List Resting) → AllByRecursion P book
      → AllByRecursion P (without file id book)
  all_without P file id [] h = tt
  all_without P file id (resting ∷ book) h = go (has_name file id resting) (all_without P file id book h.1)
    where
      go : (b : Bool) → AllByRecursion P (without file id book)
          → AllByRecursion P (if b then book else resting ∷ without file id book)
      go true rest = h.1
      go false rest = (h.0, rest)

  -- and after a cancel
  pub apart_without : (file id : ℕ) (book : List Resting) → Apart book → Apart (without file id book)
  apart_without file id [] h = tt
  apart_without file id (resting ∷ book) h = go (has_name file id resting) (apart_without file id book h.1)
    where
      go : (b : Bool) → Apart (without file id book) → Apart (if b then book else resting ∷ without file id book)
      go true rest = h.1
      go false rest = (all_without (R resting) file id book h.0, rest)

  all_append : (P : Resting → Type 0) (x : Resting) (book : List Resting) → AllByRecursion P book → P x
      → AllByRecursion P (book ++ x ∷ [])
  all_append P x [] h p = (p, tt)
  all_append P x (resting ∷ book) h p = (h.0, all_append P x book h.1 p)

  -- and with one more order, to which all others stand so
  pub apart_append : (x : Resting) (book : List Resting) → Apart book → AllByRecursion (λ r. R r x) book
      → Apart (book ++ x ∷ [])
  apart_append x [] h all = (tt, tt)
  apart_append x (resting ∷ book) h all = (all_append (R resting) x book h.0 all.0, apart_append x book h.1 all.1)

  -- by indices
  pub Apart-from_pairs : (book : List Resting) → AllPairs R book → Apart book
  Apart-from_pairs [] pairs = tt
  Apart-from_pairs (resting ∷ book) pairs = (
    recursion_from_All (R resting) book
        (λ k d within. pairs 0 (suc k) d (omega arith) (omega arith)),
    Apart-from_pairs book (λ i j d below within. pairs (suc i) (suc j) d (omega arith) (omega arith)),
  )

  -- and back
  pub pairs_from_Apart : (book : List Resting) → Apart book → AllPairs R book
  pairs_from_Apart [] h = λ i j d below within. absurd (omega arith)
  pairs_from_Apart (resting ∷ book) h =
      AllPairs-cons R resting book (All-from_recursion (R resting) book h.0) (pairs_from_Apart book h.1)

-- two resting orders have different names
abbrev pub HaveOtherNames : Resting → Resting → Type 0
HaveOtherNames a b = has_name a.file a.id b ≡ false

-- whatever their quantities
pub other_names_same : (a b : Resting) (n : ℕ) → HaveOtherNames a b
    → HaveOtherNames (record a { quantity = n }) b × HaveOtherNames a (record b { quantity = n })
other_names_same a b n h = (h, h)

-- an order that rests is none of a book in which none of its name rests
pub none_rests : (file id : ℕ) (book : List Resting) → rests file id book ≡ false
    → AllByRecursion (λ r. has_name file id r ≡ false) book
none_rests file id [] h = tt
none_rests file id (r ∷ book) h = go (has_name file id r) refl h (none_rests file id book)
  where
    go : (b : Bool) → has_name file id r ≡ b → (b || list_any (has_name file id) book) ≡ false
        → (rests file id book ≡ false → AllByRecursion (λ r. has_name file id r ≡ false) book)
        → AllByRecursion (λ r. has_name file id r ≡ false) (r ∷ book)
    go true e h' rest = absurd (cc)
    go false e h' rest = (e, rest h')

module _ (P : Resting → Type 0) (lower : (r : Resting) (n : ℕ) → P r → P (record r { quantity = n }))
    (order : Order) (taker : ℕ) where
  all_with : (most number left : ℕ) (book : List Resting) (next : Option Resting) → AllByRecursion P book
      → ((number left : ℕ) (after : List Resting) → AllByRecursion P after → AllByRecursion P (trades most order taker number left after).book)
      → AllByRecursion P (option_map_or (trades_from order taker most number left book) (option_map (fill_with number taker left) next) (no_trade left book)).book
  all_with most number left book None h rest = h
  all_with most number left book (Some maker) h rest =
      let taken = min left maker.quantity in
      rest (number + 1) (left - taken) (after_fill maker.root taken book)
      (AllByRecursion-after_fill P (λ r n some p. lower r n p) maker.root taken book h)

  -- what holds of each order whatever its quantity holds of each after trading
  pub all_trades : (most number left : ℕ) (book : List Resting) → AllByRecursion P book
      → AllByRecursion P (trades most order taker number left book).book
  all_trades zero number left book h = h
  all_trades (suc most) number left book h =
      all_with most number left book (next_maker order left book) h
      (λ number left after h. all_trades most number left after h)

-- what each order of a book has of one kind it has of another
pub each_weaker : (P Q : Resting → Type 0) → ((r : Resting) → P r → Q r) → (book : List Resting) → AllByRecursion P book
    → AllByRecursion Q book
each_weaker P Q f [] h = tt
each_weaker P Q f (r ∷ book) h = (f r h.0, each_weaker P Q f book h.1)

module _ (R : Resting → Resting → Type 0)
    (same : (a b : Resting) (n : ℕ) → R a b → R (record a { quantity = n }) b × R a (record b { quantity = n }))
    (order : Order) (root fills : ℕ) (book : List Resting) (h : Apart R same book) where
  -- what the order trades
  abbrev traded : Traded
  traded = trades (length book) order root (fills + 1) order.quantity book

  -- what is left of it stands well to all that rest then
  abbrev pub Joins : Type 0
  Joins = rests order.file order.id book ≡ false → (traded.left == 0) ≡ false → keeps_rest order.kind ≡ true
      → AllByRecursion (λ r. R r (rest_of order root traded.left)) traded.book

  apart_rest : (none keeps : Bool) → (none ≡ false → keeps ≡ true → AllByRecursion (λ r. R r (rest_of order root traded.left)) traded.book)
      → Apart R same (if none then traded_as Filled traded.book traded
      else if keeps then traded_as Rested (traded.book ++ rest_of order root traded.left ∷ []) traded
      else traded_as Dropped traded.book traded).book
  apart_rest true keeps joins = apart_trades R same order root (length book) (fills + 1) order.quantity book h
  apart_rest false false joins = apart_trades R same order root (length book) (fills + 1) order.quantity book h
  apart_rest false true joins =
      apart_append R same (rest_of order root traded.left) traded.book
      (apart_trades R same order root (length book) (fills + 1) order.quantity book h) (joins refl refl)

  apart_trade_at : (b : Bool) → (b ≡ false → Apart R same (effect_after order root traded).book)
      → Apart R same (if b then no_fill Repeated book else effect_after order root traded).book
  apart_trade_at true after = h
  apart_trade_at false after = after refl

  apart_trade : Joins → Apart R same (trade_effect order root fills book).book
  apart_trade joins =
      apart_trade_at (rests order.file order.id book)
      (λ none. apart_rest (traded.left == 0) (keeps_rest order.kind) (λ some keeps. joins none some keeps))

  apart_cancel : (b : Bool)
      → Apart R same (if b then no_fill Cancelled (without order.file order.id book) else no_fill Unknown book).book
  apart_cancel true = apart_without R same order.file order.id book h
  apart_cancel false = h

  apart_kind : (kind : Kind) → Joins → Apart R same (admitted_effect kind order root fills book).book
  apart_kind Limit joins = apart_trade joins
  apart_kind Immediate joins = apart_trade joins
  apart_kind Market joins = apart_trade joins
  apart_kind Cancel joins = apart_cancel (rests order.file order.id book)

  apart_admitted : (b : Bool) → Joins
      → Apart R same (if b then admitted_effect order.kind order root fills book else no_fill Denied book).book
  apart_admitted true joins = apart_kind order.kind joins
  apart_admitted false joins = h

  -- orders that stand so to one another do after one more order
  pub apart_effect : (limits : Limits) → Joins → Apart R same (effect_of limits order root fills book).book
  apart_effect limits joins = apart_admitted (admits limits order) joins

named_otherwise : (order : Order) (root left : ℕ) (r : Resting) → has_name order.file order.id r ≡ false
    → HaveOtherNames r (rest_of order root left)
named_otherwise order root left r h = grind (arith, h)

-- no two orders of a book have one name, after one more order
pub names_after : (limits : Limits) (order : Order) (root fills : ℕ) (book : List Resting)
    → AllPairs HaveOtherNames book → AllPairs HaveOtherNames (effect_of limits order root fills book).book
names_after limits order root fills book pairs =
    pairs_from_Apart HaveOtherNames other_names_same (effect_of limits order root fills book).book
    (apart_effect HaveOtherNames other_names_same order root fills book
    (Apart-from_pairs HaveOtherNames other_names_same book pairs) limits
    (λ none some keeps.
    each_weaker (λ r. has_name order.file order.id r ≡ false)
    (λ r. HaveOtherNames r (rest_of order root (trades (length book) order root (fills + 1) order.quantity book).left))
    (λ r e. named_otherwise order root (trades (length book) order root (fills + 1) order.quantity book).left r e)
    (trades (length book) order root (fills + 1) order.quantity book).book
    (all_trades (λ r. has_name order.file order.id r ≡ false) (λ r n e. e) order root (length book) (fills + 1) order.quantity book
    (none_rests order.file order.id book none))))
