-- What holds of a book and its numbers holds after the next order.
use Rattle.std.proofs.Common.{◌≡◌, ℕ, ◌+◌, ◌<◌, ◌≤◌, ◌==◌, Bool, true, false, cond, List, [], ◌∷◌, ◌++◌, length, refl, arith, length-append}
use Rattle.std.specs.List.{AllByRecursion}
use Rattle.std.proofs.lemmas.Bool.{eqb-false}
use Rattle.std.proofs.lemmas.List.Elements.{All-from_recursion, recursion_from_All}
use Rattle.hm_orders.specs.declared.order.Order.{Order}
use Rattle.hm_orders.specs.declared.order.Kind.{Kind}
use Rattle.hm_orders.specs.declared.order.Kind.TheVariants.{Limit, Immediate, Market, Cancel}
use Rattle.hm_orders.specs.declared.report.Fate.{Fate}
use Rattle.hm_orders.specs.declared.report.Fate.TheVariants.{Rested, Filled, Dropped, Cancelled, Unknown, Repeated, Denied}
use Rattle.hm_book.specs.declared.book.Resting.{Resting}
use Rattle.hm_book.specs.declared.limits.Limits.{Limits}
use Rattle.hm_book.specs.Limits.{admits}
use Rattle.hm_book.specs.Trading.{Traded, trades}
use Rattle.hm_book.specs.Effect.{Effect, no_fill, has_name, rests, without, rest_of, keeps_rest, traded_as, effect_after, admitted_effect}
use Rattle.hm_book.specs.Run.{BookState, next_effect, state_after}
use Rattle.hm_book.specs.Sound.{IsSound}
use Rattle.hm_book.proofs.Members.{AllByRecursion-weaker, AllByRecursion-append}
use Rattle.hm_book.proofs.Rising.{Rises, Rises-from_pairs, pairs_from_Rises}
use Rattle.hm_book.proofs.TradesSound.{IsUpTo, IsSoundBook, AreFew, trades_sound, trades_few}

-- ---- one order more, or one less

-- root numbers rise where one above all others comes to the end
Rises-push : (book : List Resting) (last : Resting) → Rises book → AllByRecursion (λ resting. resting.root < last.root) book
    → Rises (book ++ last ∷ [])
Rises-push [] last rises below = (tt, tt)
Rises-push (resting ∷ book) last rises below = (
  AllByRecursion-append (λ later. resting.root < later.root) book (last ∷ []) rises.0 (below.0, tt),
  Rises-push book last rises.1 below.1,
)

module _ (file id : ℕ) where
  -- what holds of each order of a book holds of each but one
  each-without : (P : Resting → Type 0) (book : List Resting) → AllByRecursion P book → AllByRecursion P (without file id book)
  each-without P [] all = tt
  each-without P (resting ∷ book) all =
      elim (has_name file id resting) as (λ b. AllByRecursion P (cond b book (resting ∷ without file id book)))
      [ true ↦ all.1 | false ↦ (all.0, each-without P book all.1) ]

  -- root numbers rise without one order
  Rises-without : (book : List Resting) → Rises book → Rises (without file id book)
  Rises-without [] rises = tt
  Rises-without (resting ∷ book) rises =
      let above = each-without (λ later. resting.root < later.root) book rises.0 in
      elim (has_name file id resting) as (λ b. Rises (cond b book (resting ∷ without file id book)))
      [ true ↦ rises.1 | false ↦ (above, Rises-without book rises.1) ]

  -- a book is no longer without one order
  length-without : (book : List Resting) → length (without file id book) ≤ length book
  length-without [] = omega arith
  length-without (resting ∷ book) =
      let rest = length-without book in
      elim (has_name file id resting) as (λ b. length (cond b book (resting ∷ without file id book)) ≤ length (resting ∷ book))
      [ true ↦ omega arith | false ↦ omega (arith, rest) ]

-- ---- the effect of one order

-- what an order with this root number leaves, so many fills having been made before
record IsSoundEffect (root fills : ℕ) (effect : Effect) : Type 0 where
  book : IsSoundBook root effect.book
  few : fills + length effect.fills + length effect.book ≤ root

module _ (order : Order) (last fills : ℕ) (book : List Resting) (sound : IsSoundBook last book) (few : fills + length book ≤ last) where
  -- a sound book is sound with a later last number
  later : (other : List Resting) → IsSoundBook last other → IsSoundBook (last + 1) other
  later other is = record {
    rises = is.rises;
    each = AllByRecursion-weaker (IsUpTo last) (IsUpTo (last + 1)) (λ resting up. (omega (arith, up.0), up.1)) other is.each;
  }

  -- an order that changes nothing
  nothing_sound : (fate : Fate) → IsSoundEffect (last + 1) fills (no_fill fate book)
  nothing_sound fate = record { book = later book sound; few = omega arith }

  -- an order that rests has a root number above all others
  rested_sound : (rest : Resting) → rest.root ≡ last + 1 → 0 < rest.quantity → (other : List Resting) → IsSoundBook last other
      → IsSoundBook (last + 1) (other ++ rest ∷ [])
  rested_sound rest root some other is =
      let below = AllByRecursion-weaker (IsUpTo last) (λ resting. resting.root < rest.root) (λ resting up. omega (arith, up.0, root)) other is.each in
      record {
        rises = Rises-push other rest is.rises below;
        each = AllByRecursion-append (IsUpTo (last + 1)) other (rest ∷ []) (later other is).each ((omega (arith, root), some), tt);
      }

  -- an order that has traded, by whether nothing is left and whether what is left rests
  traded_sound : (traded : Traded) → IsSoundBook last traded.book → AreFew traded book → (none rests : Bool) → (traded.left == 0) ≡ none
      → IsSoundEffect (last + 1) fills
      (cond none (traded_as Filled traded.book traded)
      (cond rests (traded_as Rested (traded.book ++ rest_of order (last + 1) traded.left ∷ []) traded) (traded_as Dropped traded.book traded)))
  traded_sound traded is few_traded true rests e =
      record { book = later traded.book is; few = omega (arith, rw e at few_traded) }
  traded_sound traded is few_traded false true e =
      let rest = rest_of order (last + 1) traded.left in
      record {
        book = rested_sound rest refl (omega (arith, eqb-false traded.left 0 e)) traded.book is;
        few = omega (arith, rw e at few_traded, length-append traded.book (rest ∷ []));
      }
  traded_sound traded is few_traded false false e =
      record { book = later traded.book is; few = omega (arith, rw e at few_traded) }

  -- an order that trades, by whether it is repeated
  trade_sound : (repeated : Bool)
      → (let traded = trades (length book) order (last + 1) (fills + 1) order.quantity book in
      IsSoundEffect (last + 1) fills (cond repeated (no_fill Repeated book) (effect_after order (last + 1) traded)))
  trade_sound true = nothing_sound Repeated
  trade_sound false =
      let traded = trades (length book) order (last + 1) (fills + 1) order.quantity book in
      traded_sound traded (trades_sound order (last + 1) (length book) (fills + 1) order.quantity last book sound)
      (trades_few order (last + 1) (length book) (fills + 1) order.quantity book sound.rises)
      (traded.left == 0) (keeps_rest order.kind) refl

  -- a cancel, by whether the order that it names rests
  cancel_sound : (found : Bool)
      → IsSoundEffect (last + 1) fills (cond found (no_fill Cancelled (without order.file order.id book)) (no_fill Unknown book))
  cancel_sound true = record {
    book = later (without order.file order.id book) (record {
      rises = Rises-without order.file order.id book sound.rises;
      each = each-without order.file order.id (IsUpTo last) book sound.each;
    });
    few = omega (arith, length-without order.file order.id book);
  }
  cancel_sound false = nothing_sound Unknown

  -- an admitted order, by its kind
  kind_sound : (kind : Kind) → IsSoundEffect (last + 1) fills (admitted_effect kind order (last + 1) fills book)
  kind_sound Limit = trade_sound (rests order.file order.id book)
  kind_sound Immediate = trade_sound (rests order.file order.id book)
  kind_sound Market = trade_sound (rests order.file order.id book)
  kind_sound Cancel = cancel_sound (rests order.file order.id book)

  -- an order, by whether it is admitted
  effect_sound : (admitted : Bool)
      → IsSoundEffect (last + 1) fills (cond admitted (admitted_effect order.kind order (last + 1) fills book) (no_fill Denied book))
  effect_sound true = kind_sound order.kind
  effect_sound false = nothing_sound Denied

-- ---- the state after one order

-- a book and its numbers are sound after the next order, whatever it is
pub IsSound-state_after : (limits : Limits) (state : BookState) (order : Order) → IsSound state → IsSound (state_after limits state order)
IsSound-state_after limits state order sound =
    let book : IsSoundBook state.applied state.book = record {
      rises = Rises-from_pairs state.book sound.rising;
      each = recursion_from_All (IsUpTo state.applied) state.book (λ k d within. (sound.applied k d within, sound.some k d within));
    } in
    let effect = next_effect limits state order in
    let next = effect_sound order state.applied state.fills state.book book sound.few (admits limits order) in
    let each = All-from_recursion (IsUpTo (state.applied + 1)) effect.book next.book.each in
    record {
      rising = pairs_from_Rises effect.book next.book.rises;
      applied = λ k d within. (each k d within).0;
      some = λ k d within. (each k d within).1;
      few = omega (arith, next.few);
    }
