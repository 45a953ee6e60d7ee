-- A machine in which one caller was replaced by what it became shows a state that a step of it
-- leaves.
use Rattle.std.proofs.Common.{◌≡◌, ◌≢◌, ◌<◌, ℕ, List, slice_set}
use Rattle.hm_moves.proofs.Words.{Entry, PlainStore, Part, View, view, Heap, row_of, Core, Carries, Good}
use Rattle.hm_moves.specs.Good.{Collects}
use Rattle.hm_moves.specs.Showing.{ShowsHeap, ShowsPart}
use Rattle.hm_moves.proofs.Replaced.{by_part}
use Rattle.hm_moves.proofs.ShownElse.{shown_else_moved}
use Rattle.hm_rounds.specs.State.{State}
use Rattle.hm_rounds.specs.Parts as parts
use Rattle.hm_rounds.specs.Rule as rounds

-- the caller p, at a place of the seat `id`, became `new`, and the heap became h
module _ {U : Type 0} (lawful : U → PlainStore → Type 0) (allowed : U → PlainStore → Entry → Type 0)
    (c : Core U) (id place : ℕ) (v : View U) (p new : Part U) (seen : List Entry) (h : Heap)
    (good : Good lawful allowed p.site c) (at : Carries c.views id place v p)
    (number : new.number ≡ p.number)
  where
    -- the machine afterwards
    abbrev pub replaced : Core U
    replaced = record {
      heap = h;
      views = slice_set c.views id (view seen (slice_set v.parts place new));
    }

    module _ (y : State) (now : ℕ → ℕ) (rule : rounds.Good y)
        (heap : ShowsHeap p.site.shape h now y)
        (own : ShowsPart p.site.shape now y new)
        (part : (q : ℕ) → q ≢ p.number → parts.part_of y q ≡ parts.part_of good.collects.state q)
        (roles : (q g : ℕ) → q ≢ p.number → q < p.site.shape.callers → g < p.site.shape.regions
        → y.roles (row_of p.site.shape q g) ≡ good.collects.state.roles (row_of p.site.shape q g))
        (moved : (q : ℕ) → q ≢ p.number → now q ≡ good.collects.moves q) where
      -- another caller's part is shown as before
      other : (j k : ℕ) (u : View U) (q : Part U) → Carries c.views j k u q → q.number ≢ p.number
          → ShowsPart p.site.shape now y q
      other j k u q was ne = shown_else_moved p.site.shape good.collects.moves now
          good.collects.state y q
          (part q.number ne) (λ g low. roles q.number g ne (good.parts j k u q was).number low)
          (moved q.number ne)
          (good.collects.parts j k u q was)

      -- so the machine shows the state
      pub collected : Collects p.site replaced
      collected = record {
        state = y;
        moves = now;
        rule = rule;
        heap = heap;
        parts = by_part c.views id place v p new seen at number
            (λ l q. ShowsPart p.site.shape now y q) own
            (λ k q ne there. other id k v q record { seat = at.seat; place = there }
            (λ e. ne (good.apart id k id place v v q p record { seat = at.seat; place = there } at
            e).1))
            (λ j k u q ne was. other j k u q was
            (λ e. ne (good.apart j k id place u v q p was at e).0));
      }
