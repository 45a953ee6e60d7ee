-- A fresh machine leads to safe ones alone.
use Rattle.std.proofs.Common.{◌≡◌, ◌≢◌, ◌∙◌, Some, slice_index, ◌≤◌, ℕ, zero, suc, sym, subst, arith}
use Rattle.hm_moves.proofs.Words.{Entry, PlainStore, store_of, opening_of, starting_count, IsSizedStart, UsageLaws, Known, Site, Index, IsLinked, link_of, Heap, Core, Good, IsFreshCore, IsForward, IsSafe, Leads, here, moved, let_go, cut, met}
use Rattle.hm_moves.proofs.Words.{Part, Move, View, Carries, IsLawfulMove, IsThere, Stands, HoldsClean, IsLaterThan, next_version, HasRoom, publishes, word_of}
use Rattle.hm_moves.proofs.Steps.{good_step}
use Rattle.hm_moves.proofs.Seats.{good_split, good_join}
use Rattle.hm_moves.proofs.FreshMachine.{good_fresh}
use Rattle.hm_moves.proofs.Released.{good_released}
use Rattle.hm_shape.specs.declared.version.Version.{Version}
use Rattle.hm_moves.specs.Collecting.{Reached}
use Rattle.hm_moves.proofs.Finding.{next_now}
use Rattle.hm_moves.proofs.Held.{from_some}
use Rattle.hm_moves.proofs.Reaching.{reach_good, names_good}
use Rattle.hm_moves.proofs.Cycled.{cycle_good}

forward : (index : Index) (store : PlainStore) (k : Known) (w : ℕ) → IsLinked index store k w
    → IsForward
    index k w
forward index store k zero h = tt
forward index store k (suc v) h = h

module _ {U : Type 0} (lawful : U → PlainStore → Type 0) (allowed : U → PlainStore → Entry → Type 0)
    (g : Site U) where
  -- what is kept is safe
  pub safe_good : (c : Core U) → Good lawful allowed g c → IsSafe g c
  safe_good c good =
      let h : Heap = c.heap in
      let chained = good.heap.chained in
      record {
        reach = reach_good lawful allowed g c good;
        names = names_good lawful allowed g c good;
        cycle = cycle_good lawful allowed g c good;
        contents = record {
          words = good.heap.contents;
          present = λ k is zero_link. subst (IsLinked h.index (store_of h.history) k) zero_link
              (chained.link k is);
        };
        chains = record {
          links = λ k is. forward h.index (store_of h.history) k (link_of g.shape h.words k)
              (chained.link k is);
          ranks = chained.apart;
          last = λ k m a b same x y.
              let low = chained.top k m a b same x in
              let high = chained.top m k b a (sym same) y in chained.apart k m a b same
              (omega arith);
        };
        ranks = record {
          ranks = λ k is. let low = good.heap.ranked.ranks k is in omega arith;
          rows = good.heap.placed.filled;
          made = good.heap.ranked.made;
          freed = good.heap.ranked.freed;
        };
        history = record {
          legal = good.heap.history.legal;
          seen = good.seen;
          calls = λ j k v p at. let part = good.parts j k v p at in
              (part.calls.all, part.calls.seen);
        };
      }

  module _ (laws : (u : U) → UsageLaws (lawful u) (allowed u)) where
    -- every machine that a good one leads to is good
    pub good_always : (c d : Core U) → Good lawful allowed g c → Leads lawful allowed c d
        → Good lawful
        allowed g d
    good_always c _ good here = good
    good_always c _ good (moved d id place v p m l at may) =
        good_step lawful allowed laws g d id place v p m (good_always c d good l) at may
    good_always c _ good (let_go d id place v p o l at) =
        good_released lawful allowed g d id place v p o (good_always c d good l) at
    good_always c _ good (cut d id v left right l at parts) =
        good_split lawful allowed g d id v (good_always c d good l) at left right parts
    good_always c _ good (met d id other v w l at apart there) =
        good_join lawful allowed g d id v (good_always c d good l) at other w apart there

    -- so every machine that a fresh one leads to is safe
    pub safe_always : (c d : Core U) → IsSizedStart g.start → starting_count g.start ≤
        g.shape.versions
        → IsFreshCore g c → lawful g.usage (store_of (opening_of g.start)) → Leads lawful allowed c
        d → IsSafe
        g d
    safe_always c d sized room fresh now l =
        safe_good d (good_always c d (good_fresh lawful allowed g sized room c fresh now) l)

module _ {U : Type 0} (lawful : U → PlainStore → Type 0)
    (allowed : U → PlainStore → Entry → Type 0) where
  -- a version that a move publishes is not one that is reached
  pub given_again : (g : Site U) (c : Core U) (id place : ℕ) (v : View U) (p : Part U) (m : Move)
      (w : Version)
      (k : Known) → Good lawful allowed g c → Carries c.views id place v p → IsLawfulMove lawful
      allowed c.heap p m
      → Reached g.shape c w → publishes m.act (slice_index c.heap.words (word_of p m.act)) ≡ Some k
      → k.version ≢ w
  given_again g c id place v p m w k good at may reached is same =
      let site : p.site ≡ g = (good.parts id place v p at).site in
      let own : Good lawful allowed p.site c = subst (λ (z : Site U). Good lawful allowed z c)
      (sym site) good in
      let mine = own.parts id place v p at in
      let next = from_some (λ n. (n.version ≡ next_version p) × HasRoom p)
      (publishes m.act (slice_index c.heap.words (word_of p m.act))) k is
      (next_now lawful allowed c.heap v.seen p own.heap mine (IsThere (store_of c.heap.history))
      (λ e. Stands (store_of c.heap.history) e → allowed p.site.usage (store_of c.heap.history) e)
      (HoldsClean c.heap.words p) (IsLaterThan p.site.shape c.heap) m.act may.act
      (slice_index c.heap.words (word_of p m.act))) in
      (reach_good lawful allowed g c good).given w id place v p reached at next.1
      (sym same ∙ next.0)
