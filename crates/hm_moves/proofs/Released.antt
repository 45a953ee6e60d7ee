-- A machine in which a caller lets go of a version is good.
use Rattle.std.proofs.Common.{ℕ, Option, refl}
use Rattle.hm_moves.proofs.Words.{Entry, PlainStore, Known, Site, Part, View, letting, Begins, PartIsGood, Core, Good, Carries, released}
use Rattle.hm_moves.proofs.Replaced.{apart_now, by_part, by_seat}
use Rattle.hm_moves.proofs.ShownLetting.{collects_released}
use Rattle.hm_moves.proofs.Letting.{letting_good}
use Rattle.hm_moves.proofs.Meeting.{met_letting}
use Rattle.hm_moves.specs.Good.{HasMet}

module _ {U : Type 0} (lawful : U → PlainStore → Type 0) (allowed : U → PlainStore → Entry → Type 0)
    (g : Site U) (c : Core U) (id place : ℕ) (v : View U) (p : Part U) (o : Option Known)
    (good : Good lawful allowed g c) (at : Carries c.views id place v p) where
  -- so is the machine
  pub good_released : Good lawful allowed g (released c id place v p o)
  good_released = record {
    heap = good.heap;
    seen = by_seat c.views id place v p (letting p o) v.seen at refl (λ l. Begins l c.heap.history)
        (good.seen id v at.seat) good.seen;
    parts = by_part c.views id place v p (letting p o) v.seen at refl (PartIsGood g c.heap)
        (letting_good g c.heap v.seen p o (good.parts id place v p at))
        (λ k q ne there. good.parts id k v q record { seat = at.seat; place = there })
        (λ j k u q ne there. good.parts j k u q there);
    apart = apart_now c.views id place v p (letting p o) v.seen at refl good.apart;
    collects = collects_released lawful allowed g c id place v p o good at;
    met = by_part c.views id place v p (letting p o) v.seen at refl (λ l z. HasMet g.shape c.heap z)
        (met_letting g.shape c.heap p o (good.met id place v p at))
        (λ k q ne there. good.met id k v q record { seat = at.seat; place = there })
        (λ j k u q ne there. good.met j k u q there);
  }
