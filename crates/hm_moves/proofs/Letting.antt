-- A caller that lets go of a version leaves a good machine.
use Rattle.std.proofs.Common.{List, Option, ◌∙◌}
use Rattle.hm_moves.proofs.Words.{Entry, Known, Site, Part, Heap, letting, PartIsGood}
use Rattle.hm_moves.proofs.Held.{names_without, unnamed_was, unnamed_wide, without_held}

module _ {U : Type 0} (g : Site U) (h : Heap) (seen : List Entry) (p : Part U)
    (o : Option Known) where
  -- a caller is good still
  pub letting_good : PartIsGood g h seen p → PartIsGood g h seen (letting p o)
  letting_good good = record {
    site = good.site;
    number = good.number;
    draft = record {
      region = good.draft.region;
      to = good.draft.to;
      live = good.draft.live;
      used = good.draft.used;
      wide = unnamed_wide o p.draft.written ∙ good.draft.wide;
      written = λ room j w is. good.draft.written room j w (unnamed_was o p.draft.written j w is);
      named = λ j w n is. names_without p.hands.held o p.draft.written j w is n
          (good.draft.named j w n (unnamed_was o p.draft.written j w is));
    };
    hands = record {
      held = λ k there. good.hands.held k (without_held p.hands.held o k there);
      own = good.hands.own;
      kept = good.hands.kept;
      left = good.hands.left;
      given = good.hands.given;
      alive = good.hands.alive;
      all = good.hands.all;
      once = good.hands.once;
    };
    calls = good.calls;
  }
