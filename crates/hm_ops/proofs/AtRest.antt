-- What stays at rest between two calls.
use Rattle.std.proofs.Common.{◌≡◌, ◌≤◌, ℕ, List, length, Option, Some, None, sym, subst, arith}
use Rattle.std.proofs.lemmas.List.Sums.{length-filter}
use Rattle.hm_model.specs.declared.entry.Entry.{Entry}
use Rattle.hm_moves.specs.declared.part.Known.{Known}
use Rattle.hm_moves.specs.After.{without}
use Rattle.hm_cells.specs.Facts.{Facts, Made, first_idle}
use Rattle.hm_cells.specs.Calls.{rested}
use Rattle.hm_ops.specs.Resting.{IsResting}

-- letting go leaves no more
without_fewer : (l : List Known) (o : Option Known) → length (without l o) ≤ length l
without_fewer l None = omega arith
without_fewer l (Some k) = grind (arith, length-filter, Rattle.std.proofs.lemmas.Grind.common_steps)

module _ {U : Type 0} where
  -- a pass at rest that takes a note in, or splits one off
  pub rested_rests : (s t : Facts U) (m : Made U) (seen : List Entry) (n : ℕ) → IsResting s m → t ≡ rested s seen n →
      IsResting t m
  rested_rests s t m seen n k is = subst (λ (f : Facts U). IsResting f m) (sym is) record {
    fits = record { cells = k.fits.cells; site = k.fits.site };
    rest = record {
      hand = k.rest.hand;
      few = let less = without_fewer s.part.hands.held (first_idle s.roots s.hand s.part.hands.held) in
          omega (arith, k.rest.few);
      spare = k.rest.spare;
    };
  }
