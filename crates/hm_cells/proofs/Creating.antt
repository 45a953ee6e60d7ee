-- A pass that writes the words of its next version, one after another.
use Rattle.std.proofs.Common.{◌≡◌, ◌<◌, ◌≤◌, ◌+◌, ℕ, ◌++◌, length, Option, refl, sym, ap, ◌∙◌, subst, arith, inl, inr, append-nil}
use Rattle.hm_cells.specs.Facts.{HasSpare}
use Rattle.hm_cells.proofs.Words.{ℕ_discrete, dite, Entry, PlainStore, Known, Builds, StoreOwn, HasRoom, IsWritten, Facts, Fits, IsAtRest, IsSound, Made, Takes, taken}
use Rattle.hm_moves.specs.declared.moving.Act.{Act}
use Rattle.hm_cells.proofs.Stepped.{held_few, written_here, written_stays}

module _ {U : Type 0} (lawful : U → PlainStore → Type 0) (allowed : U → PlainStore → Entry → Type 0) where
  -- some words of the caller's next version are 0
  abbrev pub AreNought : Facts U → ℕ → Type 0
  AreNought s n = (j : ℕ) → 1 ≤ j → j < n → IsWritten s.part.draft.written j 0

  -- a pass that took a step fits the cells still
  pub fits_still : (s t : Facts U) (act : Act) (x : ℕ) (m : Made U) → Takes lawful allowed s act x t
      → Fits s m → Fits t m
  fits_still s t act x m took fits = record {
    cells = ap (λ (f : Facts U). f.cells) took.is ∙ fits.cells;
    site = ap (λ (f : Facts U). f.part.site) took.is ∙ fits.site;
  }

  module _ (s t : Facts U) (i word : ℕ) (sound : IsSound lawful allowed s) (after : IsSound lawful allowed t)
      (took : Takes lawful allowed s (Builds (StoreOwn i word)) word t) where
    -- a store of an own word takes nothing into the hand, and no room
    pub rest_still : IsAtRest s → IsAtRest t
    rest_still rest = record {
      hand = ap (λ (f : Facts U). f.hand) took.is
          ∙ (ap (λ (o : Option Known). s.hand ++ taken (Builds (StoreOwn i word)) word o) took.what
          ∙ (append-nil s.hand ∙ rest.hand));
      few = held_few lawful allowed s t (Builds (StoreOwn i word)) word sound after took 400 rest.few
          (let h = ap length rest.hand in omega arith);
      spare = subst (λ (f : Facts U). HasSpare f.part) (sym took.is) rest.spare;
    }

    pub room_still : HasRoom s.part → HasRoom t.part
    room_still room = subst (λ (f : Facts U). HasRoom f.part) (sym took.is) (omega arith)

    -- one more is 0
    pub one_more : word ≡ 0 → i < 16 → AreNought s i → AreNought t (i + 1)
    one_more zero_word low h j some small = dite (ℕ_discrete j i)
        (λ e. subst (λ (k : ℕ). IsWritten t.part.draft.written k 0) (sym e)
        (subst (IsWritten t.part.draft.written i) zero_word
        (written_here lawful allowed s t (Builds (StoreOwn i word)) word sound after took i word refl low (inr
        (inl zero_word)))))
        (λ ne. written_stays lawful allowed s t (Builds (StoreOwn i word)) word sound after took tt j 0 refl
        (λ k w e same. ne (sym same ∙ own k w e)) (h j some (omega arith)) (inr (inl refl)))
      where
        own : (k w : ℕ) → Builds (StoreOwn i word) ≡ Builds (StoreOwn k w) → k ≡ i
        own k w e = cc
