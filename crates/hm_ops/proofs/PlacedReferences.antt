-- Four references, one after another, into a hand.
use Rattle.std.proofs.Common.{◌≡◌, ◌≢◌, ◌⊎◌, ◌<◌, ◌≤◌, ◌+◌, ℕ, Bool, false, List, length, get_or, set, map, is_some, Option, None, sym, ap, ◌∙◌, subst, arith, inl, inr, ⊎_elim, get_or-set_other, get_or-set_same}
use Rattle.std.proofs.lemmas.List.{get_or-map}
use native.Mathlib.Decide.{ℕ_discrete}
use mathlib.Core.Logic.{dite}
use Rattle.hm_shape.specs.declared.version.Version.{Version}
use Rattle.hm_model.specs.declared.object.Name.{Name}
use Rattle.hm_model.specs.declared.entry.Entry.{Entry}
use Rattle.hm_model.specs.declared.root.Root.{Root}
use Rattle.hm_model.specs.Store.{PlainStore}
use Rattle.hm_model.specs.Sight.{name_at}
use Rattle.hm_model.specs.Calls.{IsOutside}
use Rattle.hm_moves.specs.declared.part.Known.{Known}
use Rattle.hm_moves.specs.Chain.{reference_at}
use Rattle.hm_cells.specs.Facts.{Facts, Made, known_at, names_at}
use Rattle.hm_ops.specs.Resting.{IsRootedOutside}
use Rattle.hm_ops.specs.Walking.{ReadsInto, contents_at}

-- an outer place is none of the hand's
pub outside_other : (r hand : Root) (i : ℕ) → IsOutside r hand → i < 4 → r.0 ≢ hand.0 + i
outside_other r hand i out low e = ⊎_elim (λ (a : r.0 < hand.0). absurd (omega arith))
    (λ (a : hand.0 + 4 ≤ r.0). absurd (omega arith)) out

module _ {U : Type 0} (lawful : U → PlainStore → Type 0) (allowed : U → PlainStore → Entry → Type 0)
    (m : Made U) where
  module _ (s t u : Facts U) (v : Version) (hand : Root) (i : ℕ) (low : i < 4)
      (known : known_at t v ≡ known_at s v) (rooted : IsRootedOutside hand t v)
      (reads : ReadsInto lawful allowed m t v i (hand.0 + i) u) where
    -- the version is still named outside the hand
    pub still_rooted : IsRootedOutside hand u v
    still_rooted = (
      rooted.0,
      rooted.1,
      reads.places rooted.0.0
          (outside_other rooted.0 hand i rooted.1 low) ∙ rooted.2,
    )

    same_reference : reference_at (contents_at t v) i ≡ reference_at (contents_at s v) i
    same_reference = ap (λ (n : Known). reference_at n.contents i) known

    -- one more of the hand's places names its reference
    pub here_more : ((j : ℕ) → j < i → name_at (names_at t) (hand.0 + j) ≡ reference_at (contents_at s v) j)
        → (j : ℕ) → j < i + 1 → name_at (names_at u) (hand.0 + j) ≡ reference_at (contents_at s v) j
    here_more before j less = dite (ℕ_discrete j i)
        (λ (e : j ≡ i). subst (λ (k : ℕ). name_at (names_at u) (hand.0 + k) ≡ reference_at
        (contents_at s v) k) (sym e)
        (reads.names.here ∙ same_reference))
        (λ (ne : j ≢ i). reads.names.others (hand.0 + j) (λ e. ne (omega arith)) ∙ before j (omega arith))

    -- the places outside what was filled name what they named
    pub others_more : ((k : ℕ) → (k < hand.0) ⊎ (hand.0 + i ≤ k) → name_at (names_at t) k ≡ name_at
        (names_at s) k)
        → (k : ℕ) → (k < hand.0) ⊎ (hand.0 + (i + 1) ≤ k) → name_at (names_at u) k ≡ name_at (names_at s) k
    others_more before k (inl a) = reads.names.others k (λ e. omega arith) ∙ before k (inl a)
    others_more before k (inr a) = reads.names.others k (λ e. omega arith) ∙ before k (inr (omega arith))

    -- one more of the bits tells whether there is a reference
    pub set_more : (bits : List Bool) (bit : Bool) → length bits ≡ 4 → bit ≡ is_some
        (reference_at (contents_at t v) i)
        → ((j : ℕ) → j < i → get_or bits j false ≡ is_some (reference_at (contents_at s v) j))
        → (j : ℕ) → j < i + 1 → get_or (set bits i bit) j false ≡ is_some (reference_at (contents_at s v) j)
    set_more bits bit four is before j less = dite (ℕ_discrete j i)
        (λ (e : j ≡ i). ap (λ (k : ℕ). get_or (set bits i bit) k false) e
        ∙ (get_or-set_same bits i bit false (omega arith)
        ∙ (is ∙ (ap is_some same_reference ∙ ap (λ (k : ℕ). is_some (reference_at (contents_at s v) k))
        (sym e)))))
        (λ (ne : j ≢ i). get_or-set_other bits i j bit false ne ∙ before j (omega arith))

-- after four they are all there
pub bits_all : (bits : List Bool) (refs : List (Option Name)) → length bits ≡ 4 → length refs ≡ 4
    → ((j : ℕ) → j < 4 → get_or bits j false ≡ is_some (get_or refs j None)) → (j : ℕ) → j < 4
    → get_or bits j false ≡ get_or (map is_some refs) j false
bits_all bits refs four wide h j low = h j low ∙ sym (get_or-map is_some refs j None false (omega arith))
