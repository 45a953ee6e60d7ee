-- Stores of a field, from their steps.
use Rattle.std.proofs.Common.{◌≡◌, ℕ, Option, Some, None, refl, sym, ap, ◌∙◌, subst}
use Rattle.hm_shape.specs.declared.version.Version.{Version}
use Rattle.hm_model.specs.declared.entry.Entry.{Entry}
use Rattle.hm_model.specs.declared.entry.Entry.TheVariants as entry
use Rattle.hm_model.specs.declared.object.Field.TheVariants.{Refer}
use Rattle.hm_model.specs.declared.root.Root.{Root}
use Rattle.hm_model.specs.Store.{PlainStore}
use Rattle.hm_model.specs.Sight.{Sight, MayEnter, name_of, root_of}
use Rattle.hm_model.specs.Calls.{MayStore, Stores}
use Rattle.hm_model.proofs.CallFacts.{stores_enters}
use Rattle.hm_cells.specs.declared.want.Want.TheVariants.{Store}
use Rattle.hm_cells.specs.declared.want.WantField.{WantField}
use Rattle.hm_cells.specs.declared.want.WantField.TheVariants as want
use Rattle.hm_cells.specs.Facts.{Facts, Made, known_at, sight_of}
use Rattle.hm_cells.specs.Calls.{field_of, stored}
use Rattle.hm_ops.specs.Turning.{recounted}
use Rattle.hm_ops.specs.Walking.{HasCome, IsLast}
use Rattle.hm_ops.specs.Copying.{CopiesChanged}
use Rattle.hm_ops.specs.Storing.{Ends, Steps}
use Rattle.hm_ops.proofs.LinkSteps.{come_named}
use Rattle.hm_ops.proofs.Onward.{steps_from}

module _ {U : Type 0} where
  -- a field is the same to passes that others see alike
  pub field_same : (s t : Facts U) (field : WantField) → sight_of t ≡ sight_of s → field_of t field ≡ field_of s field
  field_same s t (want.Number i value) same = refl
  field_same s t (want.Refer i r) same = λ j. Refer i (name_of (same j) r)

  -- and to one with other counts
  pub field_counted : (s t : Facts U) (field : WantField) (used free : ℕ)
      → sight_of t ≡ recounted (sight_of s) used free → field_of t field ≡ field_of s field
  field_counted s t (want.Number i value) used free is = refl
  field_counted s t (want.Refer i r) used free is =
      ap (λ (c : Sight U). Refer i (name_of c r)) is ∙ named r
    where
      named : (o : Option Root)
          → Refer i (name_of (recounted (sight_of s) used free) o) ≡ Refer i (name_of (sight_of s) o)
      named None = refl
      named (Some a) = refl

module _ {U : Type 0} (lawful : U → PlainStore → Type 0) (allowed : U → PlainStore → Entry → Type 0)
    (m : Made U) where
  -- a pass has walked to a version
  module _ (s p : Facts U) (at : Root) (v : Version) (field : WantField)
      (come : HasCome lawful allowed m s at v p) where
    same : sight_of p ≡ sight_of s
    same = come.same

    named : root_of (sight_of p) at ≡ Some (known_at p v).name
    named = come_named lawful allowed m s p at v come

    -- the store is allowed there, where the call was
    pub may_store : MayStore lawful allowed (sight_of s) at (field_of s field)
        → MayEnter lawful allowed (sight_of p) (stored p (known_at p v) (Store field))
    may_store may =
        subst (λ (f : Rattle.hm_model.specs.declared.object.Field.Field).
        MayEnter lawful allowed (sight_of p) (entry.Store p.part.number (known_at p v).name f))
        (sym (field_same s p field same))
        (subst (λ (c : Sight U). MayStore lawful allowed c at (field_of s field)) (sym same) may
        (known_at p v).name named)

    -- where an attempt stored, the call stores the field
    pub stores : (t : Facts U) → Ends lawful allowed m p (stored p (known_at p v) (Store field)) 1 t
        → Stores lawful allowed (sight_of s) (sight_of t) at (field_of s field)
    stores t ends =
        subst (λ (c : Sight U). Stores lawful allowed c (sight_of t) at (field_of s field)) same
        (subst (Stores lawful allowed (sight_of p) (sight_of t) at) (field_same s p field same)
        (stores_enters lawful allowed (sight_of p) (sight_of t) at (field_of p field)
        (known_at p v).name named ends.entry ends.names ends.room))

  -- a look found no version behind, and a copy was written
  module _ (s p t : Facts U) (at : Root) (v : Version) (field : WantField)
      (last : IsLast lawful allowed m s v None p) (copies : CopiesChanged p v field t) where
    -- the exchange is a step of the attempt
    pub store_steps : (u : Facts U) (next : Option Version)
        → Steps lawful allowed m t at v (stored t (known_at t v) (Store field)) 1 next u
        → Steps lawful allowed m s at v (stored s (known_at s v) (Store field)) 1 next u
    store_steps u next steps =
        let alike : sight_of t ≡ sight_of s = copies.same ∙ last.same refl in
        let known : known_at t v ≡ known_at s v = copies.known ∙ last.known in
        steps_from lawful allowed m s t u alike at v known (stored s (known_at s v) (Store field))
        (stored t (known_at t v) (Store field)) 1 next
        (λ i. entry.Store (alike i).number (known i).name (field_same s t field alike i)) steps
