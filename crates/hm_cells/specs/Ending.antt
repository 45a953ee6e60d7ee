-- What a closed Table leaves to the seat with which it was closed.
use Rattle.std.specs.Prelude.{◌≡◌, ℕ, ◌+◌, ◌<◌, List, [], length, slice_index, nat_lt, if◌then◌else◌}
use mathlib.Core.Option.{some}
use lib.ListN.{get_elem?}
use Rattle.hm_shape.specs.Words.{stage_at}
use Rattle.hm_model.specs.declared.entry.Entry.{Entry}
use Rattle.hm_model.specs.Store.{PlainStore}
use Rattle.hm_moves.specs.declared.part.Site.{Site}
use Rattle.hm_moves.specs.declared.part.Part.{Part}
use Rattle.hm_moves.specs.declared.part.View.{View}
use Rattle.hm_moves.specs.Good.{Begins, Core, Good, joined_view, longer}
use Rattle.hm_cells.specs.declared.knowledge.Knowledge.{Knowledge}

-- each of n callers is among these
abbrev pub CarriesAll : {U : Type 0} → ℕ → List (Part U) → Type 0
CarriesAll {U} n parts = (q : ℕ) → q < n
    → (k : ℕ) × (p : Part U) × (get_elem? parts k ≡ some p) × (p.number ≡ q)

-- the shorter of two histories, the second where they are as long
abbrev pub shorter : List Entry → List Entry → List Entry
shorter xs ys = if nat_lt (length xs) (length ys) then xs else ys

module _ {U : Type 0} where
  -- a seat that takes another in keeps the shorter history in mind, and took a step
  abbrev pub gathered : Knowledge U → Knowledge U → Knowledge U
  gathered k other = record k {
    view = joined_view k.view other.view;
    steps = k.steps + 1;
    before = shorter k.view.seen other.view.seen;
  }

  -- a seat hears that what it keeps in mind begins what it has seen, if that is as long, and keeps
  -- it in mind no more
  pub record Heard (k l : Knowledge U) : Type 0 where
    pub is : l ≡ record k { steps = k.steps + 1; before = [] }
    pub begins : Begins k.before (longer k.view.seen k.before)

  -- a seat takes another in: it then carries the callers of both, and what either had seen begins
  -- what it has seen
  pub record Gathers (k other l : Knowledge U) : Type 0 where
    pub view : l.view ≡ joined_view k.view other.view
    pub own : Begins k.view.seen l.view.seen
    pub others : Begins other.view.seen l.view.seen

module _ {U : Type 0} (lawful : U → PlainStore → Type 0) (allowed : U → PlainStore → Entry → Type 0)
  where
    -- the rule held to the end: there is a good machine in which this view has seen the whole
    -- history, and its stage has this word
    pub record EndsWith (g : Site U) (v : View U) (stage : ℕ) : Type 0 where
      pub core : Core U
      pub good : Good lawful allowed g core
      pub id : ℕ
      pub seat : get_elem? core.views id ≡ some v
      pub history : core.heap.history ≡ v.seen
      pub stage_is : slice_index core.heap.words stage_at ≡ stage
