-- What contracts see of closed cells, and what the rule of the Table leaves for good.
use Rattle.std.specs.Prelude.{◌≡◌, ◌⊎◌, ℕ, suc, ◌<◌, List, [], length, slice_get, slice_index, Some}
use mathlib.Core.Option.{some}
use lib.ListN.{get_elem?}
use Rattle.atomic_table.specs.declared.shared.Seat.{Seat}
use Rattle.hm_shape.specs.declared.stage.Stage.{Stage}
use Rattle.hm_shape.specs.Words.{stage_at, stage_word}
use Rattle.hm_model.specs.declared.entry.Entry.{Entry}
use Rattle.hm_model.specs.Store.{PlainStore}
use Rattle.hm_model.specs.History.{calls_of}
use Rattle.hm_model.specs.Lawful.{IsLawful}
use Rattle.hm_moves.specs.declared.part.Site.{Site}
use Rattle.hm_moves.specs.declared.part.View.{View}
use Rattle.hm_moves.specs.Good.{AreBelow, Begins, Carries, Core, Good}
use Rattle.hm_moves.specs.Safe.{IsSafe}
use Rattle.hm_cells.specs.declared.knowledge.Knowledge.{Knowledge}
use Rattle.hm_cells.specs.declared.closing.Counts.{Counts}
use Rattle.hm_cells.specs.Facts.{Facts, Fits, Made, sight_of}

-- what all callers of closed cells agreed on, the whole history, the last stage, and each caller's
-- counts, in order of number; behind them counts of 0 stand for callers that the cells did not have
pub record Ended (U : Type 0) : Type 0 where
  pub site : Site U
  pub history : List Entry
  pub stage : Stage
  pub counts : List Counts

module _ {U : Type 0} where
  -- a pass tells these counts
  abbrev pub counts_of : Facts U → Counts
  counts_of s = record {
    used = (sight_of s).used;
    free = (sight_of s).free;
    joined = s.part.cycle.ties.joined;
  }

  -- these are all passes of the cells, in order of number
  pub record AreAll (m : Made U) (passes : List (Facts U)) : Type 0 where
    pub count : length passes ≡ m.site.shape.callers
    pub fits : (k : ℕ) (s : Facts U) → slice_get passes k ≡ Some s → Fits s m
    pub numbers : (k : ℕ) (s : Facts U) → slice_get passes k ≡ Some s → s.part.number ≡ k

  -- a pass ends in closed cells: what it had seen begins the history, its calls are those of its
  -- caller there, in order, and its counts are kept
  pub record EndsIn (e : Ended U) (s : Facts U) : Type 0 where
    pub seen : Begins s.seen e.history
    pub calls : calls_of s.part.number e.history ≡ s.part.calls.mine
    pub counts : slice_get e.counts s.part.number ≡ Some (counts_of s)

  -- a machine carries a pass's caller
  abbrev pub CarriesPass : Core U → Facts U → Type 0
  CarriesPass c s = (j k : ℕ) × (v : View U) × Carries c.views j k v s.part

  module _ (lawful : U → PlainStore → Type 0) (allowed : U → PlainStore → Entry → Type 0) where
    -- the rule held to the end: there is a good machine, which is safe, and so gives no version in
    -- reach out again; all its history is the cells', and its stage is their last one
    pub record HeldToTheEnd (e : Ended U) : Type 0 where
      pub core : Core U
      pub good : Good lawful allowed e.site core
      pub safe : IsSafe e.site core
      pub history : core.heap.history ≡ e.history
      pub stage : slice_index core.heap.words stage_at ≡ stage_word e.stage

    -- so that history is lawful, behind the opening, and each of its entries is by one of the
    -- callers
    pub record IsWholeHistory (e : Ended U) : Type 0 where
      pub lawfully : IsLawful (lawful e.site.usage) (allowed e.site.usage) e.site.start e.history
      pub callers : AreBelow e.site.shape.callers e.history

  -- a pass is taken in where a seat carries its caller, has seen what it had, and its counts are
  -- noted
  pub record IsTakenIn (k : Knowledge U) (counts : List Counts) (s : Facts U) : Type 0 where
    pub place : ℕ
    pub carried : get_elem? k.view.parts place ≡ some s.part
    pub seen : Begins s.seen k.view.seen
    pub noted : slice_get counts s.part.number ≡ Some (counts_of s)

  -- all passes but the rest, which come behind the first, are taken in by a seat
  pub record AreTakenIn (m : Made U) (all rest : List (Facts U))
      (seat : Seat (Unit {0}) (Knowledge U)) (counts : List Counts) : Type 0 where
    pub here : seat.table_id ≡ m.table
    pub none : seat.me.1 ≡ []
    pub wide : length counts ≡ 8
    pub left : (k : ℕ) (s : Facts U) → slice_get rest k ≡ Some s → slice_get all (suc k) ≡ Some s
    pub taken : (k : ℕ) (s : Facts U) → slice_get all k ≡ Some s → (k ≡ 0) ⊎ (length rest < k)
        → IsTakenIn seat.me.0 counts s
