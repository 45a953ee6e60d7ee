-- What the one seat of a plain heap knows: the history, which is carried here and never stored.
use Rattle.std.specs.Prelude.{◌≡◌, ℕ, ◌+◌, [], ◌∷◌, ◌++◌}
use mathlib.Core.Option.{some}
use lib.ListN.{get_elem?}
use Rattle.atomic_table.specs.Table.{State}
use Rattle.hm_model.specs.declared.object.Start.{Start}
use Rattle.hm_model.specs.declared.entry.Entry.{Entry}
use Rattle.hm_model.specs.declared.entry.Entry.TheVariants.{Create}
use Rattle.hm_model.specs.Store.{PlainStore}
use Rattle.hm_model.specs.Effect.{Stands}
use Rattle.hm_model.specs.History.{store_of, calls_of, opening_of, starting_name}
use Rattle.hm_model.specs.Lawful.{MayCome, IsLawful}
use Rattle.hm_plain.specs.declared.diary.View.{View}

-- a fact holds of what every seat of a table knows
abbrev pub EachView : {S V : Type 0} → (V → Type 0) → State S V → Type 0
EachView {S} {V} P s = (j : ℕ) (v : V) → get_elem? s.views j ≡ some v → P v

-- an entry that stands for none until a call picks its own
abbrev pub some_entry : Entry
some_entry = Create 0 (starting_name 0) [] []

module _ {U : Type 0} where
  -- at first the seat has seen the opening, which caller 0 has made, and has not tended
  abbrev pub opened : U → Start → ℕ → View U
  opened usage start versions = record {
    usage = usage;
    start = start;
    versions = versions;
    seen = opening_of start;
    mine = opening_of start;
    tends = 0;
  }

  -- an entry that caller 0 makes comes last
  abbrev pub longer : View U → Entry → View U
  longer v e = record v { seen = v.seen ++ e ∷ []; mine = v.mine ++ e ∷ [] }

  -- a tend counts
  abbrev pub tended : View U → View U
  tended v = record v { tends = v.tends + 1 }

  -- the store that the seat has seen
  abbrev pub store_in : View U → PlainStore
  store_in v = store_of v.seen

  module _ (lawful : U → PlainStore → Type 0) (allowed : U → PlainStore → Entry → Type 0) where
    -- the history is lawful, and all that caller 0 made in it is its own
    pub record IsKept (v : View U) : Type 0 where
      pub history : IsLawful (lawful v.usage) (allowed v.usage) v.start v.seen
      pub calls : calls_of 0 v.seen ≡ v.mine

    -- an entry may be added to a history that is kept
    abbrev pub MayAdd : View U → Entry → Type 0
    MayAdd v e = IsKept v → Stands (store_in v) e × allowed v.usage (store_in v) e

    -- an entry that might come was added
    pub record Adds (v w : View U) (e : Entry) : Type 0 where
      pub view : w ≡ longer v e
      pub was : IsKept v
      pub come : MayCome (lawful v.usage) (allowed v.usage) (store_in v) e
