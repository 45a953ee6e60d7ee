-- Stretches of calls that store nothing into an object.
use Rattle.std.specs.Prelude.{◌≡◌, ℕ, ◌+◌, ◌≤◌, false, List, All}
use Rattle.hm_model.specs.declared.entry.Entry.{Entry}
use Rattle.hm_model.specs.declared.entry.Entry.TheVariants.{Create, Fetch, Store, StoreIf}
use Rattle.hm_model.specs.Store.{PlainStore}
use Rattle.hm_model.specs.History.{create_count}
use Rattle.hm_model.specs.Sight.{Sight, IsUntended, Goes}

-- creates and fetches store nothing into an object
abbrev pub IsBuilding : Entry → Type 0
IsBuilding (Create q n refs numbers) = Unit {0}
IsBuilding (Fetch q n answer) = Unit {0}
IsBuilding (Store q n field) = ⊥
IsBuilding (StoreIf q n stamp refs numbers answer) = ⊥

module _ {U : Type 0} (lawful : U → PlainStore → Type 0)
    (allowed : U → PlainStore → Entry → Type 0) where
  -- a caller builds where it makes such entries alone; the number of creates bounds what it takes
  -- of its room
  pub record Builds (c d : Sight U) (most : ℕ) : Type 0 where
    pub own : List Entry
    pub goes : Goes lawful allowed c d own
    pub untended : IsUntended c d
    pub building : All IsBuilding own
    pub few : create_count own ≤ most
    pub room : c.copying ≡ false → c.room ≤ d.room + most
