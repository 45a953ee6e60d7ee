-- Histories: what lists of entries leave, how one begins, and which are legal.
use Rattle.std.specs.Prelude.{◌≡◌, ℕ, ◌+◌, ◌==◌, List, [], ◌∷◌, ◌++◌, length, Option, Some, None, is_some, IfSome, All, replicate, count_by, filter, fold}
use Rattle.hm_model.specs.declared.object.Name.{Name}
use Rattle.hm_model.specs.declared.object.Start.{Start}
use Rattle.hm_model.specs.declared.entry.Entry.{Entry}
use Rattle.hm_model.specs.declared.entry.Entry.TheVariants.{Create}
use Rattle.hm_model.specs.Store.{Refs, Numbers, PlainStore}
use Rattle.hm_model.specs.Effect.{caller_of, is_create, Stands, effect_of}

-- entries leave a store, one after another, from a store on
abbrev pub store_after : PlainStore → List Entry → PlainStore
store_after s es = fold effect_of s es

-- the store of a history is what all its entries leave, from the empty store on
abbrev pub store_of : List Entry → PlainStore
store_of history = store_after [] history

-- entries all stand where each does in the store that those before it leave
abbrev pub AllStand : PlainStore → List Entry → Type 0
AllStand s [] = Unit {0}
AllStand s (e ∷ es) = Stands s e × AllStand (effect_of s e) es

-- the calls of a caller are its entries, in order
abbrev pub calls_of : ℕ → List Entry → List Entry
calls_of q es = filter (λ e. caller_of e == q) es

-- entries are of others where none of them is the caller's
abbrev pub AreOthers : ℕ → List Entry → Type 0
AreOthers q es = calls_of q es ≡ []

-- entries make so many objects
abbrev pub create_count : List Entry → ℕ
create_count es = count_by is_create es

-- the objects that a heap starts with are caller 0's first ones
abbrev pub starting_name : ℕ → Name
starting_name k = record { maker = 0; count = k }

-- it makes the side objects that are given first, in order of place and with no references
abbrev pub side_entries : ℕ → List (Option Numbers) → List Entry
side_entries k [] = []
side_entries k (None ∷ sides) = side_entries k sides
side_entries k (Some numbers ∷ sides) =
    Create 0 (starting_name k) (replicate 4 None) numbers ∷ side_entries (k + 1) sides

-- each place has the name of its side object, or none
abbrev pub side_names : ℕ → List (Option Numbers) → Refs
side_names k [] = []
side_names k (None ∷ sides) = None ∷ side_names k sides
side_names k (Some numbers ∷ sides) = Some (starting_name k) ∷ side_names (k + 1) sides

-- so many side objects are given
abbrev pub side_count : List (Option Numbers) → ℕ
side_count sides = count_by is_some sides

-- a heap starts with one object more
abbrev pub starting_count : Start → ℕ
starting_count start = side_count start.sides + 1

-- the common object, which is the last
abbrev pub common_name : Start → Name
common_name start = starting_name (side_count start.sides)

-- every history begins with the entries that make them; the common object names the side objects
abbrev pub opening_of : Start → List Entry
opening_of start =
    side_entries 0 start.sides
    ++ Create 0 (common_name start) (side_names 0 start.sides) start.numbers ∷ []

-- a start has the sizes that its type gives it
pub record IsSizedStart (start : Start) : Type 0 where
  pub numbers : length start.numbers ≡ 10
  pub four : length start.sides ≡ 4
  pub sides : All (λ side. IfSome side (λ numbers. length numbers ≡ 10)) start.sides

-- a history is legal where it begins with the opening, and its entries all stand
pub record IsLegal (start : Start) (history : List Entry) : Type 0 where
  pub rest : List Entry
  pub begins : history ≡ opening_of start ++ rest
  pub stand : AllStand [] history
