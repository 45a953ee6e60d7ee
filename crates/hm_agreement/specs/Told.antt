-- What the board tells of each caller.
use Rattle.std.specs.Prelude.{ℕ, List, Option, Some, None, fold, slice_index, if◌then◌else◌}
use Rattle.hm_model.specs.declared.object.Contents.{Contents}
use Rattle.hm_model.specs.declared.object.Field.TheVariants.{Number, Refer}
use Rattle.hm_model.specs.declared.entry.Entry.{Entry}
use Rattle.hm_model.specs.declared.entry.Entry.TheVariants.{Create, Fetch, Store, StoreIf}
use Rattle.hm_model.specs.Store.{PlainStore, contents_of, is_same}
use Rattle.hm_agreement.specs.Cells.{board_name}

-- a store of a number on the board tells that number, and any other entry leaves what was told
abbrev pub told_after : ℕ → Entry → ℕ
told_after told (Create q n refs numbers) = told
told_after told (Fetch q n answer) = told
told_after told (Store q n (Number i value)) = if is_same n board_name then value else told
told_after told (Store q n (Refer i value)) = told
told_after told (StoreIf q n stamp refs numbers answer) = told

-- what entries of one caller told the board last, or 0 before the first
abbrev pub last_told : List Entry → ℕ
last_told mine = fold told_after 0 mine

-- a number of an object, or 0 where there is none
abbrev pub number_in : ℕ → Option Contents → ℕ
number_in i None = 0
number_in i (Some contents) = slice_index contents.numbers i

-- the number that stands on the board of a store for a caller
abbrev pub told_on : PlainStore → ℕ → ℕ
told_on s q = number_in q (contents_of s board_name)
