-- What indices, and calls that give them, stand for.
use Rattle.std.specs.Prelude.{ℕ, ◌<◌, IfSome}
use Rattle.std.specs.Option.{option_map}
use Rattle.hm_model.specs.declared.object.Contents.{Contents}
use Rattle.hm_model.specs.declared.object.Field.{Field}
use Rattle.hm_model.specs.declared.object.Field.TheVariants as field
use Rattle.hm_model.specs.declared.entry.Entry.{Entry}
use Rattle.hm_model.specs.declared.entry.Entry.TheVariants as entry
use Rattle.hm_plain.specs.declared.object.Object.{Object}
use Rattle.hm_plain.specs.declared.object.Change.{Change}
use Rattle.hm_plain.specs.declared.object.Change.TheVariants.{Number, Refer}
use Rattle.hm_plain.specs.declared.call.Call.{Call}
use Rattle.hm_plain.specs.declared.call.Call.TheVariants.{Create, Fetch, Store, StoreIf}
use Rattle.hm_plain.specs.Indices.{indexed_name, indexed_names}

-- what an object holds, by names
abbrev pub contents_of_object : Object → Contents
contents_of_object x = record { stamp = x.stamp; refs = indexed_names x.refs; numbers = x.numbers }

-- the field that a change gives a new value
abbrev pub field_of : Change → Field
field_of (Number i value) = field.Number i value
field_of (Refer i value) = field.Refer i (option_map indexed_name value)

-- a change is one of an object's fields, and an index that it gives is below a number
abbrev pub IsWithin : ℕ → Change → Type 0
IsWithin n (Number i value) = i < 10
IsWithin n (Refer i value) = (i < 4) × IfSome value (λ k. k < n)

-- the entry that caller 0 makes by a call
abbrev pub entry_of : Call → Entry
entry_of (Create at refs numbers) = entry.Create 0 (indexed_name at) (indexed_names refs) numbers
entry_of (Fetch at answer) = entry.Fetch 0 (indexed_name at) (contents_of_object answer)
entry_of (Store at change) = entry.Store 0 (indexed_name at) (field_of change)
entry_of (StoreIf at stamp refs numbers answer) =
    entry.StoreIf 0 (indexed_name at) stamp (indexed_names refs) numbers answer
