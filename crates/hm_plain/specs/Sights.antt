-- What contracts see of a plain caller, and how its parts agree.
use Rattle.std.specs.Prelude.{◌≡◌, ℕ, ◌+◌, Bool, true, false, List, [], length, Option, Some, None, slice_index_or, slice_set, replicate, count_by}
use Rattle.hm_model.specs.declared.entry.Tried.TheVariants.{Stored, Changed}
use Rattle.hm_model.specs.declared.entry.Entry.{Entry}
use Rattle.hm_model.specs.declared.entry.Entry.TheVariants.{Create, Fetch, Store, StoreIf}
use Rattle.hm_model.specs.declared.root.Root.{Root}
use Rattle.hm_model.specs.Sight.{Sight}
use Rattle.hm_plain.specs.declared.diary.View.{View}
use Rattle.hm_plain.specs.Indices.{indexed_names, AreBelow, numbered}
use Rattle.hm_plain.specs.Stocks.{Stock}
use Rattle.hm_plain.specs.Views.{store_in}

-- a create takes a version, and so does a store that changes an object
abbrev pub takes_version : Entry → Bool
takes_version (Create q n refs numbers) = true
takes_version (Fetch q n answer) = false
takes_version (Store q n field) = true
takes_version (StoreIf q n stamp refs numbers Stored) = true
takes_version (StoreIf q n stamp refs numbers (Changed now)) = false

-- how many versions a history takes
abbrev pub version_count : List Entry → ℕ
version_count history = count_by takes_version history

-- the index at a root place that is given
abbrev pub index_at : List (Option ℕ) → Option Root → Option ℕ
index_at roots None = None
index_at roots (Some r) = slice_index_or roots r.0 None

-- at first root place 0 has the common object's index, and the others have none
abbrev pub fresh_roots : ℕ → List (Option ℕ)
fresh_roots common = slice_set (replicate 256 None) 0 (Some common)

module _ {U : Type 0} where
  -- a plain caller is caller 0 of its heap, and collects nothing
  abbrev pub sight_of : View U → Stock → List (Option ℕ) → Sight U
  sight_of v objects roots = record {
    heap = [];
    usage = v.usage;
    start = v.start;
    number = 0;
    seen = v.seen;
    mine = v.mine;
    roots = indexed_names roots;
    room = objects.room;
    copying = false;
    used = objects.used;
    span = v.versions;
    free = 0;
    kept = 0;
    moves = 0;
    tends = v.tends;
    to_go = 0;
  }

  -- a caller is plain where it is the only one of its heap, collects nothing, and uses each version
  -- once
  pub record IsPlain (c : Sight U) : Type 0 where
    pub number : c.number ≡ 0
    pub alone : c.mine ≡ c.seen
    pub copying : c.copying ≡ false
    pub used : c.used ≡ version_count c.seen
    pub versions : c.used + c.room ≡ c.span
    pub free : c.free ≡ 0
    pub kept : c.kept ≡ 0
    pub moves : c.moves ≡ 0
    pub to_go : c.to_go ≡ 0

  -- all that was seen is the caller's own, the table holds what the history leaves, its versions
  -- are those that the history takes, with those that are left they are all, and places name
  -- objects
  pub record Agree (v : View U) (objects : Stock) (roots : List (Option ℕ)) : Type 0 where
    pub alone : v.mine ≡ v.seen
    pub store : numbered objects.contents ≡ store_in v
    pub used : objects.used ≡ version_count v.seen
    pub versions : objects.used + objects.room ≡ v.versions
    pub places : AreBelow (length objects.contents) roots
