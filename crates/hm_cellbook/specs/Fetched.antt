-- That the common object was fetched.
use Rattle.std.specs.Prelude.{◌≡◌, List, [], ◌∷◌, ◌++◌, Some}
use Rattle.hm_model.specs.declared.object.Name.{Name}
use Rattle.hm_model.specs.declared.object.Contents.{Contents}
use Rattle.hm_model.specs.declared.entry.Entry.{Entry}
use Rattle.hm_model.specs.declared.entry.Entry.TheVariants.{Fetch}
use Rattle.hm_model.specs.declared.root.Snapshot.{Snapshot}
use Rattle.hm_model.specs.Store.{PlainStore}
use Rattle.hm_model.specs.Sight.{Sight, name_at, HasHistory}
use Rattle.hm_model.specs.Calls.{snapshot_of}
use Rattle.hm_agreement.specs.Cells.{book_name, IsNode}
use Rattle.hm_agreement.specs.Agreed.{IsLawfulBook, IsAllowedBook}
use Rattle.hm_cellbook.specs.declared.usage.BookUsage.{BookUsage}

-- the usage of a book has lawful stores
abbrev pub book_lawful : BookUsage → PlainStore → Type 0
book_lawful usage = IsLawfulBook

-- allowed entries
abbrev pub book_allowed : BookUsage → PlainStore → Entry → Type 0
book_allowed usage = IsAllowedBook usage.limits usage.lengths

-- and nodes
abbrev pub book_node : BookUsage → PlainStore → Name → Type 0
book_node usage = IsNode

-- contents have the stamp and the numbers of a snapshot, and the references that places 4 to 7 name
abbrev pub fetched_contents : Sight BookUsage → Snapshot → Contents
fetched_contents c at = record {
  stamp = at.stamp;
  refs = name_at c.roots 4 ∷ name_at c.roots 5 ∷ name_at c.roots 6 ∷ name_at c.roots 7 ∷ [];
  numbers = at.numbers;
}

-- root place 0 was fetched into places 4 to 7 where it names the common object, a beginning of what
-- its caller has seen, a lawful history, ends with its Fetch of those contents, and the snapshot is
-- theirs
pub record WasFetched (c : Sight BookUsage) (at : Snapshot) : Type 0 where
  pub place : name_at c.roots 0 ≡ Some book_name
  pub before : List Entry
  pub later : List Entry
  pub seen : c.seen ≡ before ++ Fetch c.number book_name (fetched_contents c at) ∷ later
  pub value : at ≡ snapshot_of (fetched_contents c at)
  pub history : HasHistory book_lawful book_allowed c
