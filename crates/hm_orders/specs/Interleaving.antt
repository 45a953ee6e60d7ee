-- Lists of orders of several files, which are numbered from 1.
use Rattle.std.specs.Prelude.{◌≡◌, ℕ, ◌+◌, ◌==◌, ◌<◌, ◌≤◌, List, Some, All, AllPairs, filter, length, slice_get}
use Rattle.hm_orders.specs.declared.order.Order.{Order}
use Rattle.hm_orders.specs.declared.report.Done.{Done}

-- the part of a list of orders that is of a file, in order
abbrev pub part_of : ℕ → List Order → List Order
part_of file orders = filter (λ order. order.file == file) orders

-- what became of the orders of a file, in order
abbrev pub dones_part : ℕ → List Done → List Done
dones_part file dones = filter (λ done. done.file == file) dones

-- a list of orders interleaves files where its part of each file is that file's list, whole and in
-- order, and it has no other order
pub record Interleaves (files : List (List Order)) (orders : List Order) : Type 0 where
  pub parts : (k : ℕ) (file : List Order) → slice_get files k ≡ Some file
      → part_of (k + 1) orders ≡ file
  pub others : All (λ order. (0 < order.file) × (order.file ≤ length files)) orders

-- lists are the parts of what became of orders where each list is the part of its file, whole and
-- in order, no order is of another file, and root numbers rise
pub record ArePartsOf (lists : List (List Done)) (dones : List Done) : Type 0 where
  pub parts : (k : ℕ) (part : List Done) → slice_get lists k ≡ Some part
      → dones_part (k + 1) dones ≡ part
  pub others : All (λ done. (0 < done.file) × (done.file ≤ length lists)) dones
  pub rising : AllPairs (λ a b. a.root < b.root) dones
