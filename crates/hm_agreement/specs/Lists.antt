-- What the definitions of a book take of lists: pairs in order of key, and names that lead to them.
pub use Rattle.hm_list.specs.declared.key.Pair.{Pair}
pub use Rattle.hm_list.specs.Pairs.{insert}
pub use Rattle.hm_list.specs.Cells.{IsList}
