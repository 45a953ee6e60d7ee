-- the passes of a fresh heap
pub mod Newcomers
-- a caller that stays the same has a pass of the same heap
pub mod Staying
-- a sight with any tending left
pub mod Worked
-- what is to be done, by what is known
pub mod Inverted
-- a caller that has not joined may join
pub mod Joining
-- how much tending is left
pub mod Nearer
-- what each act leaves
pub mod Going
