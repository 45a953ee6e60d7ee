-- what a scan leaves as it was while it goes on, and what of its holding is clear
pub mod Going
-- what each of its steps leaves of a pass, by kind of step
pub mod Steps
pub mod Masks
pub mod Looks
-- what a search for a current version leaves, and the store of that version
pub mod BroughtOut
pub mod Replaces
-- a scan that ends clean
pub mod Ends
