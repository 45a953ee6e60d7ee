-- words and lemmas from lower crates, for all of these
pub mod Words
-- what a look or a build leaves as it was
pub mod Working
-- what a caller is sure of, and what a step tells it
pub mod Sure
pub mod Scanned
pub mod Short
pub mod Stages
pub mod Learning
-- each call is one step of the machine that the Table depicts
pub mod Refines
pub mod Ending
-- held versions, root places and what is seen of them
pub mod Found
pub mod Few
pub mod Rooted
pub mod Entered
-- a pass after a step, and after steps that move no word
pub mod Listed
pub mod Frees
pub mod Grounds
pub mod Moved
pub mod Stepped
pub mod Rested
-- what a caller knows of itself after a step
pub mod Owned
pub mod OwnedLooks
pub mod OwnedBuilds
pub mod OwnedTicks
pub mod OwnedShifts
-- when each call may be made, and what it leaves
pub mod Ready
pub mod Fields
pub mod Loading
pub mod Wanting
pub mod Storing
pub mod Linking
pub mod Creating
pub mod Copying
pub mod Shortening
pub mod Ticking
pub mod Shifting
pub mod Deciding
-- fresh cells and their passes
pub mod Opening
pub mod Fresh
pub mod Dealt
-- closing
pub mod TakenIn
