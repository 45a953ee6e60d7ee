-- what one step leaves of a pass, and what stays at rest between two calls
pub mod OneStep
pub mod AtRest
-- what the steps of a search leave of a scan
pub mod ScanSteps
-- a version that a step took is settled at a root place
pub mod Settled
-- loads of what a version holds, and of its references into the hand and into root places
pub mod FieldLoads
pub mod TakenReferences
pub mod PlacedReferences
-- the order of what is in hand
pub mod Hands
-- words of the caller's next version, as they are written, and as a whole draft or copy
pub mod WrittenWords
pub mod WholeDrafts
pub mod ChangedCopies
-- loads and exchanges of links
pub mod LinkSteps
-- turns to a Free region
pub mod TurnedRoles
pub mod Turned
pub mod Counts
-- searches for current versions, and what their steps come to
pub mod Searching
pub mod SearchSteps
pub mod OutCopies
-- whole calls, from their steps
pub mod Onward
pub mod Creates
pub mod Fetches
pub mod CopiedBehind
pub mod FieldStores
pub mod ConditionalStores
