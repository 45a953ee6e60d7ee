-- words and lemmas from lower crates, for all of these
pub mod Words
-- histories and their beginnings
pub mod Histories
-- elements of lists by place, and what is held
pub mod Places
pub mod Held
-- where versions lie, and how they are chained
pub mod Placed
pub mod Chains
pub mod Shorter
-- what an entry changes
pub mod Entries
-- a look or a build: the heap, what is found, and the callers
pub mod Heaps
pub mod HeapSteps
pub mod Finding
pub mod Parts
pub mod OtherParts
pub mod Replaced
pub mod Worked
-- words that are packed, and numbers of rows and names
pub mod Decoded
pub mod Named
pub mod Numbers
-- the state of the rules that a machine shows: what is live, whose it is, and what is clean
pub mod Live
pub mod Clean
pub mod ShownElse
pub mod Barely
pub mod Collected
pub mod Taking
-- that state after letting go, and after a look
pub mod LettingGo
pub mod ShownLetting
pub mod Looking
pub mod Loading
pub mod ShownLooks
-- after a build
pub mod Fields
pub mod Gone
pub mod ShownHeaps
pub mod Building
pub mod Storing
pub mod Missing
pub mod Publishing
pub mod ShownBuilds
-- after a step on the stage or a reply
pub mod TickFacts
pub mod TickHeaps
pub mod TickParts
pub mod ShownTicks
-- after a step on roles
pub mod Rows
pub mod StoredRoles
pub mod ShiftHeaps
pub mod ShiftScans
pub mod ShiftParts
pub mod ShownShifts
-- what stays where versions die, and the heap and the callers after these steps
pub mod Dying
pub mod Ticked
pub mod ShiftRows
pub mod Shifted
pub mod OwnShifted
-- what a scan has met stays so
pub mod Meeting
-- letting go, splits and joins
pub mod Letting
pub mod Released
pub mod Seats
-- a whole move, and what it tells
pub mod Telling
pub mod Steps
pub mod Enabling
-- a fresh machine, and what follows for all that it leads to
pub mod Fresh
pub mod FirstState
pub mod Opening
pub mod FreshMachine
pub mod FirstWords
pub mod Reaching
pub mod Standing
pub mod Cycled
pub mod Safe
pub mod Ends
