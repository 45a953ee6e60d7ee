-- the words of these proofs
pub mod Words
-- lists of steps
pub mod Played
-- a hand: tests of its versions, and the words of its draft
pub mod HeldTests
pub mod DraftWords
-- seats, callers and versions of the running machine, as the state has them
pub mod Moments
pub mod Seating
-- the history with its plain store
pub mod ChronicleFacts
-- the tests of a step's entry
pub mod EntryTests
-- a step that is taken: what it leaves, and that it leads on
pub mod Listed
pub mod FieldsRead
pub mod CallerChanged
pub mod AfterMove
pub mod MoveNeeds
pub mod MoveTaken
pub mod LetGo
pub mod Leading
pub mod GivingOut
-- what is known of a cycle
pub mod Tracks
pub mod Marks
pub mod Following
pub mod FoundWords
pub mod RoleRows
pub mod RoleTests
pub mod RoleSteps
pub mod RowsChanged
pub mod RowsFreed
pub mod RowsEnded
pub mod RowsForgotten
pub mod RowsReadied
-- what own versions name
pub mod Naming
-- a fresh machine
pub mod FirstVersions
pub mod FirstMoment
