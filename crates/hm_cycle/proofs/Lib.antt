-- what a step on the stage or on replies leaves
pub mod Heard
-- when a caller may reply
pub mod Replied
-- the stage after an exchange
pub mod Exchanging
-- replies that are known, and where the stage may go
pub mod Knowing
-- roles of regions before a join or a reuse and after it
pub mod FreedRoles
-- what a step on a caller's own roles leaves
pub mod Shifted
-- a join, from its steps
pub mod Joining
-- a reuse, from its step
pub mod Reusing
