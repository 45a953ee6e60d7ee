pub mod Sides
pub mod Cost
pub mod Fetched
pub mod Attempted
pub mod Working
