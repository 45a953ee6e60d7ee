pub mod Standing
pub mod Roles
pub mod Cycling
