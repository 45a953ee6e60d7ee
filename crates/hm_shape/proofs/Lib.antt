pub mod Digits
pub mod Numbering
pub mod Stages
pub mod Turns
