pub mod Mutators
pub mod Tending
pub mod Acting
