pub mod Pairs
pub mod Cells
pub mod Places
pub mod Fronts
