pub mod Ranges
pub mod Versions
pub mod Layout
pub mod Words
