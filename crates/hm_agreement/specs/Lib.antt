pub mod Lists
pub mod Cells
pub mod Agreed
pub mod Spelled
pub mod Told
