pub mod Indices
pub mod Calls
pub mod Stocks
pub mod Views
pub mod Sights
