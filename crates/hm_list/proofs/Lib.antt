pub mod OrderFacts
pub mod ListFacts
pub mod Finite
pub mod PlaceFacts
pub mod Walking
pub mod Building
