pub mod StockFacts
pub mod ViewFacts
pub mod IndexFacts
pub mod AgreeFacts
pub mod CallFacts
pub mod HandFacts
pub mod OpeningFacts
