pub mod Commands
pub mod Asked
pub mod Reading
pub mod Plain
