pub mod Orders
pub mod Rows
pub mod RowReader
pub mod ReportText
pub mod Putting
pub mod Interleaving
