pub mod Accepted
pub mod Digits
pub mod FieldsOf
pub mod Merged
pub mod Putting
pub mod Reading
pub mod RowsLeft
