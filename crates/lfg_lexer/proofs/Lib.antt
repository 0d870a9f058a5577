pub mod Exact
pub mod NameTexts
pub mod Rows
