pub mod Branches
pub mod Plain
pub mod Pieces
