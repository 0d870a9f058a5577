pub mod Spots
pub mod Checks
