pub mod Faults
pub mod Least
pub mod PlainRows
pub mod Sets
