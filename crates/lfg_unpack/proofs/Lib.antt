pub mod Over
pub mod Splitting
pub mod Covering
pub mod Sorting
pub mod TreeLaws
pub mod Plainness
