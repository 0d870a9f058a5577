pub mod Adding
pub mod Naming
pub mod Stating
pub mod Merging
