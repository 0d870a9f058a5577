pub mod Finding
pub mod Growing
pub mod Held
pub mod Inserting
pub mod Around
pub mod Placing
pub mod Collecting
pub mod Packings
