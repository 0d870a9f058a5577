pub mod Commands
pub mod Output
pub mod Sections
pub mod Sentences
pub mod Statuses
