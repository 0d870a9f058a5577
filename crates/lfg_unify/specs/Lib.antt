pub mod Holding
pub mod Closures
pub mod Rows
pub mod Systems
pub mod Marks
pub mod Collected
pub mod Clashes
