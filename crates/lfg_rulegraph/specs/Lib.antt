pub mod Empty
pub mod Followers
pub mod Graphs
pub mod Parts
pub mod Tables
