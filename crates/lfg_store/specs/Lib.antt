pub mod Facts
pub mod Kept
pub mod Edits
pub mod Packing
pub mod Props
pub mod Unpacking
