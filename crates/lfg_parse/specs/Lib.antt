pub mod Picking
pub mod Packs
pub mod Judging
pub mod Faults
