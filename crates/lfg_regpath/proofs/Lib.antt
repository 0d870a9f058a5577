pub mod Exact
pub mod LeastLaws
pub mod Places
pub mod PlainLaws
pub mod RowLaws
pub mod SetLaws
pub mod StringLaws
pub mod Turns
