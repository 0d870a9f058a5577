mod Tables
mod Prefixes
pub mod Places
mod RowLaws
mod Sames
mod SweepLaws
mod SettleLaws
mod ClassLaws
mod MarkLaws
mod StepLaws
mod Transfer
mod ClashLaws
mod ClosureLaws
mod PlacedLaws
pub mod Closed
