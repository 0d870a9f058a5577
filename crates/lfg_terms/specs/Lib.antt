pub mod FactTexts
pub mod formers
pub mod Name
pub mod Order
pub mod OrderLaws
pub mod PathOrder
pub mod Texts
