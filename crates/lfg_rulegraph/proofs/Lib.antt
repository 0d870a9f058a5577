pub mod EmptyLaws
pub mod FollowerLaws
pub mod GraphLaws
pub mod PartLaws
pub mod RestLaws
pub mod Searching
pub mod TableForms
pub mod TableLaws
