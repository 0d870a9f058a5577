pub mod KeyTies
pub mod Listing
pub mod LoadedGives
pub mod Selecting
pub mod SiteLaws
pub mod SpotLaws
