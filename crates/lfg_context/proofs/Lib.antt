mod Canonical
mod TestLaws
mod TableLaws
mod Making
mod Children
mod Combining
mod Wider
mod Keys
mod Results
mod NumberLaws
mod LeastLaws
mod Apart
mod SeenLaws
mod FirstLaws
pub mod Growing
pub mod Depending
mod SomeMember
pub mod Telling
