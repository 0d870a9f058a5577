pub mod FileLaws
pub mod PieceLaws
pub mod Refusals
pub mod SectionLaws
