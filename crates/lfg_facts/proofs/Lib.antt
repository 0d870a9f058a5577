pub mod Classes
mod AddLaws
mod RowLaws
mod NameLaws
mod FactLaws
mod MergeLaws
