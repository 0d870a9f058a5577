mod Classes
mod SpotLaws
mod WalkLaws
mod CheckLaws
