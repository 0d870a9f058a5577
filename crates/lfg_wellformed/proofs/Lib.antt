mod Classes
mod AskedLaws
mod Conditions
mod Cycle
mod StepLaws
