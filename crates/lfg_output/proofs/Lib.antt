pub mod Alike
pub mod LikeCounts
pub mod LikeLookups
pub mod LikeReadings
pub mod OneOutput
pub mod SentenceEnds
