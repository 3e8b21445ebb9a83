pub mod Readings
pub mod Copies
pub mod Differences
pub mod Outcomes
pub mod Samples
