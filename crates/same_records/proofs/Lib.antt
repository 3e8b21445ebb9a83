pub mod Marking
pub mod Runs
