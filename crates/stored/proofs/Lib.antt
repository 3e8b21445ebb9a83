mod Rows
pub mod Sampling
mod Storing
mod Types
