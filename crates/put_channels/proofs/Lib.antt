pub mod Written
pub mod Channels
pub mod Sums
pub mod Peeked
