pub mod Written
pub mod Channels
