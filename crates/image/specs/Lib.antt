pub mod Heads
pub mod Opened
pub mod Spans
