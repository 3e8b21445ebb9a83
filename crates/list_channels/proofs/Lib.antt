pub mod Channels
