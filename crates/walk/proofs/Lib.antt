pub mod Channels
pub mod ChannelList
pub mod Groups
pub mod GroupList
pub mod Tables
