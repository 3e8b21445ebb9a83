pub mod Numbers
pub mod Opening
pub mod Fields
pub mod Blocks
pub mod Ident
pub mod ChannelFields
