pub mod DataGroups
pub mod Files
