pub mod DataGroups
