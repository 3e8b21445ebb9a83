pub mod Owed
pub mod Dealing
