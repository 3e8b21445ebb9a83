pub mod Links
pub mod Written
