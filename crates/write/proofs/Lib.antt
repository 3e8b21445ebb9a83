mod Copying
pub mod Numbers
