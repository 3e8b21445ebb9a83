pub mod Promise
pub mod Bodies
pub mod Steps
