mod Asked
mod Bodies
pub mod Formed
pub mod Going
mod Later
pub mod Numbers
pub mod Promise
mod RecordSteps
pub mod Rows
mod SeriesSteps
mod Signals
mod Standing
mod Tables
