pub mod Parts
pub mod Position
