mod Parts
mod Values
