pub mod Slots
pub mod Made
pub mod Parts
