pub mod Line
pub mod Stores
