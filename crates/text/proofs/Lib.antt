pub mod Write
pub mod Value
