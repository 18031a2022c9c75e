pub mod Computed
pub mod Lines
