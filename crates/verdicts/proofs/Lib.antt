pub mod Verdicts
pub mod Temperatures
