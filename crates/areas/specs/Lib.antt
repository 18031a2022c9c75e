pub mod Areas
pub mod Numbers
pub mod Calls
