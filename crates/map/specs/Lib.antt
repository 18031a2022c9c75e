pub mod Floats
pub mod Map
pub mod Claim
