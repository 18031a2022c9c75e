pub mod Rendering
pub mod Claim
