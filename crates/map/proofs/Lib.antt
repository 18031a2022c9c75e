pub mod Exact
pub mod Rows
pub mod Claim
