pub mod Calendar
pub mod Periods
pub mod Claim
