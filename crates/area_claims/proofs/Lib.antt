pub mod OneAdd
pub mod Kept
pub mod References
pub mod Zeros
pub mod Joined
pub mod Lists
pub mod Worked
