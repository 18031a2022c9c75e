pub mod Counts
pub mod Lines
pub mod Heads
pub mod HeadLines
