pub mod Samples
pub mod Operations
