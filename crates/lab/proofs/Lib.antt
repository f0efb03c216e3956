pub mod Answers
pub mod Faults
pub mod Filling
pub mod Following
pub mod Rows
pub mod Running
pub mod Second
pub mod Tables
