pub mod Eligible
pub mod Selection
pub mod Inner
