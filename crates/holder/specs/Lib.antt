pub mod Holder
pub mod Inner
