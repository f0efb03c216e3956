pub mod Passage
pub mod Inner
