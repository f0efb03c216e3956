pub mod Layout
pub mod Machine
pub mod Inner
