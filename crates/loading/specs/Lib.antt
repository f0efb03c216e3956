pub mod Blocking
pub mod Place
pub mod Loading
pub mod Inner
