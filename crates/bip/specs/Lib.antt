pub mod Table
pub mod Value
pub mod Inner
