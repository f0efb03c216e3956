pub mod Answer
pub mod Environment
pub mod Event
pub mod Order
pub mod Inner
