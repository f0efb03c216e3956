pub mod Contract
pub mod Inner
