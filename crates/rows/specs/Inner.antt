pub mod Standing
pub mod Step
pub mod Line
