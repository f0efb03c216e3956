pub mod Environment
pub mod Holder
pub mod Event
pub mod Special
pub mod BestContracts
pub mod Contract
