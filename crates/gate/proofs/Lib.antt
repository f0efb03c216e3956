pub mod Bytewise
pub mod Laws
pub mod Raised
pub mod Contracts
