pub mod Moving
pub mod Passing
pub mod Raising
pub mod Writing
pub mod Laws
pub mod Afterwards
