pub mod Choosing
pub mod Least
pub mod Laws
pub mod FourBits
