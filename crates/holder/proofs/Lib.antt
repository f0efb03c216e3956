pub mod Letters
pub mod Profiles
pub mod Laws
