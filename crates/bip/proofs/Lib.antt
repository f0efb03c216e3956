pub mod Whole
pub mod Values
pub mod Laws
pub mod Fitting
pub mod Telling
