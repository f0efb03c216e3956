pub mod Spelling
pub mod Fronts
pub mod Cutting
pub mod Ones
pub mod Laying
pub mod Clearing
