pub mod Answering
pub mod Inverse
pub mod Coming
pub mod Telling
