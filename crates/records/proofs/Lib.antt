pub mod Fronts
pub mod Numbered
