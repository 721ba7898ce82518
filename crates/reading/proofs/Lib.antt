pub mod Fields
pub mod Validity
pub mod Onto
pub mod Definite
