pub mod Written
pub mod Puts
