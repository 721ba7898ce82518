pub mod Records
pub mod Handed
pub mod Hands
