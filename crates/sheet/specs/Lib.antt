pub mod Content
pub mod Kinds
pub mod Limits
pub mod Sound
