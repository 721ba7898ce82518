pub mod Drafts
pub mod Reading
pub mod Decoding
