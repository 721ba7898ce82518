pub mod Sets
pub mod Tables
mod Words
