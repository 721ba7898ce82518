pub mod Back
pub mod Forth
pub mod Marks
pub mod Puts
pub mod Sizes
