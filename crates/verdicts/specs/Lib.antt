pub mod Answers
pub mod JudgedRules
pub mod Laws
pub mod Placed
pub mod Rules
pub mod Text
