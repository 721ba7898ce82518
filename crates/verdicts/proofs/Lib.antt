pub mod Claims
pub mod Placed
pub mod RuleLaws
pub mod Sheets
