pub mod Rows
pub mod Points
pub mod Reasons
pub mod Refusals
pub mod Rules
pub mod Meaning
pub mod Calls
pub mod Text
