pub mod Keeps
pub mod Rules
pub mod Histories
pub mod Webs
pub mod Ends
pub mod Weighs
pub mod Passages
