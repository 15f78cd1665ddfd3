pub mod Steps
pub mod Running
pub mod Cells
pub mod Looking
pub mod Planning
