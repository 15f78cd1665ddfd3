pub mod Held
pub mod Sound
pub mod Outcome
pub mod Side
pub mod Steps
