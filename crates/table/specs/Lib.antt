pub mod Table
pub mod Sound
pub mod Stepped
pub mod Fresh
pub mod Way
