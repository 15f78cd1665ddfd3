pub mod Tables
pub mod Sums
pub mod Puts
pub mod FreshSound
pub mod Listed
