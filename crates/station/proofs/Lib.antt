pub mod Parts
pub mod Answering
pub mod ByRules
pub mod KeepsSide
pub mod KeepsCells
pub mod Keeps
