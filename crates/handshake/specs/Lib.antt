pub mod Channel
pub mod Clauses
pub mod Turn
pub mod History
pub mod Web
