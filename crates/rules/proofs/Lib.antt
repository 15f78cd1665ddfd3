pub mod Signed
pub mod Ruling
pub mod InOrder
pub mod Refusing
pub mod Spent
pub mod Terms
