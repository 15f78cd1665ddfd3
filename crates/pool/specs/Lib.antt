pub mod Pool
pub mod Lent
