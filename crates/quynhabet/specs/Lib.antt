pub mod Layout
pub mod Exports
