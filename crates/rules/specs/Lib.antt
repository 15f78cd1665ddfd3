pub mod Message
pub mod Terms
pub mod Report
pub mod Half
pub mod Side
pub mod Rules
pub mod Taking
pub mod Stock
