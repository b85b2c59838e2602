pub mod Helpers
pub mod Settling
pub mod Weighing
pub mod Closing
