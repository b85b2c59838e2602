pub mod Causes
pub mod Counts
pub mod Held
pub mod Memory
pub mod Puts
pub mod Reading
