pub mod Given
pub mod Fills
pub mod Endings
pub mod Bests
pub mod Running
