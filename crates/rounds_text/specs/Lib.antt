pub mod Scripts
pub mod Rounds
pub mod Runs
pub mod Ready
pub mod Laws
