pub mod Kept
pub mod Cases
pub mod Cores
pub mod Laws
pub mod Answers
pub mod Steps
pub mod Enough
