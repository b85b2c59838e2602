pub mod Rounds
pub mod Laws
pub mod EntryRows
pub mod Scripts
pub mod Mends
