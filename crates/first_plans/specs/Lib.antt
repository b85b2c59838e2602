pub mod Kept
pub mod Ranks
pub mod FirstPlan
pub mod Sums
pub mod Best
pub mod Laws
