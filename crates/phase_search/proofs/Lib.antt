pub mod PointsHidden
pub mod Trees
pub mod Known
pub mod Prepared
pub mod Answered
pub mod Converted
pub mod Ends
