pub mod Boxes
pub mod Ways
pub mod Growth
pub mod Leaves
pub mod Splits
