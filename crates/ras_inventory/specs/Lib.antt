pub mod Bounds
pub mod Cells
pub mod HomeWords
pub mod Lines
pub mod Regions
pub mod Registers
pub mod RegionRule
