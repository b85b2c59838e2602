pub mod Members
pub mod Protections
pub mod RequestsRule
pub mod Shapes
pub mod Drafts
pub mod Within
pub mod Requested
