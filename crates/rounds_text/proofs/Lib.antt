pub mod StartFacts
pub mod EventFacts
pub mod RunFacts
pub mod NextFacts
pub mod Leads
