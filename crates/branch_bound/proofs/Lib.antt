pub mod SlotFacts
pub mod KeyFacts
pub mod ReasonFacts
pub mod ExploreFacts
pub mod StateFacts
pub mod FoundFacts
pub mod RelaxFacts
