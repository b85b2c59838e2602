pub mod RunFacts
pub mod LineFacts
