pub mod Incumbents
