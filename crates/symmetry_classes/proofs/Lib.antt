pub mod Partition
pub mod SameClass
pub mod FirstOfEach
pub mod KeyLaws
pub mod Found
