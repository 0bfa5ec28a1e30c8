pub mod FileTable
pub mod FileKinds
pub mod Files
pub mod Names
pub mod Listings
pub mod ListExamples
