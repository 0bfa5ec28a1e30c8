pub mod Errors
pub mod Logs
pub mod LogLaws
pub mod ErrorExamples
