pub mod CallLemmas
pub mod FramingLemmas
pub mod InboxLemmas
pub mod Transfers
pub mod Delivering
pub mod Serving
pub mod CutLemmas
pub mod ReplyLemmas
mod CallExamples
