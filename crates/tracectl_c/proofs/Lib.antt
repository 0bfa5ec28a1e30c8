pub mod AsConsoleBox
pub mod AsPassesBox
pub mod PassLemmas
pub mod ReplyLemmas
pub mod ThreadLemmas
pub mod TracerLemmas
pub mod ValueLemmas
pub mod ServedTries
