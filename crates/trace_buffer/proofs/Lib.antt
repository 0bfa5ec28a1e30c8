pub mod Rings
pub mod TakenFrom
pub mod NextReads
pub mod Consumed
pub mod Merges
pub mod Lists
pub mod MergeLaws
pub mod PipeLaws
pub mod EachCpu
pub mod OneCpu
pub mod Bounds
mod Waiting
pub mod CopiesFacts
