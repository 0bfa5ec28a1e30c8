pub mod Histories
pub mod SeatLists
pub mod LineKept
pub mod KnownKept
pub mod FrontKept
pub mod Steps
pub mod SeatFields
pub mod AtCalls
mod Looked
