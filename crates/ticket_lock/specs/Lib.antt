pub mod Entries
pub mod Seats
pub mod Views
pub mod Rule
pub mod Moves
pub mod Boxes
pub mod Calls
pub mod private
