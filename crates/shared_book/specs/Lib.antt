pub mod Bases
pub mod Asks
pub mod private
