pub mod BookSeen
pub mod Books
pub mod private
