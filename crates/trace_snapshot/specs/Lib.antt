pub mod Sides
pub mod Sound
pub mod Lending
