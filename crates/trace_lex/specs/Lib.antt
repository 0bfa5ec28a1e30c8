pub mod Blanks
pub mod Decimals
pub mod Laws
pub mod Names
pub mod Numbers
pub mod Prefixes
