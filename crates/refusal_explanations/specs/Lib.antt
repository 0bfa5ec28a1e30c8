pub mod Bytes
pub mod LeftOut
pub mod Carets
pub mod Places
pub mod Words
pub mod Layout
pub mod Explanations
pub mod FaultWords
