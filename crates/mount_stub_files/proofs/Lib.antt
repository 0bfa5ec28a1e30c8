pub mod EventFlags
pub mod Lines
pub mod Owners
