pub mod Working
pub mod Blocking
pub mod Gating
pub mod Joining
pub mod Asking
