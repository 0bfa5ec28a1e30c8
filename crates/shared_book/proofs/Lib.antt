pub mod SameBases
pub mod Asking
