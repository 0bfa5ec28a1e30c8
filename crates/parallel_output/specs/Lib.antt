pub mod ThreadLines
pub mod ThreadTexts
