pub mod Pages
pub mod ReadPages
pub mod Taking
pub mod Laws
pub mod KernelFormats
pub mod Rows
pub mod FormatLaws
pub mod HeaderTexts
