pub mod Words
pub mod EventWords
pub mod ToolTexts
pub mod ToolWrites
pub mod WrongWords
pub mod ToolExamples
pub mod private
