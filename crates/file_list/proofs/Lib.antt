mod Lines
mod ListExamples
