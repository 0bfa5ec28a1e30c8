pub mod AskingLines
pub mod ScriptLines
pub mod Sources
pub mod Items
pub mod PartReads
pub mod NextItems
pub mod FewThreads
pub mod private
