pub mod TracerServices
pub mod TracerLaws
pub mod RecordLaws
pub mod RecordRows
pub mod ReaderLaws
pub mod SameReplies
pub mod private
