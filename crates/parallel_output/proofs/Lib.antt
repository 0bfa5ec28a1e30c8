pub mod ThreadWriting
