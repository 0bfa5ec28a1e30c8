-- The entries of a directory, as bytes of the data that is read of it.
use Rattle.std.specs.Prelude.{ℕ, List, [], ◌∷◌, length}
use Rattle.fuse_wire.specs.Alignment.{padding}
use Rattle.fuse_wire.specs.Parts.{Part, U32, U64, Ignored, Bytes, bytes_of}
use Rattle.fuse_wire.specs.Replies.{kind_number}
use Rattle.fuse_wire.specs.declared.directory.DirectoryEntry.{DirectoryEntry}

-- fuse_dirent: ino, off, namelen, type, name; FUSE_DIRENT_ALIGN: zeros up to a multiple of eight
abbrev pub dirent : DirectoryEntry → List Part
dirent entry =
    U64 entry.node ∷ U64 entry.offset ∷ U32 (length entry.name) ∷ U32 (kind_number entry.kind) ∷ Bytes entry.name ∷ Ignored (padding (length entry.name)) ∷ []

abbrev pub entry_bytes : DirectoryEntry → List ℕ
entry_bytes entry = bytes_of (dirent entry)
