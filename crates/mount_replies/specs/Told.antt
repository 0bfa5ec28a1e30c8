-- What is told of folders and files: attributes, lists, and what may be done with them (linux/fuse.h; inode(7), open(2), access(2)).
use Rattle.std.specs.Prelude.{bit_and, ℕ, ◌+◌, ◌-◌, ◌*◌, ◌/◌, ◌%◌, ◌^◌, ◌==◌, Bool, true, false, not, ◌&&◌, ◌||◌, nat_le, List, [], ◌∷◌, ◌++◌, length, drop, min, Option, Some, None, if◌then◌else◌}
use Rattle.fuse_wire.specs.Directories.{entry_bytes}
use Rattle.fuse_wire.specs.declared.attributes.Attributes.{Attributes}
use Rattle.fuse_wire.specs.declared.attributes.FileKind.{FileKind as Kind}
use Rattle.fuse_wire.specs.declared.attributes.FileKind.TheVariants as kinds
use Rattle.fuse_wire.specs.declared.directory.DirectoryEntry.{DirectoryEntry}
use Rattle.fuse_wire.specs.declared.errno.Errno.TheVariants.{ENOENT, EACCES, ENOTDIR, EPROTO}
use Rattle.fuse_wire.specs.declared.reply.Reply.{Reply}
use Rattle.fuse_wire.specs.declared.reply.Reply.TheVariants as replies
use Rattle.file_list.specs.declared.access.Access.{Access}
use Rattle.file_list.specs.declared.access.Access.TheVariants as access
use Rattle.mount_tree.specs.Children.{Child, children, is_there, node_named}
use Rattle.file_list.specs.FileKinds.{access_of_file}
use Rattle.mount_tree.specs.FolderLists.{folder_list}
use Rattle.mount_tree.specs.Nodes.{number_of}
use Rattle.mount_tree.specs.Scenes.{SceneSeen}
use Rattle.mount_tree.specs.declared.node.Node.{Node}
use Rattle.mount_tree.specs.declared.node.Node.TheVariants as nodes
use Rattle.mount_replies.specs.Services.{Terms, most_data}

-- ---- attributes

abbrev pub kind_of_node : Node → Kind
kind_of_node (nodes.Folder owner folder) = kinds.Directory
kind_of_node (nodes.File owner file) = kinds.Regular

-- r--r--r--, -w--w--w-, rw-rw-rw-
abbrev pub file_permissions : Access → ℕ
file_permissions access.Read = 292
file_permissions access.Write = 146
file_permissions access.Both = 438

-- of a folder rwxrwxrwx
abbrev pub permissions_of : Node → ℕ
permissions_of (nodes.Folder owner folder) = 511
permissions_of (nodes.File owner file) = file_permissions (access_of_file file)

-- what the permissions of a mount leave of those that a node can have
abbrev pub permissions_under : ℕ → Node → ℕ
permissions_under mode node = bit_and mode (permissions_of node)

-- a file's size is the length of what it shows
abbrev pub attributes_of : Terms → Node → ℕ → Attributes
attributes_of g node size = record {
  node = number_of node;
  size = size;
  kind = kind_of_node node;
  permissions = permissions_under g.mode node;
  links = 1;
  uid = g.uid;
  gid = g.gid;
  block_size = 4096;
}

-- ---- look-ups

-- the node that a request is about, if it is there; a number may be that of none
abbrev pub known : SceneSeen → Option Node → Option Node
known scene None = None
known scene (Some node) = if is_there scene node then Some node else None

abbrev pub found_in : SceneSeen → List ℕ → Option Node → Option Node
found_in scene name None = None
found_in scene name (Some folder) = node_named name (children scene folder)

-- SETATTR: FATTR_SIZE is 8. No size but 0 is accepted; a file that shows something is opened to be emptied, not cut.
abbrev pub sets_size : ℕ → ℕ → Bool
sets_size valid size = valid / 8 % 2 == 1 && not (size == 0)

-- ---- what may be done

abbrev pub can_read : Access → Bool
can_read access.Write = false
can_read _ = true

abbrev pub can_write : Access → Bool
can_write access.Read = false
can_write _ = true

-- open(2): of the lowest two bits of the flags 0 is O_RDONLY, 1 O_WRONLY, 2 O_RDWR; O_TRUNC is 512
abbrev pub wants_read : ℕ → Bool
wants_read flags = not (flags % 4 == 1)

abbrev pub empties : ℕ → Bool
empties flags = flags / 512 % 2 == 1

abbrev pub wants_write : ℕ → Bool
wants_write flags = not (flags % 4 == 0) || empties flags

abbrev pub may : Access → Bool → Bool → Bool
may access reads writes = (can_read access || not reads) && (can_write access || not writes)

-- access(2): R_OK is 4, W_OK 2, X_OK 1. A file is no program; a folder may be used in every way.
abbrev pub may_use : Node → ℕ → Bool
may_use (nodes.Folder owner folder) mask = true
may_use (nodes.File owner file) mask = may (access_of_file file) (mask / 4 % 2 == 1) (mask / 2 % 2 == 1) && not (mask % 2 == 1)

abbrev pub access_reply : ℕ → Option Node → Reply
access_reply mask None = replies.Error ENOENT
access_reply mask (Some node) = if may_use node mask then replies.Done else replies.Error EACCES

-- ACCESS
abbrev pub check_access : SceneSeen → Option Node → ℕ → Reply
check_access scene node mask = access_reply mask (known scene node)

-- ---- lists

abbrev pub opened_folder : Option Node → Reply
opened_folder None = replies.Error ENOENT
opened_folder (Some (nodes.Folder owner folder)) = replies.Opened 0 0
opened_folder (Some (nodes.File owner file)) = replies.Error ENOTDIR

-- OPENDIR: a folder has no handle, since its list goes on at an offset
abbrev pub open_folder : SceneSeen → Option Node → Reply
open_folder scene node = opened_folder (known scene node)

-- an entry of a list, and the offset at which the list goes on after it
abbrev pub dirent_of : Child → ℕ → DirectoryEntry
dirent_of child next = record { node = number_of child.node; offset = next; kind = kind_of_node child.node; name = child.name }

-- the entries, of which so many come before, as far as there is room for whole ones
abbrev pub listed : ℕ → ℕ → List Child → List ℕ
listed room before [] = []
listed room before (child ∷ rest) =
    if nat_le (length (entry_bytes (dirent_of child (before + 1)))) room
    then entry_bytes (dirent_of child (before + 1))
    ++ listed (room - length (entry_bytes (dirent_of child (before + 1)))) (before + 1) rest
    else []

-- from the entry on of which so many come before; no folder has 2^32 entries
abbrev pub listed_from : ℕ → ℕ → List Child → List ℕ
listed_from room before entries = listed room before (drop before entries)

abbrev pub listed_folder : SceneSeen → ℕ → ℕ → Option Node → Reply
listed_folder scene offset size None = replies.Error ENOENT
listed_folder scene offset size (Some folder) = replies.Data (listed_from (min size most_data) (min offset (2 ^ 32)) (folder_list scene folder))

-- READDIR
abbrev pub read_folder : SceneSeen → Option Node → ℕ → ℕ → Reply
read_folder scene folder offset size = listed_folder scene offset size (known scene folder)

-- ---- what is agreed

-- of the flags that are offered FUSE_ATOMIC_O_TRUNC (8) and FUSE_BIG_WRITES (32): O_TRUNC comes with OPEN, and a write has more than a page
abbrev pub taken_flags : ℕ → ℕ
taken_flags flags = flags / 8 % 2 * 8 + flags / 32 % 2 * 32

-- INIT, by version 7, minor 31: a newer major is answered so, too, and then comes again as 7. Nothing is read ahead, so that the page cache asks for one
-- page a READ, and a READ of binary pages gives one.
abbrev pub agree : ℕ → ℕ → Reply
agree major flags =
    if nat_le 7 major then replies.Init (record {
      major = 7;
      minor = 31;
      max_readahead = 0;
      flags = taken_flags flags;
      max_background = 65535;
      congestion_threshold = 65535;
      max_write = most_data;
    })
    else replies.Error EPROTO
