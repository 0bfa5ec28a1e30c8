use Rattle.std.proofs.Common.{◌≡◌, ◌≤◌, ◌+◌, ◌++◌, ℕ, length}
use Rattle.mount_tree.specs.FolderLists.{folder_list}
use Rattle.mount_replies.specs.Told.{listed_from}
use Rattle.mount_replies.proofs.mount.Mount.push_entries.Given as goal

-- each entry has a byte or more, and with what is listed after them all are listed
abbrev pub invariant-loop-count : goal.invariant-loop-count
invariant-loop-count l = record {
  fits : length l.data.items ≤ l.size;
  long : l.count ≤ length l.data.items;
  so_far : (room : ℕ) → length l.data.items + room ≡ l.size
      → l.data.items ++ listed_from room (l.first + l.count) (folder_list l.self.scene l.folder)
      ≡ listed_from l.size l.first (folder_list l.self.scene l.folder);
}
