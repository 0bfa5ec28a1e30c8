-- An entry of a folder that is appended to its list.
use Rattle.std.specs.Prelude.{◌≡◌, ℕ, ◌+◌, ◌<◌, ◌≤◌, List, ◌++◌, length}
use Rattle.mount_tree.specs.Children.{Child}
use Rattle.mount_replies.specs.Told.{listed_from}

-- some bytes were appended, so many are room for, and with what is listed after them they are what is listed in the room before
pub record HasPushed (old now : List ℕ) (size index : ℕ) (entries : List Child) : Type 0 where
  pub bytes : List ℕ
  pub some : 0 < length bytes
  pub appended : now ≡ old ++ bytes
  pub fits : length now ≤ size
  pub rest : (room : ℕ) → length now + room ≡ size
      → bytes ++ listed_from room (index + 1) entries ≡ listed_from (length bytes + room) index entries
