-- How bytes are cut into requests: linux/fuse.h, struct fuse_in_header, whose first field is the request's length, header included.
use Rattle.std.specs.Prelude.{◌≡◌, ◌<◌, ◌≤◌, ◌⊎◌, ℕ, List, length, take}
use Rattle.std.specs.Int.{w32, from_le_bytes}
use Rattle.fuse_serve.specs.declared.framing.TheConstants.{MOST_BYTES}

-- the number of the first four bytes, the low one first
abbrev pub told_length : List ℕ → ℕ
told_length bytes = from_le_bytes w32 bytes

-- a whole request: its first four bytes tell its length, and it has a header, which is 40 bytes
pub record IsRequest (bytes : List ℕ) : Type 0 where
  pub told : told_length bytes ≡ length bytes
  pub header : 40 ≤ length bytes
  pub most : length bytes ≤ MOST_BYTES

-- the bytes don't begin with a whole request
abbrev pub BeginsNoRequest : List ℕ → Type 0
BeginsNoRequest bytes = (size : ℕ) → IsRequest (take size bytes) → ⊥

-- the bytes can't be the beginning of a request: they tell a length that none has
pub record IsUnframed (bytes : List ℕ) : Type 0 where
  pub told : 4 ≤ length bytes
  pub wrong : (told_length bytes < 40) ⊎ (MOST_BYTES < told_length bytes)
