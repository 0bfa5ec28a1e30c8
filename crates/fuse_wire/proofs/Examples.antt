-- The worked examples, computed.
use Rattle.std.proofs.Common.{◌≡◌, ℕ, ◌^◌, nat_lt, eqb, Bool, true, false, not, List, [], ◌∷◌, ◌++◌, length, take, drop, refl, subst}
use Rattle.std.specs.Prelude.{◌&&◌}
use Rattle.std.specs.Int.{w16, w32, w64}
use Rattle.std.specs.List.{list_any}
use Rattle.std.specs.Str.{bytes_eq}
use Rattle.std.proofs.lemmas.Bool.{and_parts, eqb-true, ltb-true, not-true}
use Rattle.std.proofs.lemmas.List.{take-append-drop}
use Rattle.std.proofs.lemmas.Slice.Eq.{bytes_eq-Decides}
use Rattle.fuse_wire.specs.Parts.{Part, U16, U32, U64, Ignored, Name, Bytes, Anything, IsPart, Are, nothing, followed, number_bytes}
use Rattle.fuse_wire.specs.ReplyExamples.{AreReplies}
use Rattle.fuse_wire.specs.RequestExamples.{AreRequests, init_bytes, lookup_bytes, get_attr_bytes, open_file_bytes, read_bytes, flush_bytes, release_bytes, write_bytes, truncate_bytes, fsync_bytes, poll_bytes, interrupt_bytes, access_bytes, mk_dir_bytes, rm_dir_bytes, open_dir_bytes, read_dir_bytes, release_dir_bytes, stat_fs_bytes, get_xattr_bytes, list_xattr_bytes, forget_bytes, batch_forget_bytes, other_bytes, destroy_bytes}
use Rattle.fuse_wire.proofs.PartLemmas.{alone, size_of}

-- ---- whether bytes are parts, as a computation

abbrev pub is_part : Part → List ℕ → Bool
is_part (U16 number) bytes = nat_lt number (2 ^ 16) && bytes_eq bytes (number_bytes w16 number)
is_part (U32 number) bytes = nat_lt number (2 ^ 32) && bytes_eq bytes (number_bytes w32 number)
is_part (U64 number) bytes = nat_lt number (2 ^ 64) && bytes_eq bytes (number_bytes w64 number)
is_part (Ignored count) bytes = eqb (length bytes) count
is_part (Name name) bytes = nat_lt 0 (length name) && (not (list_any (λ (byte : ℕ). eqb byte 0) name) && bytes_eq bytes (name ++ 0 ∷ []))
is_part (Bytes own) bytes = bytes_eq bytes own
is_part Anything bytes = true

-- the last part has what is left
abbrev pub are : List Part → List ℕ → Bool
are [] [] = true
are [] (byte ∷ bytes) = false
are (part ∷ []) bytes = is_part part bytes
are (part ∷ next ∷ parts) bytes = is_part part (take (size_of part) bytes) && are (next ∷ parts) (drop (size_of part) bytes)

-- ---- where it says so, they are

part : (p : Part) (bytes : List ℕ) → is_part p bytes ≡ true → IsPart p bytes
part (U16 number) bytes is =
    let both = and_parts (nat_lt number (2 ^ 16)) (bytes_eq bytes (number_bytes w16 number)) is in
    (ltb-true number (2 ^ 16) both.0, (bytes_eq-Decides bytes (number_bytes w16 number)).0 both.1)
part (U32 number) bytes is =
    let both = and_parts (nat_lt number (2 ^ 32)) (bytes_eq bytes (number_bytes w32 number)) is in
    (ltb-true number (2 ^ 32) both.0, (bytes_eq-Decides bytes (number_bytes w32 number)).0 both.1)
part (U64 number) bytes is =
    let both = and_parts (nat_lt number (2 ^ 64)) (bytes_eq bytes (number_bytes w64 number)) is in
    (ltb-true number (2 ^ 64) both.0, (bytes_eq-Decides bytes (number_bytes w64 number)).0 both.1)
part (Ignored count) bytes is = eqb-true (length bytes) count is
part (Name name) bytes is =
    let has_zero = list_any (λ (byte : ℕ). eqb byte 0) name in
    let all = and_parts (nat_lt 0 (length name)) (not has_zero && bytes_eq bytes (name ++ 0 ∷ [])) is in
    let rest = and_parts (not has_zero) (bytes_eq bytes (name ++ 0 ∷ [])) all.1 in
    (record { some = ltb-true 0 (length name) all.0; no_zero = not-true has_zero rest.0 }, (bytes_eq-Decides bytes (name ++ 0 ∷ [])).0 rest.1)
part (Bytes own) bytes is = (bytes_eq-Decides bytes own).0 is
part Anything bytes is = tt

pub parts : (all : List Part) (bytes : List ℕ) → are all bytes ≡ true → Are all bytes
parts [] [] is = nothing
parts [] (byte ∷ bytes) is = absurd cc
parts (p ∷ []) bytes is = alone p bytes (part p bytes is)
parts (p ∷ next ∷ more) bytes is =
    let both = and_parts (is_part p (take (size_of p) bytes)) (are (next ∷ more) (drop (size_of p) bytes)) is in
    subst (λ (x : List ℕ). Are (p ∷ next ∷ more) x) (take-append-drop (size_of p) bytes)
    (followed (take (size_of p) bytes) (drop (size_of p) bytes) (part p (take (size_of p) bytes) both.0) (parts (next ∷ more) (drop (size_of p) bytes) both.1))

-- ---- the examples

pub are_requests : AreRequests
unfolding number_bytes
are_requests = record {
  init = record { parts = parts _ init_bytes refl; own_opcode = tt };
  lookup = record { parts = parts _ lookup_bytes refl; own_opcode = tt };
  get_attr = record { parts = parts _ get_attr_bytes refl; own_opcode = tt };
  open_file = record { parts = parts _ open_file_bytes refl; own_opcode = tt };
  read = record { parts = parts _ read_bytes refl; own_opcode = tt };
  flush = record { parts = parts _ flush_bytes refl; own_opcode = tt };
  release = record { parts = parts _ release_bytes refl; own_opcode = tt };
  write = record { parts = parts _ write_bytes refl; own_opcode = tt };
  truncate = record { parts = parts _ truncate_bytes refl; own_opcode = tt };
  fsync = record { parts = parts _ fsync_bytes refl; own_opcode = tt };
  poll = record { parts = parts _ poll_bytes refl; own_opcode = tt };
  interrupt = record { parts = parts _ interrupt_bytes refl; own_opcode = tt };
  access = record { parts = parts _ access_bytes refl; own_opcode = tt };
  mk_dir = record { parts = parts _ mk_dir_bytes refl; own_opcode = tt };
  rm_dir = record { parts = parts _ rm_dir_bytes refl; own_opcode = tt };
  open_dir = record { parts = parts _ open_dir_bytes refl; own_opcode = tt };
  read_dir = record { parts = parts _ read_dir_bytes refl; own_opcode = tt };
  release_dir = record { parts = parts _ release_dir_bytes refl; own_opcode = tt };
  stat_fs = record { parts = parts _ stat_fs_bytes refl; own_opcode = tt };
  get_xattr = record { parts = parts _ get_xattr_bytes refl; own_opcode = tt };
  list_xattr = record { parts = parts _ list_xattr_bytes refl; own_opcode = tt };
  forget = record { parts = parts _ forget_bytes refl; own_opcode = tt };
  batch_forget = record { parts = parts _ batch_forget_bytes refl; own_opcode = tt };
  other = record { parts = parts _ other_bytes refl; own_opcode = refl };
  destroy = record { parts = parts _ destroy_bytes refl; own_opcode = tt };
}

pub are_replies : AreReplies
unfolding number_bytes
are_replies = record {
  not_found = refl;
  not_supported = refl;
  twelve_written = refl;
  opened_directly = refl;
  found_trace = refl;
  listed_trace = refl;
  agreed = refl;
  root_shown = refl;
  stat_fs_shown = refl;
  readable = refl;
  released = refl;
  woken_up = refl;
}
