-- Replies tell their length, and what they are.
use Rattle.std.proofs.Common.{◌≡◌, ℕ, ◌+◌, ◌<◌, ◌^◌, List, [], ◌∷◌, ◌++◌, length, take, drop, refl, sym, ap, subst, ◌∙◌, arith, append_assoc, length-append}
use Rattle.std.specs.Int.{w32, w64}
use Rattle.std.proofs.lemmas.List.{take_at, append-nil}
use Rattle.fuse_wire.specs.Parts.{U32, U64, Ignored, Bytes, Are, nothing, followed, number_bytes, bytes_of}
use Rattle.fuse_wire.specs.Replies.{errno_number, error_of, reply_body, out_header, message}
use Rattle.fuse_wire.specs.Laws.{RepliesTellTheirLength, RepliesDiffer}
use Rattle.fuse_wire.specs.declared.errno.Errno.{Errno}
use Rattle.fuse_wire.specs.declared.errno.Errno.TheVariants.{EPERM, ENOENT, EINTR, EIO, ENXIO, E2BIG, EBADF, EAGAIN, ENOMEM, EACCES, EBUSY, EEXIST, ENODEV, ENOTDIR, EISDIR, EINVAL, ENOSPC, ENOSYS, ENOTEMPTY, EPROTO}
use Rattle.fuse_wire.specs.declared.reply.Reply.{Reply}
use Rattle.fuse_wire.specs.declared.reply.Reply.TheVariants as replies
use Rattle.fuse_wire.proofs.NumberLemmas.{length-number_32}
use Rattle.fuse_wire.proofs.PartLemmas.{length-bytes_of, only_part}
use Rattle.fuse_wire.proofs.Opcodes.{number_at, long_at, after_ignored}

-- a message, its header's numbers one by one
split : (error unique : ℕ) (body : List ℕ) → message error unique body ≡ number_bytes w32 (16 + length body) ++ (number_bytes w32 error ++ (number_bytes w64 unique ++ body))
split error unique body = simp append_assoc

length-message : (error unique : ℕ) (body : List ℕ) → length (message error unique body) ≡ 16 + length body
length-message error unique body =
    omega (arith, length-append (bytes_of (out_header (16 + length body) error unique)) body, length-bytes_of (out_header (16 + length body) error unique))

tells_length : (error unique : ℕ) (body : List ℕ) → take 4 (message error unique body) ≡ number_bytes w32 (length (message error unique body))
tells_length error unique body =
    let len = 16 + length body in
    ap (take 4) (split error unique body) ∙ take_at (number_bytes w32 len) _ 4 (length-number_32 len) ∙ ap (number_bytes w32) (sym (length-message error unique body))

pub replies_tell_their_length : RepliesTellTheirLength
replies_tell_their_length unique reply = tells_length (error_of reply) unique (bytes_of (reply_body reply))

-- what lies in a message
message_parts : (error unique : ℕ) (body : List ℕ) → error < 2 ^ 32 → unique < 2 ^ 64 → Are (Ignored 4 ∷ U32 error ∷ U64 unique ∷ Bytes body ∷ []) (message error unique body)
message_parts error unique body e u =
    let last : Are (Bytes body ∷ []) body = subst (λ (x : List ℕ). Are (Bytes body ∷ []) x) (append-nil body) (followed body [] refl nothing) in
    subst (λ (x : List ℕ). Are (Ignored 4 ∷ U32 error ∷ U64 unique ∷ Bytes body ∷ []) x) (sym (split error unique body))
    (followed _ _ (length-number_32 (16 + length body)) (followed _ _ (e, refl) (followed _ _ (u, refl) last)))

errno_positive : (errno : Errno) → 0 < errno_number errno
errno_positive EPERM = omega arith
errno_positive ENOENT = omega arith
errno_positive EINTR = omega arith
errno_positive EIO = omega arith
errno_positive ENXIO = omega arith
errno_positive E2BIG = omega arith
errno_positive EBADF = omega arith
errno_positive EAGAIN = omega arith
errno_positive ENOMEM = omega arith
errno_positive EACCES = omega arith
errno_positive EBUSY = omega arith
errno_positive EEXIST = omega arith
errno_positive ENODEV = omega arith
errno_positive ENOTDIR = omega arith
errno_positive EISDIR = omega arith
errno_positive EINVAL = omega arith
errno_positive ENOSPC = omega arith
errno_positive ENOSYS = omega arith
errno_positive ENOTEMPTY = omega arith
errno_positive EPROTO = omega arith

error_fits : (reply : Reply) → error_of reply < 2 ^ 32
error_fits (replies.Error errno) = let p = errno_positive errno in omega arith
error_fits _ = omega arith

-- messages with the same bytes
record AreSame (e f u v : ℕ) (x y : List ℕ) : Type 0 where
  error : e ≡ f
  unique : u ≡ v
  body : x ≡ y

same_messages : (e f u v : ℕ) (x y : List ℕ) → e < 2 ^ 32 → f < 2 ^ 32 → u < 2 ^ 64 → v < 2 ^ 64 → message e u x ≡ message f v y → AreSame e f u v x y
same_messages e f u v x y le lf lu lv same =
    let bytes = message e u x in
    let a = after_ignored 4 _ bytes 0 4 refl (message_parts e u x le lu) in
    let b = after_ignored 4 _ bytes 0 4 refl (subst (λ (m : List ℕ). Are (Ignored 4 ∷ U32 f ∷ U64 v ∷ Bytes y ∷ []) m) (sym same) (message_parts f v y lf lv)) in
    let c = number_at e _ bytes 4 8 refl a in
    let d = number_at f _ bytes 4 8 refl b in
    let g = long_at u _ bytes 8 16 refl c.1 in
    let h = long_at v _ bytes 8 16 refl d.1 in
    record {
      error = sym c.0 ∙ d.0;
      unique = sym g.0 ∙ h.0;
      body = sym (only_part (Bytes x) (drop 16 bytes) g.1) ∙ only_part (Bytes y) (drop 16 bytes) h.1;
    }

pub replies_differ : RepliesDiffer
replies_differ u v a b lu lv same =
    let all = same_messages (error_of a) (error_of b) u v (bytes_of (reply_body a)) (bytes_of (reply_body b)) (error_fits a) (error_fits b) lu lv same in
    record { unique = all.unique; error = all.error; body = all.body }
