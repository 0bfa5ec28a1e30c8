-- What a reply is, found in its bytes.
use Rattle.std.proofs.Common.{◌≡◌, ℕ, ◌+◌, ◌-◌, ◌*◌, ◌/◌, ◌%◌, ◌<◌, ◌^◌, List, ◌∷◌, take, drop, refl, sym, ap, subst, ◌∙◌, arith}
use Rattle.std.specs.Prelude.{if◌then◌else◌, ◌==◌}
use Rattle.std.specs.Int.{w16}
use Rattle.std.proofs.lemmas.List.{append-nil, drop-drop}
use Rattle.fuse_wire.specs.Parts.{Part, U16, Are, bytes_of}
use Rattle.fuse_wire.specs.Replies.{errno_number, kind_number, attr, init_out, error_of, reply_body}
use Rattle.fuse_wire.specs.Laws.{kind_of, IsTold, RepliesOfAKindDiffer}
use Rattle.fuse_wire.specs.declared.attributes.Attributes.{Attributes}
use Rattle.fuse_wire.specs.declared.attributes.FileKind.{FileKind}
use Rattle.fuse_wire.specs.declared.attributes.FileKind.TheVariants.{Directory, Regular}
use Rattle.fuse_wire.specs.declared.errno.Errno.{Errno}
use Rattle.fuse_wire.specs.declared.errno.Errno.TheVariants.{EPERM, ENOENT, EINTR, EIO, ENXIO, E2BIG, EBADF, EAGAIN, ENOMEM, EACCES, EBUSY, EEXIST, ENODEV, ENOTDIR, EISDIR, EINVAL, ENOSPC, ENOSYS, ENOTEMPTY, EPROTO}
use Rattle.fuse_wire.specs.declared.reply.Agreement.{Agreement}
use Rattle.fuse_wire.specs.declared.reply.Reply.{Reply}
use Rattle.fuse_wire.specs.declared.reply.Reply.TheVariants as replies
use Rattle.fuse_wire.proofs.NumberLemmas.{value, value_16}
use Rattle.fuse_wire.proofs.Opcodes.{first_32, first_64, number_at, long_at}
use Rattle.fuse_wire.proofs.PartLemmas.{first_part}
use Rattle.fuse_wire.proofs.ReplyLaws.{replies_differ}
use Rattle.fuse_wire.proofs.RequestLaws.{written}

abbrev first_16 : List ℕ → ℕ
first_16 bytes = value w16 (take 2 bytes)

half_at : (number : ℕ) (parts : List Part) (bytes : List ℕ) (at after : ℕ) → after ≡ at + 2 → Are (U16 number ∷ parts) (drop at bytes) → (first_16 (drop at bytes) ≡ number) × Are parts (drop after bytes)
half_at number parts bytes at after e are =
    let p = first_part (U16 number) parts (drop at bytes) refl are in
    (value_16 number (take 2 (drop at bytes)) p.0, subst (λ (x : List ℕ). Are parts x) (drop-drop 2 at bytes ∙ ap (λ (k : ℕ). drop k bytes) (sym e)) p.1)

-- ---- errors

abbrev errno_of : ℕ → Errno
errno_of number =
    if number == 1 then EPERM
    else if number == 2 then ENOENT
    else if number == 4 then EINTR
    else if number == 5 then EIO
    else if number == 6 then ENXIO
    else if number == 7 then E2BIG
    else if number == 9 then EBADF
    else if number == 11 then EAGAIN
    else if number == 12 then ENOMEM
    else if number == 13 then EACCES
    else if number == 16 then EBUSY
    else if number == 17 then EEXIST
    else if number == 19 then ENODEV
    else if number == 20 then ENOTDIR
    else if number == 21 then EISDIR
    else if number == 22 then EINVAL
    else if number == 28 then ENOSPC
    else if number == 38 then ENOSYS
    else if number == 39 then ENOTEMPTY
    else EPROTO

errno_back : (errno : Errno) → errno_of (2 ^ 32 - (2 ^ 32 - errno_number errno)) ≡ errno
errno_back EPERM = refl
errno_back ENOENT = refl
errno_back EINTR = refl
errno_back EIO = refl
errno_back ENXIO = refl
errno_back E2BIG = refl
errno_back EBADF = refl
errno_back EAGAIN = refl
errno_back ENOMEM = refl
errno_back EACCES = refl
errno_back EBUSY = refl
errno_back EEXIST = refl
errno_back ENODEV = refl
errno_back ENOTDIR = refl
errno_back EISDIR = refl
errno_back EINVAL = refl
errno_back ENOSPC = refl
errno_back ENOSYS = refl
errno_back ENOTEMPTY = refl
errno_back EPROTO = refl

-- ---- attributes

abbrev kind_from : ℕ → FileKind
kind_from number = if number == 4 then Directory else Regular

kind_back : (kind : FileKind) (permissions : ℕ) → kind_from ((kind_number kind * 4096 + permissions % 4096) / 4096) ≡ kind
kind_back Directory permissions = let e : (4 * 4096 + permissions % 4096) / 4096 ≡ 4 = omega arith in ap kind_from e
kind_back Regular permissions = let e : (8 * 4096 + permissions % 4096) / 4096 ≡ 8 = omega arith in ap kind_from e

permissions_back : (kind : FileKind) (permissions : ℕ) → permissions < 4096 → (kind_number kind * 4096 + permissions % 4096) % 4096 ≡ permissions
permissions_back Directory permissions l = omega arith
permissions_back Regular permissions l = omega arith

abbrev attributes_in : List ℕ → Attributes
attributes_in bytes = record {
  node = first_64 bytes;
  size = first_64 (drop 8 bytes);
  kind = kind_from (first_32 (drop 60 bytes) / 4096);
  permissions = first_32 (drop 60 bytes) % 4096;
  links = first_32 (drop 64 bytes);
  uid = first_32 (drop 68 bytes);
  gid = first_32 (drop 72 bytes);
  block_size = first_32 (drop 80 bytes);
}

attributes_back : (a : Attributes) (bytes : List ℕ) → a.permissions < 4096 → Are (attr a) bytes → attributes_in bytes ≡ a
attributes_back a bytes l are =
    let node = long_at a.node _ bytes 0 8 refl are in
    let size = long_at a.size _ bytes 8 16 refl node.1 in
    let blocks = long_at 0 _ bytes 16 24 refl size.1 in
    let atime = long_at 0 _ bytes 24 32 refl blocks.1 in
    let mtime = long_at 0 _ bytes 32 40 refl atime.1 in
    let ctime = long_at 0 _ bytes 40 48 refl mtime.1 in
    let atimensec = number_at 0 _ bytes 48 52 refl ctime.1 in
    let mtimensec = number_at 0 _ bytes 52 56 refl atimensec.1 in
    let ctimensec = number_at 0 _ bytes 56 60 refl mtimensec.1 in
    let mode = number_at (kind_number a.kind * 4096 + a.permissions % 4096) _ bytes 60 64 refl ctimensec.1 in
    let links = number_at a.links _ bytes 64 68 refl mode.1 in
    let uid = number_at a.uid _ bytes 68 72 refl links.1 in
    let gid = number_at a.gid _ bytes 72 76 refl uid.1 in
    let rdev = number_at 0 _ bytes 76 80 refl gid.1 in
    let block_size = number_at a.block_size _ bytes 80 84 refl rdev.1 in
    let kind : kind_from (first_32 (drop 60 bytes) / 4096) ≡ a.kind = ap (λ (m : ℕ). kind_from (m / 4096)) mode.0 ∙ kind_back a.kind a.permissions in
    let permissions : first_32 (drop 60 bytes) % 4096 ≡ a.permissions = ap (λ (m : ℕ). m % 4096) mode.0 ∙ permissions_back a.kind a.permissions l in
    rw (node.0, size.0, kind, permissions, links.0, uid.0, gid.0, block_size.0) refl

-- ---- what a server agrees to

abbrev agreement_in : List ℕ → Agreement
agreement_in bytes = record {
  major = first_32 bytes;
  minor = first_32 (drop 4 bytes);
  max_readahead = first_32 (drop 8 bytes);
  flags = first_32 (drop 12 bytes);
  max_background = first_16 (drop 16 bytes);
  congestion_threshold = first_16 (drop 18 bytes);
  max_write = first_32 (drop 20 bytes);
}

agreement_back : (a : Agreement) (bytes : List ℕ) → Are (init_out a) bytes → agreement_in bytes ≡ a
agreement_back a bytes are =
    let major = number_at a.major _ bytes 0 4 refl are in
    let minor = number_at a.minor _ bytes 4 8 refl major.1 in
    let max_readahead = number_at a.max_readahead _ bytes 8 12 refl minor.1 in
    let flags = number_at a.flags _ bytes 12 16 refl max_readahead.1 in
    let max_background = half_at a.max_background _ bytes 16 18 refl flags.1 in
    let congestion_threshold = half_at a.congestion_threshold _ bytes 18 20 refl max_background.1 in
    let max_write = number_at a.max_write _ bytes 20 24 refl congestion_threshold.1 in
    rw (major.0, minor.0, max_readahead.0, flags.0, max_background.0, congestion_threshold.0, max_write.0) refl

-- ---- replies

abbrev reply_in : ℕ → ℕ → List ℕ → Reply
reply_in kind error body =
    if kind == 0 then replies.Error (errno_of (2 ^ 32 - error))
    else if kind == 1 then replies.Done
    else if kind == 2 then replies.Init (agreement_in body)
    else if kind == 3 then replies.Entry (first_64 body) (attributes_in (drop 40 body))
    else if kind == 4 then replies.Attributes (attributes_in (drop 16 body))
    else if kind == 5 then replies.Opened (first_64 body) (first_32 (drop 8 body))
    else if kind == 6 then replies.Data body
    else if kind == 7 then replies.Written (first_32 body)
    else if kind == 8 then replies.StatFs (first_32 (drop 40 body)) (first_32 (drop 44 body))
    else replies.Poll (first_32 body)

reply_back : (reply : Reply) → IsTold reply → reply_in (kind_of reply) (error_of reply) (bytes_of (reply_body reply)) ≡ reply
reply_back (replies.Error errno) told = ap replies.Error (errno_back errno)
reply_back replies.Done told = refl
reply_back (replies.Init agreement) told =
    let are = written (init_out agreement) told.numbers in
    ap replies.Init (agreement_back agreement (bytes_of (init_out agreement)) are)
reply_back (replies.Entry node attributes) told =
    let body = bytes_of (reply_body (replies.Entry node attributes)) in
    let named = long_at node _ body 0 8 refl (written (reply_body (replies.Entry node attributes)) told.numbers) in
    let generation = long_at 0 _ body 8 16 refl named.1 in
    let entry_valid = long_at 0 _ body 16 24 refl generation.1 in
    let attr_valid = long_at 0 _ body 24 32 refl entry_valid.1 in
    let entry_nsec = number_at 0 _ body 32 36 refl attr_valid.1 in
    let attr_nsec = number_at 0 (attr attributes) body 36 40 refl entry_nsec.1 in
    rw (named.0, attributes_back attributes (drop 40 body) told.permissions attr_nsec.1) refl
reply_back (replies.Attributes attributes) told =
    let body = bytes_of (reply_body (replies.Attributes attributes)) in
    let attr_valid = long_at 0 _ body 0 8 refl (written (reply_body (replies.Attributes attributes)) told.numbers) in
    let nsec = number_at 0 _ body 8 12 refl attr_valid.1 in
    let dummy = number_at 0 (attr attributes) body 12 16 refl nsec.1 in
    ap replies.Attributes (attributes_back attributes (drop 16 body) told.permissions dummy.1)
reply_back (replies.Opened handle flags) told =
    let body = bytes_of (reply_body (replies.Opened handle flags)) in
    let a = long_at handle _ body 0 8 refl (written (reply_body (replies.Opened handle flags)) told.numbers) in
    let b = number_at flags _ body 8 12 refl a.1 in
    rw (a.0, b.0) refl
reply_back (replies.Data bytes) told = ap replies.Data (append-nil bytes)
reply_back (replies.Written size) told =
    let body = bytes_of (reply_body (replies.Written size)) in
    ap replies.Written (number_at size _ body 0 4 refl (written (reply_body (replies.Written size)) told.numbers)).0
reply_back (replies.StatFs block_size name_length) told =
    let body = bytes_of (reply_body (replies.StatFs block_size name_length)) in
    let a = long_at 0 _ body 0 8 refl (written (reply_body (replies.StatFs block_size name_length)) told.numbers) in
    let b = long_at 0 _ body 8 16 refl a.1 in
    let c = long_at 0 _ body 16 24 refl b.1 in
    let d = long_at 0 _ body 24 32 refl c.1 in
    let e = long_at 0 _ body 32 40 refl d.1 in
    let f = number_at block_size _ body 40 44 refl e.1 in
    let g = number_at name_length _ body 44 48 refl f.1 in
    rw (f.0, g.0) refl
reply_back (replies.Poll events) told =
    let body = bytes_of (reply_body (replies.Poll events)) in
    ap replies.Poll (number_at events _ body 0 4 refl (written (reply_body (replies.Poll events)) told.numbers)).0

pub replies_of_a_kind_differ : RepliesOfAKindDiffer
replies_of_a_kind_differ u v a b lu lv kinds told_a told_b same =
    let alike = replies_differ u v a b lu lv same in
    let moved : reply_in (kind_of a) (error_of a) (bytes_of (reply_body a)) ≡ reply_in (kind_of b) (error_of b) (bytes_of (reply_body b)) = rw (kinds, alike.error, alike.body) refl in
    sym (reply_back a told_a) ∙ moved ∙ reply_back b told_b
