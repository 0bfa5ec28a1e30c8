use Rattle.std.proofs.Common.{false, true, sym, ap, ◌∙◌}
use Rattle.fuse_wire.specs.declared.errno.Errno.TheVariants.{EACCES, EINVAL}
use Rattle.fuse_wire.specs.declared.reply.Reply.TheVariants as replies
use Rattle.file_list.specs.declared.file.File.TheVariants as files
use Rattle.file_list.specs.declared.file.FileKind.TheVariants as kinds
use Rattle.mount_replies.specs.contracts.mount.Mount.{the_view}
use Rattle.mount_replies.proofs.PageReads.{raw-file, raw-there}
use Rattle.mount_replies.proofs.ReadLemmas.{closed-told, kind-told, missing-told, plain-told, text-told}
use Rattle.mount_replies.proofs.mount.Mount.read.Goals as goal

pub returns-in_default-clause-told : goal.returns-in_default-clause-told
returns-in_default-clause-told c =
    rw (← c.self.view_is) (λ past mounted.
    closed-told past (the_view c.self.inside) c.args.read c.args.offset c.args.cached c.args.flags c.tell_error.new.out.items mounted
    c.in_default.ensures c.tell_error.ensures.bytes)

pub returns-then-not-exists-clause-told : goal.returns-then-not-exists-clause-told
returns-then-not-exists-clause-told c =
    let there = rw (c.owner-owner.ensures, c.file-file.ensures) at c.exists.ensures in
    rw (← c.self.view_is) (λ past mounted.
    missing-told past (the_view c.self.inside) c.args.read c.args.offset c.args.cached c.args.flags c.in-Some.open_file.now
    c.tell_error-then-not-exists.new.out.items mounted c.in-Some.ensures (sym there ∙ c.if-not-exists.true)
    c.tell_error-then-not-exists.ensures.bytes)

pub returns-in-Pipe-clause-told : goal.returns-in-Pipe-clause-told
returns-in-Pipe-clause-told c =
    let there = rw (c.owner-owner.ensures, c.file-file.ensures) at c.exists.ensures in
    let is = rw c.file-file.ensures at c.in-Pipe.ensures in
    rw (← c.self.view_is, c.if-cached.true) (λ past mounted.
    kind-told past (the_view c.self.inside) (the_view c.self.inside) c.args.read c.args.offset true c.args.flags c.in-Some.open_file.now
    kinds.Pipe c.tell_error-in-Pipe.new.out.items mounted c.in-Some.ensures (sym there ∙ c.if-not-exists.false) is
    (plain-told past (the_view c.self.inside) (replies.Error EINVAL) c.args.read.unique c.tell_error-in-Pipe.new.out.items mounted
    c.tell_error-in-Pipe.ensures.bytes))

pub read_raw-requires : goal.read_raw-requires
read_raw-requires c =
    let there = rw (c.owner-owner.ensures, c.file-file.ensures) at c.exists.ensures in
    let is = rw c.file-file.ensures at c.in-RawPipe.ensures in
    let index = rw c.file-file.ensures at c.index.ensures in
    record {
      there = rw (← c.self.view_is, c.owner-owner.ensures, index) (raw-there c.self.inside.scene c.in-Some.open_file.now is (sym there ∙ c.if-not-exists.false));
      room = c.requires.room;
      empty = c.requires.empty;
    }

pub returns-in-RawPipe-clause-told : goal.returns-in-RawPipe-clause-told
returns-in-RawPipe-clause-told c =
    let there = rw (c.owner-owner.ensures, c.file-file.ensures) at c.exists.ensures in
    let is = rw c.file-file.ensures at c.in-RawPipe.ensures in
    let index = rw c.file-file.ensures at c.index.ensures in
    let told = rw (← c.self.view_is) at c.read_raw.ensures.told in
    rw (← c.self.view_is) (λ past mounted.
    kind-told past (the_view c.self.inside) c.read_raw.new.self c.args.read c.args.offset c.args.cached c.args.flags c.in-Some.open_file.now
    kinds.RawPipe c.read_raw.new.out.items mounted c.in-Some.ensures (sym there ∙ c.if-not-exists.false) is
    (told past c.in-Some.open_file.now mounted (sym c.in-Some.ensures) (sym c.owner-owner.ensures)
    (raw-file c.in-Some.open_file.now.file is ∙ ap files.RawPipe (sym index))))

pub returns-in-Inject-clause-told : goal.returns-in-Inject-clause-told
returns-in-Inject-clause-told c =
    let there = rw (c.owner-owner.ensures, c.file-file.ensures) at c.exists.ensures in
    let is = rw c.file-file.ensures at c.in-Inject.ensures in
    rw (← c.self.view_is) (λ past mounted.
    kind-told past (the_view c.self.inside) (the_view c.self.inside) c.args.read c.args.offset c.args.cached c.args.flags c.in-Some.open_file.now
    kinds.Inject c.tell_error-in-Inject.new.out.items mounted c.in-Some.ensures (sym there ∙ c.if-not-exists.false) is
    (plain-told past (the_view c.self.inside) (replies.Error EACCES) c.args.read.unique c.tell_error-in-Inject.new.out.items mounted
    c.tell_error-in-Inject.ensures.bytes))

pub returns-in_default-kind-clause-told : goal.returns-in_default-kind-clause-told
returns-in_default-kind-clause-told c =
    let there = rw (c.owner-owner.ensures, c.file-file.ensures) at c.exists.ensures in
    let is = rw c.file-file.ensures at c.kind.ensures in
    let told = rw (← c.self.view_is) at c.read_cached.ensures.told in
    rw (← c.self.view_is, c.if-cached-2.true) (λ past mounted.
    text-told past (the_view c.self.inside) c.read_cached.new.self c.args.read c.args.offset true c.args.flags c.in-Some.open_file.now c.kind.result
    c.read_cached.new.out.items mounted c.in-Some.ensures (sym there ∙ c.if-not-exists.false) is c.in_default-kind.not-Pipe
    c.in_default-kind.not-RawPipe c.in_default-kind.not-Inject
    (told past c.in-Some.open_file.now mounted (sym c.in-Some.ensures) (sym c.owner-owner.ensures) (sym c.file-file.ensures)))

pub returns-in_default-2-clause-told : goal.returns-in_default-2-clause-told
returns-in_default-2-clause-told c =
    let there = rw (c.owner-owner.ensures, c.file-file.ensures) at c.exists.ensures in
    let is = rw c.file-file.ensures at c.kind.ensures in
    let told = rw (← c.self.view_is) at c.read_text.ensures.told in
    rw (← c.self.view_is, c.if-cached-2.false) (λ past mounted.
    text-told past (the_view c.self.inside) c.read_text.new.self c.args.read c.args.offset false c.args.flags c.in-Some.open_file.now c.kind.result
    c.read_text.new.out.items mounted c.in-Some.ensures (sym there ∙ c.if-not-exists.false) is c.in_default-2.not-Pipe c.in_default-2.not-RawPipe
    c.in_default-2.not-Inject
    (told past c.in-Some.open_file.now mounted (sym c.in-Some.ensures) (sym c.owner-owner.ensures) (sym c.file-file.ensures)))
