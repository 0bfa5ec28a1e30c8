use Rattle.std.proofs.Common.{ℕ, [], take, sym, ap, ◌∙◌}
use Rattle.kernel_pages.specs.Pages.{page_of}
use Rattle.mount_replies.specs.contracts.mount.Mount.{the_view}
use Rattle.mount_replies.proofs.PageReads.{empty-page-told, empty-page-unmade, no-page-told}
use Rattle.mount_replies.proofs.mount.Mount.read_no_page.Goals as goal

pub returns-then-not-was_told_ready-clause-told : goal.returns-then-not-was_told_ready-clause-told
returns-then-not-was_told_ready-clause-told c =
    rw (← c.self.view_is) (λ past own mounted found.
    no-page-told past (the_view c.self.inside) c.args.read own c.note_dry_read.new.self c.tell_error.new.out.items mounted
    (sym (c.was_told_ready.ensures own found) ∙ c.if-not-was_told_ready.true) c.note_dry_read.ensures c.tell_error.ensures.bytes)

pub returns-in-Ok-clause-told : goal.returns-in-Ok-clause-told
returns-in-Ok-clause-told c =
    rw (← c.self.view_is) (λ past own mounted found.
    empty-page-told past (the_view c.self.inside) c.args.read own c.in-Ok.page.bytes c.note_dry_read-in-Ok.new.self c.tell_part.new.out.items mounted
    (sym (c.was_told_ready.ensures own found) ∙ c.if-not-was_told_ready.false)
    (c.in-Ok.ensures.bytes ∙ ap (λ (n : ℕ). page_of (take n [])) c.in-Ok.ensures.taken) c.note_dry_read-in-Ok.ensures
    (rw c.as_bytes.ensures at c.tell_part.ensures.bytes))

pub returns-in-Err-clause-told : goal.returns-in-Err-clause-told
returns-in-Err-clause-told c =
    rw (← c.self.view_is) (λ past own mounted found.
    empty-page-unmade past (the_view c.self.inside) c.args.read own c.tell_error-in-Err.new.out.items mounted
    (sym (c.was_told_ready.ensures own found) ∙ c.if-not-was_told_ready.false) c.tell_error-in-Err.ensures.bytes)
