use Rattle.std.proofs.Common.{◌≡◌, Some, refl, sym, arith}
use Rattle.mount_replies.specs.Services.{with_reading}
use Rattle.mount_replies.specs.contracts.mount.Mount.{the_view}
use Rattle.mount_replies.proofs.ReadLemmas.{counted-is, counted-told, uncopied-told}
use Rattle.mount_replies.proofs.mount.Mount.read_cached.Goals as goal

pub returns-in-Ok-clause-told : goal.returns-in-Ok-clause-told
returns-in-Ok-clause-told c =
    let first : c.args.offset ≡ 0 = omega (arith, c.if-offset-ne0.false) in
    let kept = rw (← c.self.view_is) at c.give_text.ensures.kept in
    let same : c.in-Ok.text ≡ c.in-Some.text.now = c.in-Ok.ensures.cases in
    let text = rw (sym same) at c.in-Some.ensures in
    rw (← c.self.view_is, kept, first) (λ past own mounted found owner file.
    counted-told past (the_view c.self.inside) c.args.read own c.in-Ok.text
    (with_reading 0 c.args.read.size c.in-Ok.text c.args.read.handle c.self.inside.files) c.give_text.new.out.items mounted
    (counted-is own c.args.owner c.args.file c.number.result c.self.inside.counted (Some c.in-Ok.text) owner file c.number.ensures text) refl
    c.give_text.ensures.bytes)

pub returns-in-Err-clause-told : goal.returns-in-Err-clause-told
returns-in-Err-clause-told c =
    let first : c.args.offset ≡ 0 = omega (arith, c.if-offset-ne0.false) in
    rw (← c.self.view_is, first) (λ past own mounted found owner file.
    uncopied-told past (the_view c.self.inside) c.args.read own c.in-Some.text.now c.tell_error.new.out.items mounted
    (counted-is own c.args.owner c.args.file c.number.result c.self.inside.counted (Some c.in-Some.text.now) owner file c.number.ensures c.in-Some.ensures)
    c.tell_error.ensures.bytes)
