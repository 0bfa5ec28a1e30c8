use Rattle.std.proofs.Common.{◌≡◌, ◌==◌, true, false, arith, sym, ◌∙◌}
use Rattle.std.proofs.lemmas.Bool.Decides.{nat_tests}
use Rattle.mount_replies.specs.Served.{makes_text}
use Rattle.mount_replies.specs.contracts.mount.Mount.{the_view}
use Rattle.mount_replies.proofs.ReadLemmas.{anew-told, ended-told, given-back, kept-on, makes-anew, makes-first, on-told}
use Rattle.mount_replies.proofs.mount.Mount.read_text.Goals as goal
use Rattle.mount_replies.proofs.mount.Mount.read_text.Goals.{then-offset-ne0+in_default+else-not-is_before_end, else-offset-ne0}

pub returns-then-is_read_out-clause-told : goal.returns-then-is_read_out-clause-told
returns-then-is_read_out-clause-told c =
    let later : (c.args.offset == 0) ≡ false = grind (arith, nat_tests, c.if-offset-ne0.true) in
    let out = sym c.is_read_out-is_read_out.ensures ∙ c.if-is_read_out.true in
    rw (← c.self.view_is) (λ past own mounted found owner file.
    on-told past (the_view c.self.inside) c.args.read c.args.offset own c.in-Some.text.now c.give_back.new.self c.tell_part.new.out.items mounted found
    c.in-Some.ensures later
    (given-back c.args.offset c.args.read.size c.args.read.handle c.in-Some.text.now c.self.inside.files c.give_back.new.self out
    (c.give_back.ensures c.args.offset c.args.read.size c.in-Some.text.now (sym c.in-Some.ensures) out))
    c.tell_part.ensures.bytes)

pub returns-else-is_read_out-clause-told : goal.returns-else-is_read_out-clause-told
returns-else-is_read_out-clause-told c =
    let later : (c.args.offset == 0) ≡ false = grind (arith, nat_tests, c.if-offset-ne0.true) in
    let out = sym c.is_read_out-is_read_out.ensures ∙ c.if-is_read_out.false in
    rw (← c.self.view_is) (λ past own mounted found owner file.
    on-told past (the_view c.self.inside) c.args.read c.args.offset own c.in-Some.text.now c.self.inside.files c.tell_part.new.out.items mounted found
    c.in-Some.ensures later (kept-on c.args.offset c.args.read.size c.args.read.handle c.in-Some.text.now c.self.inside.files out)
    c.tell_part.ensures.bytes)

pub returns-then-not-is_before_end-clause-told : goal.returns-then-not-is_before_end-clause-told
returns-then-not-is_before_end-clause-told c =
    let later : (c.args.offset == 0) ≡ false = grind (arith, nat_tests, c.if-offset-ne0.true) in
    rw (← c.self.view_is) (λ past own mounted found owner file.
    ended-told past (the_view c.self.inside) c.args.read c.args.offset own c.tell_part-then-not-is_before_end.new.out.items mounted found
    c.in_default.ensures later (sym (c.is_before_end.ensures own found) ∙ c.if-not-is_before_end.true)
    c.tell_part-then-not-is_before_end.ensures.bytes)

pub returns-clause-told : goal.returns-clause-told
returns-clause-told c =
    let told = rw (← c.self.view_is) at c.make_text.ensures.told in
    rw (← c.self.view_is) (λ past own mounted found owner file.
    let makes : makes_text c.args.offset own ≡ true = elim c.if-offset-ne0.branch [
      | then-offset-ne0+in_default+else-not-is_before_end w ↦
          makes-anew c.args.offset c.args.read.handle own c.self.inside.files found w.in_default.ensures
          (sym (w.is_before_end.ensures own found) ∙ w.if-not-is_before_end.false)
      | else-offset-ne0 w ↦ makes-first c.args.offset own (omega (arith, w.if-offset-ne0.false))
    ] in
    anew-told past (the_view c.self.inside) c.make_text.new.self c.args.read c.args.offset own c.args.owner c.args.file c.make_text.new.out.items makes
    owner file (told past mounted))
