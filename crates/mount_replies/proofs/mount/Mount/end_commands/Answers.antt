use Rattle.std.proofs.Common.{◌≡◌, ◌==◌, true, false, arith}
use Rattle.std.proofs.lemmas.Bool.Decides.{nat_tests}
use Rattle.mount_replies.specs.contracts.mount.Mount.{the_view}
use Rattle.mount_replies.proofs.WriteLemmas.{commands-more, commands-refused}
use Rattle.mount_replies.proofs.mount.Mount.end_commands.Goals as goal

pub returns-then-done-gt0-2-clause-ends : goal.returns-then-done-gt0-2-clause-ends
returns-then-done-gt0-2-clause-ends c =
    let some : (c.args.progress.done == 0) ≡ false = grind (arith, nat_tests, c.if-done-gt0-2.true) in
    rw (← c.self.view_is) (commands-more (the_view c.self.inside) c.args.target c.args.time c.args.size c.args.progress c.in-Some.stop
    c.note_write-then-done-gt0-2.new.self c.in-Some.is some c.note_write-then-done-gt0-2.ensures)

pub returns-clause-ends : goal.returns-clause-ends
returns-clause-ends c =
    let none : (c.args.progress.done == 0) ≡ true = grind (arith, nat_tests, c.if-done-gt0-2.false) in
    commands-refused c.args.self.now c.note_line.new.self c.args.target c.args.time c.args.size c.args.progress c.in-Some.stop c.note_line.result
    c.errno.result c.in-Some.is none c.note_line.ensures c.errno.ensures
