use Rattle.std.proofs.Common.{arith}
use Rattle.trace_command.specs.Requests.{request_of}
use Rattle.mount_replies.specs.contracts.mount.Mount.{the_view}
use Rattle.mount_replies.proofs.CallLemmas.{full-commanded, run-within}
use Rattle.mount_replies.proofs.mount.Mount.run_within.Goals as goal

pub returns-then-done-limit : goal.returns-then-done-limit
returns-then-done-limit c =
    let runs = rw (← c.self.view_is) at c.run.ensures in
    rw (← c.self.view_is) (λ past mounted.
    let count = c.done.ensures past mounted.lives in
    run-within c.args.limit past (the_view c.self.inside) c.run.new.self (request_of c.args.command.now) c.run.result (omega (arith, count, c.if-done-limit.true))
    c.requires (runs past mounted))

pub returns : goal.returns
returns c = rw (← c.self.view_is) (λ past mounted.
    let count = c.done.ensures past mounted.lives in
    full-commanded c.args.limit past (the_view c.self.inside) c.ask_within.new.self (request_of c.args.command.now) c.ask_within.result mounted
    c.ask_within.ensures.config (omega (arith, count, c.if-done-limit.false)) (c.ask_within.ensures.call past mounted.lives))
