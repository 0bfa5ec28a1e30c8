use Rattle.std.proofs.Common.{◌≡◌, List, Option, Some, sym, ap, ◌∙◌}
use Rattle.trace_format.specs.declared.pair.Pair.{Pair}
use Rattle.mount_replies.specs.Injections.{pairs_of_line}
use Rattle.mount_replies.specs.Lines.{asked_by_line, asked_by_pairs}
use Rattle.mount_replies.proofs.LineLemmas.{plain-asked}
use Rattle.mount_replies.proofs.StreamLemmas.{asks-same, blank-asks, blank-done, memory-line, other-asks}
use Rattle.mount_replies.proofs.mount.Mount.do_injection.Goals as goal

pub returns-then-is_blank : goal.returns-then-is_blank
returns-then-is_blank c = λ past own mounted is.
    blank-done past c.args.self.now (asked_by_line c.args.self.now.live.config.cpus c.args.pid own c.args.line.now) mounted
    (blank-asks c.args.self.now.live.config.cpus c.args.pid own c.args.line.now (sym c.is_blank.ensures ∙ c.if-is_blank.true))

pub returns-in-Ok-true : goal.returns-in-Ok-true
returns-in-Ok-true c =
    let cpus = c.args.self.now.live.config.cpus in
    let plain : pairs_of_line c.args.line.now ≡ Some c.as_slice.result.now =
    plain-asked c.args.line.now c.plain_pairs.new.pairs.items (c.in-Ok-true.ensures c.in-Ok-true.field-0-test)
    ∙ ap (λ (pairs : List Pair). Some pairs) (sym c.as_slice.ensures.value) in
    λ past own mounted is.
    asks-same past c.args.self.now c.do_pairs.new.self (asked_by_pairs cpus c.args.pid own (Some c.as_slice.result.now))
    (asked_by_line cpus c.args.pid own c.args.line.now) c.do_pairs.result
    (other-asks cpus c.args.pid own c.args.line.now (sym c.is_blank.ensures ∙ c.if-is_blank.false)
    ∙ ap (λ (pairs : Option (List Pair)). asked_by_pairs cpus c.args.pid own pairs) plain)
    (c.do_pairs.ensures past own mounted is)

pub returns : goal.returns
returns c = λ past own mounted is.
    memory-line past c.args.self.now c.args.self.now.live.config.cpus c.args.pid own (pairs_of_line c.args.line.now)
    (asked_by_line c.args.self.now.live.config.cpus c.args.pid own c.args.line.now) mounted
    (other-asks c.args.self.now.live.config.cpus c.args.pid own c.args.line.now (sym c.is_blank.ensures ∙ c.if-is_blank.false))
