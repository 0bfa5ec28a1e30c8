use Rattle.std.proofs.Common.{◌≡◌, false, not, ◌&&◌, nat_lt, length, sym, rules}
use Rattle.tracer_state.proofs.Dispatch.{added, free-appended, free-empty}
use Rattle.tracer_state.proofs.state.State.prepare_declaration.Goals as goal
use Rattle.tracer_state.proofs.state.State.prepare_declaration.Goals.{else-not-append-via-then-not-append+else-not-is_empty, else-not-append-via-else-not-append}

pub returns : goal.returns
returns c = λ past name stands is.
    let events = c.args.self.now.catalog in
    let free : (not c.args.append && nat_lt 0 (length events)) ≡ false =
    elim c.else-not-append.branch [
      | else-not-append-via-then-not-append+else-not-is_empty w ↦ free-empty c.args.append (length events) (search rules)
      | else-not-append-via-else-not-append w ↦ free-appended c.args.append (length events) (search rules)
    ] in
    added c.args.config.now c.args.self.now past name c.args.append c.args.text.now c.in_ok-event.event _ stands is
    c.in_ok-event.ensures.exact c.in_ok-event.ensures.declared.defined free (sym c.in_ok-_id.ensures)
