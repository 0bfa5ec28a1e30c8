use Rattle.std.proofs.Common.{◌≡◌, ◌∙◌, Ok, Err, arith, rules, refl, ap}
use Rattle.trace_command.specs.declared.refusal.Refusal.TheVariants.{Memory}
use Rattle.trace_command.specs.Requests.{request_of}
use Rattle.trace_command.specs.declared.command.Config.{Config}
use Rattle.trace_command.specs.declared.command.Reply.TheVariants.{Done}
use Rattle.tracer_specification.specs.History.{past_of}
use Rattle.tracer_state.specs.States.{IsPreparedEmission}
use Rattle.tracer_state.proofs.Histories.{past_of-push}
use Rattle.trace_book.specs.Books.{seen}
use Rattle.trace_book.specs.private.BookCalls.{IsBookCall}
use Rattle.trace_book.proofs.BookCalls.{IsGiven, can-append, done-call, is-given, memory-call, refused-call}
use Rattle.trace_book.proofs.book.Book.run_emission.Goals as goal
use Rattle.trace_book.proofs.book.Book.run_emission.Goals.{After-deliver, In_ok-prepare_emission}

-- what was prepared is the emission
prepared : (c : In_ok-prepare_emission) → IsPreparedEmission c.prepare_emission.new.self.config (past_of c.self.inside.history.entries)
    (request_of c.args.command.now) c.prepare_emission.new.self.state c.prepare_emission.new.self.delivery
prepared c =
    c.in_ok-prepare_emission.ensures.prepared (past_of c.self.inside.history.entries) c.self.invariant.lives

given : (c : In_ok-prepare_emission)
    → IsGiven (seen c.self.inside) (record { ticket = c.args.ticket; by = c.args.by; command = c.args.command.now }) Done
given c = is-given _ _ _ _ _ c.self.invariant.legal (rw c.prepare_emission.ensures.config at (prepared c).0) c.config.ensures
    (c.prepare_emission.ensures.lives (past_of c.self.inside.history.entries) c.self.invariant.lives).count c.in_ok-prepare_emission.ensures.room

done : (c : After-deliver)
    → IsGiven (seen c.self.inside) (record { ticket = c.args.ticket; by = c.args.by; command = c.args.command.now }) Done
    → IsBookCall (seen c.self.inside) (record { config = c.deliver.new.self.config; entries = c.append_written.new.self.entries })
    (record { ticket = c.args.ticket; by = c.args.by; command = c.args.command.now }) (Ok Done)
done c given =
    done-call _ _ _ _ given c.self.view_is (c.deliver.ensures.config ∙ c.prepare_emission.ensures.config) c.write_ahead.ensures.entries
    c.in_ok-write_ahead.ensures.written c.append_written.ensures
    (c.ranges.ticket.fits, c.ranges.by.fits, c.in_ok-prepare_emission.ensures.fits) c.requires.rises

pub invariant_of-self : goal.invariant_of-self
invariant_of-self c = record {
  legal = rw c.prepare_emission.ensures.config c.self.invariant.legal;
  lives = c.prepare_emission.ensures.lives (past_of c.self.inside.history.entries) c.self.invariant.lives;
}

pub returns-in_err-prepare_emission : goal.returns-in_err-prepare_emission
returns-in_err-prepare_emission c =
    let past = past_of c.self.inside.history.entries in
    let out : c.from_residual.result ≡ Err c.in_err-prepare_emission.field-0.0 = search rules in
    rw (out, ← c.self.view_is) (refused-call (seen c.self.inside) _ _ _ c.self.invariant.legal c.prepare_emission.ensures.config refl
    (rw (c.config.ensures, c.prepare_emission.ensures.config) at c.in_err-prepare_emission.ensures.refused past c.self.invariant.lives)
    (λ takes. absurd (c.prepare_emission.ensures.memory takes)))

pub invariant_of-self-in_err-write_ahead : goal.invariant_of-self-in_err-write_ahead
invariant_of-self-in_err-write_ahead c = record {
  legal = rw (c.write_ahead.ensures.entries, c.prepare_emission.ensures.config) c.self.invariant.legal;
  lives = rw c.write_ahead.ensures.entries
      (c.prepare_emission.ensures.lives (past_of c.self.inside.history.entries) c.self.invariant.lives);
}

pub returns-in_err-write_ahead : goal.returns-in_err-write_ahead
returns-in_err-write_ahead c =
    let out : c.from_residual-in_err-write_ahead.result ≡ Err Memory = search rules in
    rw (out, ← c.self.view_is) (memory-call _ (given (goal.at.returns-in_err-write_ahead c).In_ok-prepare_emission)
    c.prepare_emission.ensures.config c.write_ahead.ensures.entries)

pub deliver-requires-clause-room : goal.deliver-requires-clause-room
deliver-requires-clause-room c =
    let limit = ap (λ (k : Config). k.history_limit) c.config.ensures in
    omega (arith, c.in_ok-prepare_emission.ensures.room, limit, c.self.invariant.lives.in_range.few_entries)

pub invariant_of-self-2 : goal.invariant_of-self-2
invariant_of-self-2 c =
    let past = past_of c.self.inside.history.entries in
    let at = goal.at.invariant_of-self-2 c in
    let call = done at.After-deliver (given at.In_ok-prepare_emission) in record {
      legal = call.legal;
      lives = rw (call.done, past_of-push)
          (c.deliver.ensures.done past (request_of c.args.command.now) (c.prepare_emission.ensures.lives past c.self.invariant.lives)
          (prepared at.In_ok-prepare_emission));
    }

pub returns : goal.returns
returns c =
    let at = goal.at.returns c in
    rw (← c.self.view_is) (done at.After-deliver (given at.In_ok-prepare_emission))

pub append_written-requires : goal.append_written-requires
append_written-requires c =
    can-append _ _ _ _ _ c.self.invariant.lives c.write_ahead.ensures.entries c.in_ok-write_ahead.ensures.written
