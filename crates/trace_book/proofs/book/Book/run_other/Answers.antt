use Rattle.std.proofs.Common.{◌≡◌, Ok, Err, arith, rules, refl, ap}
use Rattle.trace_command.specs.declared.refusal.Refusal.TheVariants.{Memory}
use Rattle.trace_command.specs.Requests.{request_of}
use Rattle.trace_command.specs.declared.command.Config.{Config}
use Rattle.tracer_specification.specs.History.{past_of}
use Rattle.tracer_state.proofs.Histories.{past_of-push}
use Rattle.trace_book.specs.Books.{seen}
use Rattle.trace_book.specs.private.BookCalls.{IsBookCall}
use Rattle.trace_book.proofs.BookCalls.{IsGiven, can-append, done-call, is-given, memory-call, refused-call}
use Rattle.trace_book.proofs.book.Book.run_other.Goals as goal
use Rattle.trace_book.proofs.book.Book.run_other.Goals.{After-append_written, In_ok-prepared}

given : (c : In_ok-prepared)
    → IsGiven (seen c.self.inside) (record { ticket = c.args.ticket; by = c.args.by; command = c.args.command.now }) c.in_ok-prepared.prepared.reply
given c = is-given _ _ _ _ _ c.self.invariant.legal
    (c.in_ok-prepared.ensures.prepared (past_of c.self.inside.history.entries) c.self.invariant.lives).0
    c.config.ensures c.self.invariant.lives.count c.in_ok-prepared.ensures.room

done : (c : After-append_written)
    → IsGiven (seen c.self.inside) (record { ticket = c.args.ticket; by = c.args.by; command = c.args.command.now }) c.in_ok-prepared.prepared.reply
    → IsBookCall (seen c.self.inside) (record { config = c.carry_out.new.self.config; entries = c.append_written.new.self.entries })
    (record { ticket = c.args.ticket; by = c.args.by; command = c.args.command.now }) (Ok c.in_ok-prepared.prepared.reply)
done c given = done-call _ _ _ _ given c.self.view_is c.carry_out.ensures.config c.write_ahead.ensures.entries c.in_ok-write_ahead.ensures.written
    c.append_written.ensures (c.ranges.ticket.fits, c.ranges.by.fits, c.in_ok-prepared.ensures.fits) c.requires.rises

pub returns-in_err-prepared : goal.returns-in_err-prepared
returns-in_err-prepared c =
    let past = past_of c.self.inside.history.entries in
    let out : c.from_residual.result ≡ Err c.in_err-prepared.field-0.0 = search rules in
    rw (out, ← c.self.view_is) (refused-call (seen c.self.inside) _ _ _ c.self.invariant.legal refl refl
    (rw c.config.ensures at c.in_err-prepared.ensures.prepared past c.self.invariant.lives)
    (c.in_err-prepared.ensures.memory past c.self.invariant.lives))

pub invariant_of-self : goal.invariant_of-self
invariant_of-self c = record {
  legal = rw c.write_ahead.ensures.entries c.self.invariant.legal;
  lives = rw c.write_ahead.ensures.entries c.self.invariant.lives;
}

pub returns-in_err-write_ahead : goal.returns-in_err-write_ahead
returns-in_err-write_ahead c =
    let out : c.from_residual-in_err-write_ahead.result ≡ Err Memory = search rules in
    rw (out, ← c.self.view_is)
    (memory-call _ (given (goal.at.returns-in_err-write_ahead c).In_ok-prepared) refl c.write_ahead.ensures.entries)

pub carry_out-requires-clause-room : goal.carry_out-requires-clause-room
carry_out-requires-clause-room c =
    let limit = ap (λ (k : Config). k.history_limit) c.config.ensures in
    omega (arith, c.in_ok-prepared.ensures.room, limit, c.self.invariant.lives.in_range.few_entries)

pub invariant_of-self-in_err-reply : goal.invariant_of-self-in_err-reply
invariant_of-self-in_err-reply c = record {
  legal = rw (c.write_ahead.ensures.entries, c.carry_out.ensures.config) c.self.invariant.legal;
  lives = rw c.write_ahead.ensures.entries (c.in_err-reply.ensures.refused (past_of c.self.inside.history.entries) c.self.invariant.lives);
}

pub returns-in_err-reply : goal.returns-in_err-reply
returns-in_err-reply c =
    let out : c.from_residual-in_err-reply.result ≡ Err c.in_err-reply.field-0.0 = search rules in
    rw (out, ← c.self.view_is, c.in_err-reply.ensures.memory)
    (memory-call _ (given (goal.at.returns-in_err-reply c).In_ok-prepared) c.carry_out.ensures.config c.write_ahead.ensures.entries)

pub invariant_of-self-2 : goal.invariant_of-self-2
invariant_of-self-2 c =
    let past = past_of c.self.inside.history.entries in
    let at = goal.at.invariant_of-self-2 c in
    let call = done at.After-append_written (given at.In_ok-prepared) in record {
      legal = call.legal;
      lives = rw (call.done, past_of-push) (c.in_ok-reply.ensures.done past (request_of c.args.command.now) c.self.invariant.lives
          (c.in_ok-prepared.ensures.prepared past c.self.invariant.lives));
    }

pub returns : goal.returns
returns c =
    let at = goal.at.returns c in
    rw (← c.self.view_is, c.in_ok-reply.ensures.reply) (done at.After-append_written (given at.In_ok-prepared))

pub append_written-requires : goal.append_written-requires
append_written-requires c = can-append _ _ _ _ _ c.self.invariant.lives c.write_ahead.ensures.entries c.in_ok-write_ahead.ensures.written
