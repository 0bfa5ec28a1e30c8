use Rattle.std.proofs.Common.{◌<◌, ◌∙◌, Err, sym, arith}
use Rattle.ticket_lock.specs.Calls.{view_of, held_view, held_ticket, held_value}
use Rattle.trace_command.specs.declared.refusal.Refusal.TheVariants.{Worn}
use Rattle.shared_book.proofs.Asking.{kept_of, kept_same, base_same, found_of, left_of, asked_above, asked_leaves, asked_comes}
use Rattle.shared_book.proofs.call.ask_in_turn.Goals as goal

-- the ticket is above those of all entries
pub answer-answer-requires : goal.answer-answer-requires
answer-answer-requires g c =
    let kept = kept_of g.B.SharedBook.made_with g.B.Logged.entries in
    let held = c.args.held in
    let named : c.requires.turn.0.low < c.requires.turn.0.end = omega (arith, held.turn.named, held.turn.low_is, held.turn.end_is, c.requires.turn.1.drawn.low, c.requires.turn.1.drawn.end) in
    let found = found_of g.met.B.SharedBook.tickets g.met.B.SharedBook.callers c.requires.turn.0 (held_ticket held) (held_view held).seen c.requires.turn.1.finds in
    let base = sym (g.met.B.SharedBook.bases (held_value held)) ∙ c.requires.turn.1.base in
    let lent = kept_same g.B.SharedBook.made_with g.B.Logged.entries c.value.result.now (held_value held) c.value.ensures.value in
    asked_above c.requires.turn.0 (held_view held) (held_view held) (held_ticket held) c.ticket-ticket.result c.by-by.result
    (kept (held_value held)) (kept c.value.result.now) (kept c.value.result.now) c.args.command.now (Err Worn) named
    c.requires.turn.1.drawn found c.requires.turn.1.entries_are base lent c.ticket-ticket.ensures c.by-by.ensures

-- the book is left as the lock takes it back
pub release-requires-clause-base : goal.release-requires-clause-base
release-requires-clause-base g c =
    let held = c.args.held in
    base_same g.B.SharedBook.made_with g.B.Logged.base g.met.B.SharedBook.bases (held_value held) c.value.result.now c.answer-answer.new.self c.value.ensures.value
    c.answer-answer.ensures.config ∙ c.requires.turn.1.base ∙ sym c.requires.turn.1.drawn.base

pub release-requires-clause-entries : goal.release-requires-clause-entries
release-requires-clause-entries g c =
    let kept = kept_of g.B.SharedBook.made_with g.B.Logged.entries in
    let held = c.args.held in
    let named : c.requires.turn.0.low < c.requires.turn.0.end = omega (arith, held.turn.named, held.turn.low_is, held.turn.end_is, c.requires.turn.1.drawn.low, c.requires.turn.1.drawn.end) in
    let found = found_of g.met.B.SharedBook.tickets g.met.B.SharedBook.callers c.requires.turn.0 (held_ticket held) (held_view held).seen c.requires.turn.1.finds in
    let base = sym (g.met.B.SharedBook.bases (held_value held)) ∙ c.requires.turn.1.base in
    let lent = kept_same g.B.SharedBook.made_with g.B.Logged.entries c.value.result.now (held_value held) c.value.ensures.value in
    left_of g.met.B.SharedBook.tickets g.met.B.SharedBook.callers (held_view held) (held_ticket held) (g.B.Logged.entries c.answer-answer.new.self)
    (asked_leaves c.requires.turn.0 (held_view held) (held_view held) (held_ticket held) c.ticket-ticket.result c.by-by.result
    (kept (held_value held)) (kept c.value.result.now) (kept c.answer-answer.new.self) c.args.command.now c.answer-answer.result named
    c.requires.turn.1.drawn found c.requires.turn.1.entries_are base lent c.ticket-ticket.ensures c.by-by.ensures
    c.answer-answer.ensures.done c.answer-answer.ensures.refused)

pub returns-clause-comes : goal.returns-clause-comes
returns-clause-comes g c v turn =
    let kept = kept_of g.B.SharedBook.made_with g.B.Logged.entries in
    let held = c.args.held in
    let named : v.low < v.end = omega (arith, held.turn.named, held.turn.low_is, held.turn.end_is, turn.drawn.low, turn.drawn.end) in
    let found = found_of g.met.B.SharedBook.tickets g.met.B.SharedBook.callers v (held_ticket held) (held_view held).seen turn.finds in
    let base = sym (g.met.B.SharedBook.bases (held_value held)) ∙ turn.base in
    let lent = kept_same g.B.SharedBook.made_with g.B.Logged.entries c.value.result.now (held_value held) c.value.ensures.value in
    asked_comes v (held_view held) (view_of c.release.result) (held_ticket held) c.ticket-ticket.result c.by-by.result
    (kept (held_value held)) (kept c.value.result.now) (kept c.answer-answer.new.self) c.args.command.now c.answer-answer.result named
    turn.drawn found turn.entries_are base lent c.ticket-ticket.ensures c.by-by.ensures
    c.answer-answer.ensures.reply c.answer-answer.ensures.early c.answer-answer.ensures.late_memory c.answer-answer.ensures.done c.answer-answer.ensures.refused c.answer-answer.ensures.config c.answer-answer.ensures.legal c.release.ensures.back
