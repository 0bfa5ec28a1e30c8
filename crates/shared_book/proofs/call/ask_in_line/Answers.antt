use Rattle.ticket_lock.specs.Calls.{drawn_view}
use Rattle.shared_book.proofs.call.ask_in_line.Goals as goal

pub returns-in-Ok-clause-goes_on : goal.returns-in-Ok-clause-goes_on
returns-in-Ok-clause-goes_on g c =
    let turn = c.in-Ok.ensures in
    (c.ask_in_turn.ensures.comes (drawn_view c.args.drawn) record { drawn = turn.drawn; finds = turn.finds; entries_are = turn.entries; base = turn.base }).goes_on

pub returns-in-Ok-clause-legal : goal.returns-in-Ok-clause-legal
returns-in-Ok-clause-legal g c =
    let turn = c.in-Ok.ensures in
    (c.ask_in_turn.ensures.comes (drawn_view c.args.drawn) record { drawn = turn.drawn; finds = turn.finds; entries_are = turn.entries; base = turn.base }).legal
