use Rattle.std.proofs.Common.{◌≡◌, ◌<◌, ◌≤◌, ◌++◌, map, ◌+◌, None, vec_len, vec_capacity}
use Rattle.std.specs.Vec.Iter.{into_iter_items, into_iter_len}
use Rattle.ticket_lock.specs.Calls.{view_of, IsOf}
use Rattle.trace_workers.specs.PartRuns.{HasAsked, IsGated}
use Rattle.trace_workers.proofs.worker.ask_part.Given as goal

-- what was asked so far is done, and is a beginning of the commands
abbrev pub invariant-loop-command : goal.invariant-loop-command
invariant-loop-command g l =
    (goal.iterator-loop-command g).can_next l.command-iterator ×
    (goal.iterator-loop-command g).is_finite l.command-iterator
    × IsOf l.env.lock.now l.mine.pass
    × ((view_of l.mine.pass).low < (view_of l.mine.pass).end)
    × (vec_len l.mine.replies + into_iter_len l.command-iterator ≤ vec_capacity l.mine.replies)
    × (l.fn.commands.items ≡ l.yielded ++ into_iter_items l.command-iterator)
    × HasAsked (view_of l.fn.worker.pass) (view_of l.mine.pass) (map g.C.Asked.command l.yielded) l.mine.replies.items None
    × IsGated (g.G.Gate.may_answer l.env.gate.now l.fn.thread) (map g.C.Asked.command l.yielded) l.mine.replies.items None
