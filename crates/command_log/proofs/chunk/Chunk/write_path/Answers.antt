use Rattle.std.proofs.Common.{Ok, true, false, ap, ◌∙◌}
use Rattle.std.proofs.lemmas.Result.{on_ok_weaker}
use Rattle.command_log.proofs.WrittenEntries.{path_in_pieces, path_written}
use Rattle.command_log.proofs.chunk.Chunk.write_path.Goals as goal

pub returns-then-is_short-clause-ahead : goal.returns-then-is_short-clause-ahead
returns-then-is_short-clause-ahead c =
    path_written _ _ _ c.args.path.now c.args.ticket c.args.by c.args.kind c.args.limit c.requires c.other_head-head.ensures
    (c.write_short.ensures.ahead (c.in_ok-is_short.was ∙ ap Ok c.if-is_short.true))

pub returns-clause-ahead : goal.returns-clause-ahead
returns-clause-ahead c =
    on_ok_weaker c.write_pieces.result
    (path_in_pieces _ _ _ c.args.path.now c.args.ticket c.args.by c.args.kind c.args.limit
    (c.write_short.ensures.other (c.in_ok-is_short.was ∙ ap Ok c.if-is_short.false) ∙ c.requires) c.other_head-head.ensures)
    c.write_pieces.ensures.ahead
