use Rattle.command_log.proofs.WrittenEntries.{other_head}
use Rattle.command_log.proofs.encode.other_head.Goals as goal

pub returns : goal.returns
returns c =
    other_head c.args.ticket c.args.by c.args.kind c.args.limit _ _ _ c.to_le_bytes-t.ensures c.to_le_bytes-c.ensures c.to_le_bytes-l.ensures
