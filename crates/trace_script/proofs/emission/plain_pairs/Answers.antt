use Rattle.std.proofs.Common.{rules}
use Rattle.trace_script.proofs.BareEmissions.{pairs_said_if}
use Rattle.trace_script.proofs.emission.plain_pairs.Goals as goal

pub returns : goal.returns
returns c =
    pairs_said_if _ c.args.line.now _ c.cut_pairs.result (search rules) (search rules) c.cut_pairs.ensures.whole c.cut_pairs.ensures.some
