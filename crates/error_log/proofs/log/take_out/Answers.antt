use Rattle.std.proofs.Common.{rules}
use Rattle.std.proofs.lemmas.Fn.{filter_same}
use Rattle.error_log.proofs.log.take_out.Goals as goal

pub returns : goal.returns
returns c = filter_same _ _ _ (λ t b f called. search rules) _ _ c.retain.ensures.filtered
