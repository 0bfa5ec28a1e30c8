use Rattle.trace_format.proofs.SizeLemmas.{payload_has_its_size}
use Rattle.trace_format.proofs.laws.payloads_have_their_size.Goals as goal

pub returns : goal.returns
returns c = payload_has_its_size
