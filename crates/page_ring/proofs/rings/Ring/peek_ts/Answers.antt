use Rattle.std.proofs.Common.{ap, ◌∙◌, List}
use Rattle.std.specs.Option.{option_map}
use Rattle.trace_record.specs.Record.{timestamp}
use Rattle.page_ring.specs.Account.{Reading, first}
use Rattle.page_ring.proofs.Stands.{readings_of_shown}
use Rattle.page_ring.proofs.rings.Ring.peek_ts.Goals as goal

pub returns : goal.returns
returns c = λ events s. c.peek_ts_step.ensures ∙ ap (λ (rs : List Reading). option_map (λ (r : Reading). timestamp r.rec) (first rs)) (readings_of_shown c.args.self.now events s)
