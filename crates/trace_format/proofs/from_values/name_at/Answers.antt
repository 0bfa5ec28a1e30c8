use Rattle.std.proofs.Common.{sym, ap, ◌∙◌}
use Rattle.trace_format.proofs.GivenLemmas.{name_here, no_name}
use Rattle.trace_format.proofs.from_values.name_at.Goals as goal

pub returns-then-index-fields : goal.returns-then-index-fields
returns-then-index-fields c =
    c.as_bytes.ensures ∙ ap (λ f. f.name) (sym c.index-fields-index.is) ∙ name_here c.args.fields.now c.args.index c.index-fields-index.result c.if-index-fields.true c.index-fields-index.is

pub returns-else-index-fields : goal.returns-else-index-fields
returns-else-index-fields c = no_name c.args.fields.now c.args.index c.if-index-fields.false
