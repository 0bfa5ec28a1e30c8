use Rattle.std.proofs.Common.{ap, ◌∙◌}
use Rattle.trace_command.specs.Paths.{Address}
use Rattle.library_tracer.specs.LateTexts.{has_late_text}
use Rattle.library_tracer.proofs.console.copying.has_late_text.Goals as goal

pub returns-then-may_be_late : goal.returns-then-may_be_late
returns-then-may_be_late c = c.is_made_late.ensures ∙ ap (λ (a : Address). has_late_text a.file) c.address_of.ensures
