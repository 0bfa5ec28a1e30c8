use Rattle.kernel_pages.proofs.LayoutLemmas.{fields_fit, no_fields_fit}
use Rattle.kernel_pages.proofs.record.fields_of.Goals as goal

pub returns-in-Some-clause-fit : goal.returns-in-Some-clause-fit
returns-in-Some-clause-fit c = fields_fit c.in-Some.def.now _ c.fields.ensures.fields c.fields.ensures.definition c.in-Some.ensures.few

pub returns-in-None-clause-fit : goal.returns-in-None-clause-fit
returns-in-None-clause-fit c = no_fields_fit
