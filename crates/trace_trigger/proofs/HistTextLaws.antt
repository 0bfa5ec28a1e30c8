-- A text says just what can be written so.
use Rattle.std.proofs.Common.{◌≡◌, ◌↔◌, ℕ, List, [], Result, Ok, ap, sym, ◌∙◌}
use Rattle.trace_format.specs.Definitions.{Definition}
use Rattle.trace_trigger.specs.declared.fault.TriggerFault.{TriggerFault}
use Rattle.trace_trigger.specs.HistParts.{attributes_of}
use Rattle.trace_trigger.specs.HistLists.{Lists, lists_of}
use Rattle.trace_trigger.specs.private.MistakeOffsets.{wrong_offsets}
use Rattle.trace_trigger.specs.TriggerAnswers.{◌>>=◌}
use Rattle.trace_trigger.specs.HistMeanings.{few}
use Rattle.trace_trigger.specs.HistSpecs.{SpecSeen}
use Rattle.trace_trigger.specs.HistTexts.{IsHistText, read_of, spec_from, spec_of}
use Rattle.trace_trigger.specs.HistGrammar.{Says}
use Rattle.trace_trigger.proofs.PartLaws.{parts_of}
use Rattle.trace_trigger.proofs.MeaningLaws.{bound}
use Rattle.trace_trigger.proofs.SpecLaws.{written_finds, IsSomehowWritten, right_written, read_right, read_wrong, IsSaid, said, saying}
use Rattle.trace_trigger.proofs.SaysLaws.{said_settings, said_limits, said_fits, settings_said}

module _ (definition : Definition) (text : List ℕ) where
  -- once the text is read
  pub of_right : wrong_offsets text ≡ [] → spec_of definition text ≡ (few (lists_of (attributes_of text)) >>= λ lists. spec_from definition text lists)
  unfolding spec_of
  of_right none = ap (λ (r : Result Lists TriggerFault). r >>= λ lists. few lists >>= λ lists. spec_from definition text lists) (read_right text none)

  pub right_of : (spec : SpecSeen) → spec_of definition text ≡ Ok spec → wrong_offsets text ≡ []
  unfolding spec_of
  right_of spec e =
      let read = bound (read_of text) (λ lists. few lists >>= λ lists. spec_from definition text lists) spec e in
      read_wrong text read.found read.is

  says : (spec : SpecSeen) → IsSomehowWritten text → IsSaid definition text (lists_of (attributes_of text)) spec → Says definition text spec
  says spec is it =
      let finds = written_finds text is.settings is.condition is.written in
      record {
        settings = is.settings;
        condition = is.condition;
        written = is.written;
        set = said_settings definition text is.settings is.condition finds spec it;
        limits = said_limits definition text is.settings is.condition finds spec it;
        fits = said_fits definition text is.settings is.condition finds spec it;
      }

  pub ok_is_written : (spec : SpecSeen) → IsHistText text → (spec_of definition text ≡ Ok spec) ↔ Says definition text spec
  ok_is_written spec hist = (
    λ e. let none = right_of spec e in says spec (right_written text (parts_of text hist) none) (said definition text (lists_of (attributes_of text)) spec (sym (of_right none) ∙ e)),
    λ is. let finds = written_finds text is.settings is.condition is.written in
        of_right finds.none ∙ saying definition text (lists_of (attributes_of text)) spec (settings_said definition text is.settings is.condition finds spec is.set is.limits is.fits),
  )
