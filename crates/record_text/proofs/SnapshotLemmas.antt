-- What is shown of the spare side, for the families that both sides stand for.
use Rattle.std.proofs.Common.{◌≡◌, ℕ, List, Option, Some, None, ◌∙◌, subst}
use Rattle.page_ring.specs.Events.{Event}
use Rattle.trace_buffer.specs.Buffers.{Seen}
use Rattle.trace_buffer.specs.Buffers as buffers
use Rattle.trace_format.specs.Definitions.{Definition}
use Rattle.trace_snapshot.specs.Sides.{SpareStandsFor}
use Rattle.record_text.specs.BufferText.{trace_text}
use Rattle.record_text.specs.SnapshotText.{SpareHasShape, freed_line, snapshot_text}

-- the trace of a spare is the snapshot's text
pub trace_of_spare : (events : List Definition) (seen : Option Seen) (spare : Seen) (families : Option (List (List Event))) (pages page_bytes : ℕ) (shown : List ℕ)
    → seen ≡ Some spare → SpareStandsFor seen families → SpareHasShape pages page_bytes seen
    → ((family : List (List Event)) → buffers.StandsFor spare family → shown ≡ trace_text events spare.pages spare.page_bytes family None)
    → shown ≡ snapshot_text events pages page_bytes families
unfolding snapshot_text
trace_of_spare events seen spare families pages page_bytes shown is stands shape text =
    of_families families (subst (λ s. SpareStandsFor s families) is stands) (subst (SpareHasShape pages page_bytes) is shape)
  where
    of_families : (families : Option (List (List Event))) → SpareStandsFor (Some spare) families → SpareHasShape pages page_bytes (Some spare) → shown ≡ snapshot_text events pages page_bytes families
    of_families None stands shape = elim stands [ ]
    of_families (Some family) stands shape = text family stands ∙ (λ i. trace_text events (shape.0 i) (shape.1 i) family None)

-- and without a spare it is the line that says so
pub line_of_none : (events : List Definition) (seen : Option Seen) (families : Option (List (List Event))) (pages page_bytes : ℕ) (shown : List ℕ)
    → seen ≡ None → SpareStandsFor seen families → shown ≡ freed_line → shown ≡ snapshot_text events pages page_bytes families
unfolding snapshot_text
line_of_none events seen families pages page_bytes shown is stands text = of_families families (subst (λ s. SpareStandsFor s families) is stands)
  where
    of_families : (families : Option (List (List Event))) → SpareStandsFor None families → shown ≡ snapshot_text events pages page_bytes families
    of_families None stands = text
    of_families (Some family) stands = elim stands [ ]
