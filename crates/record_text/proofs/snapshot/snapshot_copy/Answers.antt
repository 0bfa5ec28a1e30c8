use Rattle.std.proofs.Common.{refl, sym, ap, ◌∙◌, option_copied}
use Rattle.record_text.specs.CopyText.{copied_text}
use Rattle.record_text.specs.SnapshotText.{freed_line}
use Rattle.record_text.proofs.SnapshotLemmas.{trace_of_spare, line_of_none}
use Rattle.record_text.proofs.snapshot.snapshot_copy.Goals as goal

pub returns-in_ok-copy-in-Some : goal.returns-in_ok-copy-in-Some
returns-in_ok-copy-in-Some c = λ events families stands pages page_bytes shape.
    trace_of_spare events _ c.in-Some.spare.now families.spare pages page_bytes (copied_text events c.in_ok-copy-in-Some.copy)
    (sym c.spare.ensures ∙ ap option_copied c.in-Some.is) stands.spare shape (λ family h. c.in_ok-copy-in-Some.ensures events family h)

pub returns-in-None : goal.returns-in-None
returns-in-None c = λ events families stands pages page_bytes shape.
    line_of_none events _ families.spare pages page_bytes freed_line (sym c.spare.ensures ∙ ap option_copied c.in-None.is) stands.spare refl
