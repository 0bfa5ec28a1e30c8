-- Reads whose replies are made later.
use Rattle.std.proofs.Common.{◌≡◌, ℕ, List, Option, Some, None, Err, Ok, refl, sym, ap, ◌∙◌}
use Rattle.trace_command.specs.Paths.{OfInstance}
use Rattle.trace_command.specs.Requests.{Request}
use Rattle.trace_command.specs.declared.command.Config.{Config}
use Rattle.trace_command.specs.declared.command.Reply.{Reply}
use Rattle.trace_command.specs.declared.command.Reply.TheVariants.{Text}
use Rattle.trace_command.specs.declared.file_name.TopFile.TheVariants as top
use Rattle.trace_command.specs.declared.refusal.Refusal.TheVariants.{Memory}
use Rattle.page_ring.specs.Events.{Event}
use Rattle.trace_buffer.specs.Buffers as buffers
use Rattle.trace_buffer.specs.Buffers.{Seen}
use Rattle.trace_format.specs.Definitions.{Definition}
use Rattle.record_text.specs.BufferText.{trace_text}
use Rattle.record_text.specs.CopyText.{copied_text}
use Rattle.record_text.specs.declared.trace_copies.TraceCopy.{TraceCopy}
use Rattle.tracer_specification.specs.History.{text_of}
use Rattle.tracer_specification.specs.Rings.{rings}
use Rattle.tracer_specification.specs.Settings.{declared_events}
use Rattle.tracer_specification.specs.FileTexts.{shown_snapshot, shown_trace}
use Rattle.trace_instance.specs.FileAnswers.{IsRead, IsSource}
use Rattle.trace_instance.specs.LateReplies.{hist_file, trace_file}
use Rattle.trace_instance.specs.declared.change.InstanceChange.TheVariants.{Keep}
use Rattle.trace_instance.specs.declared.read.FileSource.{FileSource}

-- a trace
pub trace_read : (g : Config) (name : Option (List ℕ)) (past : List Request) (cpu : Option ℕ) (reply : Reply) → reply ≡ Text (shown_trace g name past cpu)
    → IsRead g name past None (trace_file cpu) (Ok (record { change = Keep; reply = reply }))
trace_read g name past None reply is = (ap Ok (sym is), tt, refl)
trace_read g name past (Some cpu) reply is = (ap Ok (sym is), tt, refl)

pub trace_refused : (g : Config) (name : Option (List ℕ)) (past : List Request) (cpu : Option ℕ) → IsRead g name past None (trace_file cpu) (Err Memory)
trace_refused g name past None = (λ other. absurd (other refl), λ early. absurd early)
trace_refused g name past (Some cpu) = (λ other. absurd (other refl), λ early. absurd early)

-- a snapshot
pub snapshot_read : (g : Config) (name : Option (List ℕ)) (past : List Request) (reply : Reply) → reply ≡ Text (shown_snapshot g name past)
    → IsRead g name past None (OfInstance top.Snapshot) (Ok (record { change = Keep; reply = reply }))
snapshot_read g name past reply is = (ap Ok (sym is), tt, refl)

pub snapshot_refused : (g : Config) (name : Option (List ℕ)) (past : List Request) → IsRead g name past None (OfInstance top.Snapshot) (Err Memory)
snapshot_refused g name past = (λ other. absurd (other refl), λ early. absurd early)

-- histograms
pub hist_read : (g : Config) (name : Option (List ℕ)) (past : List Request) (events : List Definition) (event : ℕ) (reply : Reply)
    → reply ≡ Text (text_of g name past (hist_file events event))
    → IsRead g name past None (hist_file events event) (Ok (record { change = Keep; reply = reply }))
hist_read g name past events event reply is = (ap Ok (sym is), tt, refl)

-- what is shown of a copy of the live side is what the requests say
pub trace_shown : (g : Config) (name : Option (List ℕ)) (past : List Request) (source : FileSource) (buffer : Seen) (events : List Definition) (cpu : Option ℕ)
    (copy : TraceCopy) → IsSource g name past source → buffer ≡ source.instance.now.sides.live → events ≡ source.catalog.now
    → ((events : List Definition) (family : List (List Event)) → buffers.StandsFor buffer family
    → copied_text events copy ≡ trace_text events buffer.pages buffer.page_bytes family cpu)
    → copied_text events copy ≡ shown_trace g name past cpu
unfolding shown_trace
trace_shown g name past source buffer events cpu copy is live_is events_is shown =
    let live = is.instance.shaped.live in
    let stands : buffers.StandsFor buffer (rings g name past) = rw live_is is.instance.sides.live in
    let pages : buffer.pages ≡ g.pages = ap (λ (b : Seen). b.pages) live_is ∙ live.pages in
    let page_bytes : buffer.page_bytes ≡ g.page_bytes = ap (λ (b : Seen). b.page_bytes) live_is ∙ live.page_bytes in
    let declared : events ≡ declared_events past = events_is ∙ is.events in
    shown events (rings g name past) stands ∙ rw (pages, page_bytes, declared) refl
