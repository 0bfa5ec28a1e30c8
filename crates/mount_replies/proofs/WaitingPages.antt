-- Reads of binary pages where a record waits.
use Rattle.std.proofs.Common.{◌≡◌, ◌⊎◌, inl, inr, ℕ, ◌≤◌, Bool, true, false, not, nat_lt, if◌then◌else◌, List, [], ◌∷◌, length, map, min, take, Option, None, Some, Ok, Err, refl, sym, ap, ◌∙◌, subst, arith}
use Rattle.std.proofs.lemmas.Bool.{and_parts, false≢true}
use Rattle.std.proofs.lemmas.Bool.Decides.{nat_tests}
use Rattle.std.specs.Option.{option_map_or}
use Rattle.fuse_wire.specs.declared.reply.Reply.{Reply}
use Rattle.fuse_wire.specs.declared.request.Operation.{Operation}
use Rattle.page_ring.specs.Account.{has_waiting, readings_of}
use Rattle.page_ring.specs.Events.{Event}
use Rattle.trace_buffer.specs.Families.{CpuReading, cpu_has_waiting, cpu_readings, events_of, on_cpu}
use Rattle.trace_command.specs.declared.file_name.CpuFile.TheVariants as per_cpu
use Rattle.trace_format.proofs.CatalogLemmas.{found_event}
use Rattle.trace_format.specs.Catalogs.{AreEvents, event_of}
use Rattle.trace_format.specs.Definitions.{Definition}
use Rattle.trace_instance.specs.declared.file.File.TheVariants as opened
use Rattle.trace_record.specs.Record.{payload_in}
use Rattle.tracer_specification.specs.Rings.{rings}
use Rattle.tracer_specification.specs.Settings.{declared_events}
use Rattle.kernel_pages.proofs.LayoutLemmas.{event_fits_page, no_fields_fit}
use Rattle.kernel_pages.specs.KernelFormats.{record_data}
use Rattle.kernel_pages.specs.Rows.{data_of, head_in, row_of}
use Rattle.file_list.specs.FileTable.{file_index}
use Rattle.file_list.specs.declared.file.File.{File}
use Rattle.file_list.specs.declared.file.File.TheVariants as files
use Rattle.file_list.specs.declared.file.FileKind.TheVariants as kinds
use Rattle.file_list.specs.FileKinds.{kind_of_file}
use Rattle.mount_tree.specs.Children.{file_is_there, is_there, owner_is_there}
use Rattle.mount_tree.specs.NodePaths.{owner_name}
use Rattle.mount_tree.specs.declared.node.Node.TheVariants as nodes
use Rattle.mount_stub_files.proofs.Owners.{owner-there}
use Rattle.mount_replies.proofs.DoneLemmas.{events-are, pasts_are_done}
use Rattle.mount_replies.proofs.PageLaws.{pages_take_some}
use Rattle.mount_replies.proofs.PageReads.{raw-file}
use Rattle.mount_replies.proofs.PipeLemmas.{pipe-dry}
use Rattle.mount_replies.proofs.ShownLemmas.{reason}
use Rattle.mount_replies.specs.Errnos.{errno_of}
use Rattle.mount_replies.specs.Mounted.{Does}
use Rattle.mount_replies.specs.PageLaws.{GivesSome, IsPageRefused, PageReadsGiveSome, PagesTakeWhatWaits, page_command}
use Rattle.mount_replies.specs.Pipes.{is_dry, is_used_up}
use Rattle.mount_replies.specs.RawPages.{next_count}
use Rattle.mount_replies.specs.Served.{is_cached, read_file, read_page, read_raw, step_of}
use Rattle.mount_replies.specs.Services.{OpenSeen, Service, Terms, file_at, node_of, read_of_pipe, scene_of}
use Rattle.mount_replies.specs.Steps.{Step}
use Rattle.mount_replies.specs.declared.parked.Parked.{Parked}

-- ---- a record that waits

-- the data of a record fit a page, of whatever event it is of those that were declared
data_fits : (events : List Definition) (bytes : List ℕ) → AreEvents [] events → length (data_of events bytes) ≤ 4056
unfolding data_of
data_fits events bytes are = by (event_of events (head_in bytes).event) refl
  where
    by : (found : Option Definition) → event_of events (head_in bytes).event ≡ found
        → length (record_data (head_in bytes) (option_map_or (λ (d : Definition). d.fields) found []) (payload_in (head_in bytes) bytes)) ≤ 4056
    by None is = no_fields_fit (head_in bytes) (payload_in (head_in bytes) bytes)
    by (Some event) is =
        let found = found_event events (head_in bytes).event event are is in
        event_fits_page event found.defined found.few (head_in bytes) (payload_in (head_in bytes) bytes)

-- it is read
waits-reads : (pages page_bytes : ℕ) (events : List Event) → has_waiting pages page_bytes events ≡ true
    → nat_lt 0 (length (readings_of pages page_bytes events)) ≡ true
unfolding has_waiting
waits-reads pages page_bytes events waits = waits

-- a take of one takes the first
first-row : {A B C : Type 0} (row : B → C) (own : A → B) (readings : List A) → nat_lt 0 (length readings) ≡ true
    → (first : A) × (map row (map own (take (min 1 (length readings)) readings)) ≡ row (own first) ∷ [])
first-row row own [] some = absurd (false≢true some)
first-row row own (first ∷ readings) some =
    let one : min 1 (length (first ∷ readings)) ≡ 1 = omega arith in
    (first, ap (λ n. map row (map own (take n (first ∷ readings)))) one)

not-false : (t : Bool) → not t ≡ false → t ≡ true
not-false true e = refl
not-false false e = absurd (cc)

pub pages_take_what_waits : PagesTakeWhatWaits
pages_take_what_waits g turns s owner cpu taken there wet =
    let events = declared_events s.past in
    let family = rings g.config (owner_name (scene_of g s) owner) s.past in
    let waiting = cpu_has_waiting g.config.pages g.config.page_bytes family cpu in
    let parts = and_parts (owner_is_there (scene_of g s) owner) (file_is_there (scene_of g s) owner (files.RawPipe cpu)) there in
    let dry : is_dry g s owner (files.RawPipe cpu) ≡ not waiting =
    pipe-dry g s owner (files.RawPipe cpu) (opened.OfCpu cpu per_cpu.TracePipe) (Ok waiting)
    (ap (λ (t : Bool). if t then Some (opened.OfCpu cpu per_cpu.TracePipe) else None) parts.1) parts.0 (owner-there g.config.cpus s.past owner parts.0) refl in
    let waits = waits-reads g.config.pages g.config.page_bytes (events_of family cpu) (not-false waiting (sym dry ∙ wet)) in
    let one =
    first-row (λ (r : CpuReading). row_of events r.lost r.rec) (on_cpu cpu) (cpu_readings g.config.pages g.config.page_bytes family cpu) waits in
    pages_take_some g s owner cpu (row_of events one.0.lost one.0.rec) one.1
    (data_fits events one.0.rec (events-are g.config s.past (pasts_are_done g turns s taken).done))

-- ---- a read of it

-- a read of pages takes the next page, where a record waits and nothing is left of the page before
raw-takes : (g : Terms) (s : Service) (read : Parked) (cached : Bool) (flags : ℕ) (file : OpenSeen) → is_used_up file ≡ true
    → is_dry g s file.owner file.file ≡ false → (cached ≡ true → 4096 ≤ read.size) → read_raw g s read cached flags file ≡ read_page g s read file
raw-takes g s read true flags file used wet room =
    let few : nat_lt read.size 4096 ≡ false = grind (arith, nat_tests, room refl) in
    rw (used, few, wet) refl
raw-takes g s read false flags file used wet room = rw (used, wet) refl

read-takes : (g : Terms) (s : Service) (read : Parked) (offset : ℕ) (cached : Bool) (flags : ℕ) (file : OpenSeen)
    → file_at read.handle s.files ≡ Some file → kind_of_file file.file ≡ kinds.RawPipe → is_there (scene_of g s) (node_of file) ≡ true
    → is_used_up file ≡ true → is_dry g s file.owner file.file ≡ false → (cached ≡ true → 4096 ≤ read.size)
    → read_file g s read offset cached flags (file_at read.handle s.files) ≡ read_page g s read file
read-takes g s read offset cached flags file found raw there used wet room = rw (found, there, raw) (raw-takes g s read cached flags file used wet room)

page-gives : (g : Terms) (s : Service) (read : Parked) (file : OpenSeen) (reply : Option Reply) (after : Service)
    → 1 ≤ next_count g s file.owner (file_index file.file) → Does g s (read_page g s read file) reply after
    → GivesSome g s file read.size reply after ⊎ IsPageRefused g s file reply after
page-gives g s read file reply after some (Ok answer, answered, told, same) =
    inl (record { some = some; told = told; took = ap (λ (a : Service). a.past) same })
page-gives g s read file reply after some (Err refusal, answered, told, same) =
    inr (record { errno = errno_of refusal; why = reason g s.past (page_command g s file) refusal answered.reply; told = told; now = same })

pub page_reads_give_some : PageReadsGiveSome
page_reads_give_some g turns before after request bytes handle offset size read_flags flags file taken served operation found raw there used wet room =
    let read = read_of_pipe request.unique handle size in
    let is = raw-file file.file (sym raw) in
    let some =
    pages_take_what_waits g turns before file.owner (file_index file.file) taken
    (subst (λ (f : File). is_there (scene_of g before) (nodes.File file.owner f) ≡ true) is there)
    (subst (λ (f : File). is_dry g before file.owner f ≡ false) is wet) in
    let step : step_of g before request.unique request.pid served.node request.operation ≡ read_page g before read file =
    ap (λ (o : Operation). step_of g before request.unique request.pid served.node o) operation
    ∙ read-takes g before read offset (is_cached read_flags) flags file found raw there used wet room in
    page-gives g before read file served.reply after some (subst (λ (s : Step). Does g before s served.reply after) step served.does)
