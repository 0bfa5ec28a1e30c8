-- What reads of binary pages come to.
use Rattle.std.proofs.Common.{◌≡◌, ◌==◌, ℕ, Bool, true, false, List, [], drop, length, min, Option, None, Some, is_some, unwrap_or, Result, Ok, Err, refl, sym, ap, ◌∙◌, subst}
use Rattle.std.proofs.lemmas.Bool.{false≢true}
use Rattle.std.specs.Option.{option_and_then}
use Rattle.fuse_wire.specs.Replies.{reply_bytes}
use Rattle.fuse_wire.specs.declared.errno.Errno.{Errno}
use Rattle.fuse_wire.specs.declared.errno.Errno.TheVariants.{EAGAIN, EINVAL, ENOMEM}
use Rattle.fuse_wire.specs.declared.reply.Reply.TheVariants as replies
use Rattle.trace_command.specs.Requests.{Request}
use Rattle.trace_command.specs.declared.command.Reply.{Reply as Answer}
use Rattle.trace_command.specs.declared.file_name.CpuFile.TheVariants as per_cpu
use Rattle.trace_command.specs.declared.file_name.EventFile.TheVariants as per_event
use Rattle.trace_command.specs.declared.file_name.TopFile.TheVariants as top
use Rattle.trace_command.specs.declared.refusal.Refusal.{Refusal}
use Rattle.trace_command.specs.declared.refusal.Refusal.TheVariants.{Memory}
use Rattle.kernel_pages.specs.Pages.{page_of}
use Rattle.file_list.specs.FileKinds.{kind_of_file}
use Rattle.file_list.specs.FileTable.{file_index}
use Rattle.file_list.specs.declared.file.File.{File}
use Rattle.file_list.specs.declared.file.File.TheVariants as files
use Rattle.file_list.specs.declared.file.FileKind.TheVariants as kinds
use Rattle.mount_tree.specs.Children.{is_there}
use Rattle.mount_tree.specs.Scenes.{SceneSeen}
use Rattle.mount_tree.specs.declared.node.Node.{Node}
use Rattle.mount_tree.specs.declared.node.Node.TheVariants as nodes
use Rattle.mount_tree.specs.declared.node.Owner.{Owner}
use Rattle.mount_replies.specs.Errnos.{errno_of}
use Rattle.mount_replies.specs.Mounted.{HasLedTo, IsAsked, IsTold, MountSeen, service_of, terms_of}
use Rattle.mount_replies.specs.Pipes.{is_used_up}
use Rattle.mount_replies.specs.RawPages.{next_count, next_page}
use Rattle.mount_replies.specs.Served.{given_page, part_of, read_no_page, read_page, read_raw}
use Rattle.mount_replies.specs.Services.{OpenSeen, Service, Terms, file_at, most_data, node_of, scene_of, text_at, with_dry_read, with_records}
use Rattle.mount_replies.specs.Steps.{Asks, Outcome, read_of, taking}
use Rattle.mount_replies.specs.declared.parked.Parked.{Parked}
use Rattle.mount_replies.proofs.ReadLemmas.{noted-told, plain-told, refused-told}
use Rattle.mount_replies.proofs.Steps.{asked-step, memory-step, told-step}
use Rattle.mount_replies.proofs.ToolLemmas.{takes-step}

-- ---- the file

-- a file of binary pages is that of its CPU
pub raw-file : (file : File) → kinds.RawPipe ≡ kind_of_file file → file ≡ files.RawPipe (file_index file)
raw-file (files.RawPipe cpu) is = refl
raw-file files.SyntheticEvents is = absurd (cc)
raw-file (files.OfInstance top.Trace) is = absurd (cc)
raw-file (files.OfInstance top.TracePipe) is = absurd (cc)
raw-file (files.OfInstance top.Overwrite) is = absurd (cc)
raw-file (files.OfInstance top.TraceOptions) is = absurd (cc)
raw-file (files.OfInstance top.TracingOn) is = absurd (cc)
raw-file (files.OfInstance top.Snapshot) is = absurd (cc)
raw-file (files.OfInstance top.EventsEnable) is = absurd (cc)
raw-file (files.OfInstance top.EventsFilter) is = absurd (cc)
raw-file files.SystemEnable is = absurd (cc)
raw-file (files.OfCpu cpu per_cpu.Trace) is = absurd (cc)
raw-file (files.OfCpu cpu per_cpu.TracePipe) is = absurd (cc)
raw-file (files.OfCpu cpu per_cpu.Stats) is = absurd (cc)
raw-file (files.OfEvent event per_event.Enable) is = absurd (cc)
raw-file (files.OfEvent event per_event.Filter) is = absurd (cc)
raw-file (files.OfEvent event per_event.Trigger) is = absurd (cc)
raw-file (files.OfEvent event per_event.Hist) is = absurd (cc)
raw-file (files.OfEvent event per_event.Format) is = absurd (cc)
raw-file (files.Inject event) is = absurd (cc)
raw-file (files.Tool file) is = absurd (cc)
raw-file (files.OfTop file) is = absurd (cc)
raw-file (files.CpuSize cpu) is = absurd (cc)
raw-file (files.EventId event) is = absurd (cc)
raw-file files.ErrorLog is = absurd (cc)
raw-file (files.Layout file) is = absurd (cc)

pub raw-there : (scene : SceneSeen) (own : OpenSeen) → kinds.RawPipe ≡ kind_of_file own.file → is_there scene (node_of own) ≡ true
    → is_there scene (nodes.File own.owner (files.RawPipe (file_index own.file))) ≡ true
raw-there scene own is there = ap (λ (file : File). is_there scene (nodes.File own.owner file)) (sym (raw-file own.file is)) ∙ there

pub some-none : {A : Type 0} (found : Option A) → is_some found ≡ true → found ≡ None → ⊥
some-none None some none = false≢true some
some-none (Some a) some none = absurd (cc)

-- ---- what a page is taken by

-- the read of a CPU's pipe, of as many records as the next page tells, and what it comes to
abbrev page_request : Terms → Service → Owner → ℕ → Request
page_request g s owner cpu =
    read_of (scene_of g s) (nodes.File owner (files.OfCpu cpu per_cpu.TracePipe)) (Some (next_count g s owner cpu))

abbrev page_given : Terms → Service → Parked → Owner → ℕ → Result Answer Refusal → Outcome
page_given g s read owner cpu = given_page read.handle read.size (next_page g s owner cpu) s.files

own-page : (past : List Request) (old new : MountSeen) (read : Parked) (own : OpenSeen) (owner : Owner) (cpu : ℕ) (bytes : List ℕ) → own.owner ≡ owner
    → own.file ≡ files.RawPipe cpu
    → IsTold past old new (Asks (page_request (terms_of old) (service_of past old) owner cpu) (page_given (terms_of old) (service_of past old) read owner cpu))
    read.unique bytes
    → IsTold past old new (read_page (terms_of old) (service_of past old) read own) read.unique bytes
own-page past old new read own owner cpu bytes is_owner is_file told = rw (is_owner, is_file) told

page-asked : (past : List Request) (old mid : MountSeen) (owner : Owner) (cpu taken : ℕ) (answer : Result Answer Refusal) → HasLedTo past old
    → IsAsked past old mid (read_of old.scene (nodes.File owner (files.OfCpu cpu per_cpu.TracePipe)) (Some taken)) answer
    → taken ≡ next_count (terms_of old) (service_of past old) owner cpu
    → IsAsked past old mid (page_request (terms_of old) (service_of past old) owner cpu) answer
page-asked past old mid owner cpu taken answer mounted asked many =
    subst (λ (count : ℕ). IsAsked past old mid
    (read_of (scene_of (terms_of old) (service_of past old)) (nodes.File owner (files.OfCpu cpu per_cpu.TracePipe)) (Some count)) answer) many
    (subst (λ (scene : SceneSeen). IsAsked past old mid (read_of scene (nodes.File owner (files.OfCpu cpu per_cpu.TracePipe)) (Some taken)) answer)
    mounted.scene asked)

-- ---- what it comes to

-- the page is given
pub page-told : (past : List Request) (old mid : MountSeen) (read : Parked) (own : OpenSeen) (owner : Owner) (cpu taken count : ℕ) (answer : Answer)
    (page : List ℕ) (now : List (Option OpenSeen)) (bytes : List ℕ) → HasLedTo past old → own.owner ≡ owner → own.file ≡ files.RawPipe cpu
    → IsAsked past old mid (read_of old.scene (nodes.File owner (files.OfCpu cpu per_cpu.TracePipe)) (Some taken)) (Ok answer)
    → page ≡ next_page (terms_of old) (service_of past old) owner cpu → taken ≡ next_count (terms_of old) (service_of past old) owner cpu
    → count ≡ min read.size most_data → now ≡ with_records (drop count page) read.handle mid.files
    → bytes ≡ reply_bytes read.unique (replies.Data (part_of 0 read.size page))
    → IsTold past old (record mid { files = now }) (read_page (terms_of old) (service_of past old) read own) read.unique bytes
page-told past old mid read own owner cpu taken count answer page now bytes mounted is_owner is_file asked is many size kept said =
    let next = next_page (terms_of old) (service_of past old) owner cpu in
    let request = page_request (terms_of old) (service_of past old) owner cpu in
    let given = page_given (terms_of old) (service_of past old) read owner cpu in
    let files_are : now ≡ with_records (drop (min read.size most_data) next) read.handle old.files =
    kept ∙ ap (λ (n : ℕ). with_records (drop n page) read.handle mid.files) size
    ∙ ap (λ (p : List ℕ). with_records (drop (min read.size most_data) p) read.handle mid.files) is
    ∙ ap (λ (f : List (Option OpenSeen)). with_records (drop (min read.size most_data) next) read.handle f) asked.files in
    own-page past old (record mid { files = now }) read own owner cpu bytes is_owner is_file
    (told-step past old (record mid { files = now }) (Asks request given) read.unique bytes (replies.Data (part_of 0 read.size next))
    (asked-step past old mid request given (Ok answer) now (page-asked past old mid owner cpu taken (Ok answer) mounted asked many) files_are)
    (said ∙ ap (λ (p : List ℕ). reply_bytes read.unique (replies.Data (part_of 0 read.size p))) is))

-- the command was refused
pub page-refused : (past : List Request) (old mid : MountSeen) (read : Parked) (own : OpenSeen) (owner : Owner) (cpu taken : ℕ) (refusal : Refusal)
    (errno : Errno) (bytes : List ℕ) → HasLedTo past old → own.owner ≡ owner → own.file ≡ files.RawPipe cpu
    → IsAsked past old mid (read_of old.scene (nodes.File owner (files.OfCpu cpu per_cpu.TracePipe)) (Some taken)) (Err refusal)
    → taken ≡ next_count (terms_of old) (service_of past old) owner cpu → errno ≡ errno_of refusal
    → bytes ≡ reply_bytes read.unique (replies.Error errno)
    → IsTold past old mid (read_page (terms_of old) (service_of past old) read own) read.unique bytes
page-refused past old mid read own owner cpu taken refusal errno bytes mounted is_owner is_file asked many is said =
    own-page past old mid read own owner cpu bytes is_owner is_file
    (refused-told past old mid (page_request (terms_of old) (service_of past old) owner cpu)
    (page_given (terms_of old) (service_of past old) read owner cpu) refusal errno read.unique bytes
    (page-asked past old mid owner cpu taken (Err refusal) mounted asked many) refl is said)

-- memory for a read was refused before it was asked
unread : (past : List Request) (old : MountSeen) (scene : SceneSeen) (node : Node) (limit : Option ℕ) → HasLedTo past old
    → IsAsked past old old (read_of scene node limit) (Err Memory)
unread past old scene node limit mounted = record {
  answered = record { reply = λ other. absurd (other refl); takes_none = λ none. absurd none };
  mounted = mounted;
  terms = refl;
  files = refl;
  parked = refl;
  errors = refl;
  counted = refl;
}

-- there was none for the page
pub page-unmade : (past : List Request) (old : MountSeen) (read : Parked) (own : OpenSeen) (owner : Owner) (cpu : ℕ) (bytes : List ℕ) → HasLedTo past old
    → own.owner ≡ owner → own.file ≡ files.RawPipe cpu → bytes ≡ reply_bytes read.unique (replies.Error ENOMEM)
    → IsTold past old old (read_page (terms_of old) (service_of past old) read own) read.unique bytes
page-unmade past old read own owner cpu bytes mounted is_owner is_file said =
    own-page past old old read own owner cpu bytes is_owner is_file
    (refused-told past old old (page_request (terms_of old) (service_of past old) owner cpu)
    (page_given (terms_of old) (service_of past old) read owner cpu) Memory ENOMEM read.unique bytes
    (unread past old (scene_of (terms_of old) (service_of past old)) (nodes.File owner (files.OfCpu cpu per_cpu.TracePipe))
    (Some (next_count (terms_of old) (service_of past old) owner cpu)) mounted)
    refl refl said)

-- ---- READ by the page cache where no record waits

-- no poll was told that a page is there
pub no-page-told : (past : List Request) (old : MountSeen) (read : Parked) (own : OpenSeen) (now : List (Option OpenSeen)) (bytes : List ℕ)
    → HasLedTo past old → own.polls.told_ready ≡ false → now ≡ with_dry_read false read.handle old.files
    → bytes ≡ reply_bytes read.unique (replies.Error EAGAIN)
    → IsTold past old (record old { files = now }) (read_no_page read own old.files) read.unique bytes
no-page-told past old read own now bytes mounted untold is said =
    rw untold (noted-told past old (replies.Error EAGAIN) (with_dry_read false read.handle old.files) now read.unique bytes mounted is said)

-- one was, so it gets a page of none
pub empty-page-told : (past : List Request) (old : MountSeen) (read : Parked) (own : OpenSeen) (page : List ℕ) (now : List (Option OpenSeen))
    (bytes : List ℕ) → HasLedTo past old → own.polls.told_ready ≡ true → page ≡ page_of [] → now ≡ with_dry_read false read.handle old.files
    → bytes ≡ reply_bytes read.unique (replies.Data (part_of 0 read.size page))
    → IsTold past old (record old { files = now }) (read_no_page read own old.files) read.unique bytes
empty-page-told past old read own page now bytes mounted ready none is said =
    rw ready (told-step past old (record old { files = now })
    (taking (replies.Data (part_of 0 read.size (page_of []))) (with_dry_read false read.handle old.files)) read.unique bytes
    (replies.Data (part_of 0 read.size (page_of [])))
    (takes-step past old (replies.Data (part_of 0 read.size (page_of []))) (with_dry_read false read.handle old.files) now mounted is)
    (said ∙ ap (λ (p : List ℕ). reply_bytes read.unique (replies.Data (part_of 0 read.size p))) none))

-- or memory for it was refused
pub empty-page-unmade : (past : List Request) (old : MountSeen) (read : Parked) (own : OpenSeen) (bytes : List ℕ) → HasLedTo past old
    → own.polls.told_ready ≡ true → bytes ≡ reply_bytes read.unique (replies.Error ENOMEM)
    → IsTold past old old (read_no_page read own old.files) read.unique bytes
empty-page-unmade past old read own bytes mounted ready said =
    rw ready (told-step past old old
    (taking (replies.Data (part_of 0 read.size (page_of []))) (with_dry_read false read.handle old.files)) read.unique bytes (replies.Error ENOMEM)
    (memory-step past old _ mounted) said)

-- or read(2) left a part of a page
pub part-left : (past : List Request) (old : MountSeen) (read : Parked) (own : OpenSeen) (flags : ℕ) (rest : List ℕ) (empty : Bool) (bytes : List ℕ)
    → HasLedTo past old → file_at read.handle old.files ≡ Some own → rest ≡ unwrap_or (text_at read.handle old.files) [] → empty ≡ (length rest == 0)
    → empty ≡ false → bytes ≡ reply_bytes read.unique (replies.Error EINVAL)
    → IsTold past old old (read_raw (terms_of old) (service_of past old) read true flags own) read.unique bytes
part-left past old read own flags rest empty bytes mounted there is counted some said =
    let same : unwrap_or (text_at read.handle old.files) [] ≡ unwrap_or own.text [] =
    ap (λ (slot : Option OpenSeen). unwrap_or (option_and_then (λ (file : OpenSeen). file.text) slot) []) there in
    let used : is_used_up own ≡ false = ap (λ (text : List ℕ). length text == 0) (sym (is ∙ same)) ∙ sym counted ∙ some in
    rw used (plain-told past old (replies.Error EINVAL) read.unique bytes mounted said)
