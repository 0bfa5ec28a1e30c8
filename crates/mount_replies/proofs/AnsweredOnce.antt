-- Each read is answered once.
use Rattle.std.proofs.Common.{◌≡◌, inl, inr, ℕ, ◌+◌, ◌==◌, ◌&&◌, nat_lt, Bool, true, false, if◌then◌else◌, is_some, List, [], ◌∷◌, ◌++◌, map, Option, Some, None, Result, Ok, Err, refl, ap, ◌∙◌, arith}
use Rattle.std.specs.List.{remove}
use Rattle.fuse_wire.specs.declared.reply.Reply.{Reply}
use Rattle.fuse_wire.specs.declared.request.Operation.{Operation}
use Rattle.fuse_wire.specs.declared.request.Operation.TheVariants as operations
use Rattle.trace_command.specs.declared.command.Reply.{Reply as Answer}
use Rattle.trace_command.specs.declared.refusal.Refusal.{Refusal}
use Rattle.mount_tree.specs.Children.{is_there}
use Rattle.file_list.specs.FileKinds.{kind_of_file}
use Rattle.file_list.specs.FileTable.{file_index}
use Rattle.file_list.specs.declared.file.FileKind.{FileKind}
use Rattle.file_list.specs.declared.file.FileKind.TheVariants as kinds
use Rattle.mount_tree.specs.declared.node.Node.{Node}
use Rattle.error_log.specs.Logs.{log_text}
use Rattle.mount_stub_files.specs.ToolTexts.{tool_text}
use Rattle.mount_replies.proofs.ShownTurns.{shown-rests}
use Rattle.mount_replies.specs.Calls.{Called, Exchanged, IsTurned, Shows, Turn}
use Rattle.mount_replies.specs.Mounted.{AreServed, Does, IsExchanged, Right, TellsOwed, Unframed, Wrong}
use Rattle.mount_replies.specs.Owed.{Owed, ReplyAt, WakeupAt, owed, step_of_parked}
use Rattle.mount_replies.specs.ParkedLaws.{ReadsAreAnsweredOnce, answered_in, answered_once, asked_in, asked_once, number_answered, number_asked, number_told, numbers_of, read_number, reads_answered, reads_asked, times}
use Rattle.mount_replies.specs.Pipes.{ends, is_dry, is_used_up}
use Rattle.mount_replies.specs.RawPages.{next_page}
use Rattle.mount_replies.specs.Served.{given_counted, given_page, given_text, given_tool, is_cached, is_nonblocking, makes_text, read_dry, read_file, read_kind, read_log, read_new, read_new_page, read_no_page, read_page, read_pages, read_pipe, read_raw, read_shown, read_text, read_tool, read_whole_page, step_of, taken_records, text_counted, unless_counted}
use Rattle.mount_replies.specs.Services.{OpenSeen, Service, Terms, file_at, interrupted_if, node_of, read_of_pipe, scene_of, without_read}
use Rattle.mount_replies.specs.Steps.{Asks, AsksLines, AsksNoting, Counts, Interrupts, Parks, Plain, Step, Takes, Tells}
use Rattle.mount_replies.specs.declared.parked.Parked.{Parked}
use Rattle.mount_replies.proofs.KeptTexts.{either}
use Rattle.mount_replies.proofs.OtherSteps.{IsStill, others-still}
use Rattle.mount_replies.proofs.TimesLemmas.{times-append, times-joined, times-removed}

-- ---- the step of a read: it replies, or parks a read of this number

abbrev pub IsReadStep : ℕ → Step → Type 0
IsReadStep unique (Plain outcome) = is_some outcome.reply ≡ true
IsReadStep unique (Takes outcome) = is_some outcome.reply ≡ true
IsReadStep unique (Asks request outcome) = (answer : Result Answer Refusal) → is_some (outcome answer).reply ≡ true
IsReadStep unique (Parks read) = read.unique ≡ unique
IsReadStep unique _ = ⊥

records-reply : (handle size : ℕ) (open_files : List (Option OpenSeen)) (answer : Result Answer Refusal)
    → is_some (taken_records handle size open_files answer).reply ≡ true
records-reply handle size open_files (Ok answer) = refl
records-reply handle size open_files (Err refusal) = refl

text-reply : (handle offset size : ℕ) (open_files : List (Option OpenSeen)) (answer : Result Answer Refusal)
    → is_some (given_text handle offset size open_files answer).reply ≡ true
text-reply handle offset size open_files (Ok answer) = refl
text-reply handle offset size open_files (Err refusal) = refl

text-step : (g : Terms) (s : Service) (read : Parked) (offset : ℕ) (file : OpenSeen)
    → IsReadStep read.unique (read_text (scene_of g s) read.handle offset read.size file s.files)
text-step g s read offset file =
    either (IsReadStep read.unique) (makes_text offset file) _ _ (text-reply read.handle offset read.size s.files) refl

given-step : (unique handle offset size : ℕ) (open_files : List (Option OpenSeen)) (shown : Option (List ℕ))
    → IsReadStep unique (given_tool handle offset size open_files shown)
given-step unique handle offset size open_files None = refl
given-step unique handle offset size open_files (Some text) = refl

shown-step : (read : Parked) (offset : ℕ) (file : OpenSeen) (open_files : List (Option OpenSeen)) (shown : Option (List ℕ))
    → IsReadStep read.unique (read_shown read.handle offset read.size file open_files shown)
shown-step read offset file open_files shown =
    either (IsReadStep read.unique) (makes_text offset file) _ _ (given-step read.unique read.handle offset read.size open_files shown) refl

given-counted : (unique handle size : ℕ) (open_files : List (Option OpenSeen)) (otherwise : Step) (text : Option (List ℕ)) → IsReadStep unique otherwise
    → IsReadStep unique (given_counted handle size open_files otherwise text)
given-counted unique handle size open_files otherwise None is = is
given-counted unique handle size open_files otherwise (Some text) is = refl

counted-step : (s : Service) (read : Parked) (cached : Bool) (offset : ℕ) (file : OpenSeen) (otherwise : Step) → IsReadStep read.unique otherwise
    → IsReadStep read.unique (unless_counted s read cached offset file otherwise)
counted-step s read cached offset file otherwise is =
    either (IsReadStep read.unique) (cached && offset == 0) _ _
    (given-counted read.unique read.handle read.size s.files otherwise (text_counted file s.counted) is) is

dry-step : (read : Parked) (flags : ℕ) (ended : Bool) (open_files : List (Option OpenSeen)) → IsReadStep read.unique (read_dry read flags ended open_files)
dry-step read flags ended open_files =
    either (IsReadStep read.unique) ended _ _ refl (either (IsReadStep read.unique) (is_nonblocking flags) _ _ refl refl)

new-step : (g : Terms) (s : Service) (read : Parked) (flags : ℕ) (file : OpenSeen) → IsReadStep read.unique (read_new g s read flags file)
new-step g s read flags file =
    either (IsReadStep read.unique) (is_dry g s file.owner file.file) _ _ (dry-step read flags (ends g s file) s.files)
    (records-reply read.handle read.size s.files)

pipe-step : (g : Terms) (s : Service) (read : Parked) (flags : ℕ) (file : OpenSeen) → IsReadStep read.unique (read_pipe g s read flags file)
pipe-step g s read flags file = either (IsReadStep read.unique) (is_used_up file) _ _ (new-step g s read flags file) refl

page-reply : (handle size : ℕ) (page : List ℕ) (open_files : List (Option OpenSeen)) (answer : Result Answer Refusal)
    → is_some (given_page handle size page open_files answer).reply ≡ true
page-reply handle size page open_files (Ok answer) = refl
page-reply handle size page open_files (Err refusal) = refl

page-step : (g : Terms) (s : Service) (read : Parked) (file : OpenSeen) → IsReadStep read.unique (read_page g s read file)
page-step g s read file = page-reply read.handle read.size (next_page g s file.owner (file_index file.file)) s.files

no-page-step : (read : Parked) (file : OpenSeen) (open_files : List (Option OpenSeen)) → IsReadStep read.unique (read_no_page read file open_files)
no-page-step read file open_files = either (IsReadStep read.unique) file.polls.told_ready _ _ refl refl

whole-step : (g : Terms) (s : Service) (read : Parked) (file : OpenSeen) → IsReadStep read.unique (read_whole_page g s read file)
whole-step g s read file =
    either (IsReadStep read.unique) (nat_lt read.size 4096) _ _ refl
    (either (IsReadStep read.unique) (is_dry g s file.owner file.file) _ _ (no-page-step read file s.files) (page-step g s read file))

new-page-step : (g : Terms) (s : Service) (read : Parked) (flags : ℕ) (file : OpenSeen) → IsReadStep read.unique (read_new_page g s read flags file)
new-page-step g s read flags file =
    either (IsReadStep read.unique) (is_dry g s file.owner file.file) _ _ (dry-step read flags (ends g s file) s.files) (page-step g s read file)

pages-step : (g : Terms) (s : Service) (read : Parked) (flags : ℕ) (file : OpenSeen) → IsReadStep read.unique (read_pages g s read flags file)
pages-step g s read flags file = either (IsReadStep read.unique) (is_used_up file) _ _ (new-page-step g s read flags file) refl

raw-step : (g : Terms) (s : Service) (read : Parked) (cached : Bool) (flags : ℕ) (file : OpenSeen)
    → IsReadStep read.unique (read_raw g s read cached flags file)
raw-step g s read cached flags file =
    either (IsReadStep read.unique) cached _ _ (either (IsReadStep read.unique) (is_used_up file) _ _ (whole-step g s read file) refl)
    (pages-step g s read flags file)

kind-step : (g : Terms) (s : Service) (read : Parked) (offset : ℕ) (cached : Bool) (flags : ℕ) (file : OpenSeen) (kind : FileKind)
    → IsReadStep read.unique (read_kind g s read offset cached flags file kind)
kind-step g s read offset cached flags file kinds.Pipe = either (IsReadStep read.unique) cached _ _ refl (pipe-step g s read flags file)
kind-step g s read offset cached flags file kinds.RawPipe = raw-step g s read cached flags file
kind-step g s read offset cached flags file kinds.Inject = refl
kind-step g s read offset cached flags file kinds.Tool =
    counted-step s read cached offset file (read_tool g s read.handle offset read.size file)
    (shown-step read offset file s.files (tool_text g.config s.past file.owner file.file))
kind-step g s read offset cached flags file kinds.ErrorLog =
    counted-step s read cached offset file (read_log s read.handle offset read.size file)
    (shown-step read offset file s.files (Some (log_text file.owner s.errors)))
kind-step g s read offset cached flags file _ =
    counted-step s read cached offset file (read_text (scene_of g s) read.handle offset read.size file s.files) (text-step g s read offset file)

pub read-step : (g : Terms) (s : Service) (read : Parked) (offset : ℕ) (cached : Bool) (flags : ℕ) (slot : Option OpenSeen)
    → IsReadStep read.unique (read_file g s read offset cached flags slot)
read-step g s read offset cached flags None = refl
read-step g s read offset cached flags (Some file) =
    either (IsReadStep read.unique) (is_there (scene_of g s) (node_of file)) _ _
    (kind-step g s read offset cached flags file (kind_of_file file.file)) refl

-- what is told one that was parked is a read's step, too
pub parked-step : (g : Terms) (s : Service) (read : Parked) → IsReadStep read.unique (step_of_parked g s read)
parked-step g s read =
    either (IsReadStep read.unique) read.interrupted _ _ refl (read-step g s read 0 false 0 (file_at read.handle s.files))

-- ---- how often a number is there

interrupted-number : (number : ℕ) (reads : List Parked) → numbers_of (map (interrupted_if number) reads) ≡ numbers_of reads
interrupted-number number [] = refl
interrupted-number number (read ∷ reads) =
    let first : (interrupted_if number read).unique ≡ read.unique = by (read.unique == number) in
    rw first (ap (λ (l : List ℕ). read.unique ∷ l) (interrupted-number number reads))
  where
    by : (t : Bool) → (if t then record read { interrupted = true } else read).unique ≡ read.unique
    by true = refl
    by false = refl

-- of a read
read-times : (g : Terms) (before : Service) (step : Step) (unique u : ℕ) (reply : Option Reply) (after : Service) → IsReadStep unique step
    → Does g before step reply after
    → times u (numbers_of before.parked) + times u (unique ∷ [])
    ≡ times u (if is_some reply then unique ∷ [] else []) + times u (numbers_of after.parked)
read-times g before (Plain outcome) unique u reply after is does =
    let replied : is_some reply ≡ true = ap (λ (r : Option Reply). is_some r) does.0 ∙ is in
    rw (replied, ap (λ (s : Service). s.parked) does.1) (omega arith)
read-times g before (Takes outcome) unique u reply after is (inl does) =
    let replied : is_some reply ≡ true = ap (λ (r : Option Reply). is_some r) does.0 ∙ is in
    rw (replied, ap (λ (s : Service). s.parked) does.1) (omega arith)
read-times g before (Takes outcome) unique u reply after is (inr does) =
    rw (does.0, ap (λ (s : Service). s.parked) does.1) (omega arith)
read-times g before (Asks request outcome) unique u reply after is (answer, answered, told, same) =
    let replied : is_some reply ≡ true = ap (λ (r : Option Reply). is_some r) told ∙ is answer in
    rw (replied, ap (λ (s : Service). s.parked) same) (omega arith)
read-times g before (Parks read) unique u reply after is (inl does) =
    let joined : times u (numbers_of (before.parked ++ read ∷ [])) ≡ times u (numbers_of before.parked) + times u (read.unique ∷ []) =
    times-joined (λ (r : Parked). r.unique) u before.parked (read ∷ []) in
    let named : times u (read.unique ∷ []) ≡ times u (unique ∷ []) = ap (λ (n : ℕ). times u (n ∷ [])) is in
    rw (does.0, ap (λ (s : Service). s.parked) does.1) (omega (arith, joined, named))
read-times g before (Parks read) unique u reply after is (inr does) = rw (does.0, ap (λ (s : Service). s.parked) does.1) (omega arith)
read-times g before _ unique u reply after is does = absurd is

abbrev nothing : List ℕ
nothing = []

nothing-if : (t : Bool) → (if t then nothing else nothing) ≡ nothing
nothing-if true = refl
nothing-if false = refl

-- of another request
other-times : (g : Terms) (before : Service) (step : Step) (u : ℕ) (reply : Option Reply) (after : Service) → IsStill 0 before.files step → Does g before step reply after
    → times u (numbers_of before.parked) + times u [] ≡ times u (if is_some reply then [] else []) + times u (numbers_of after.parked)
other-times g before (Plain outcome) u reply after is does =
    rw (nothing-if (is_some reply), ap (λ (s : Service). s.parked) does.1) (omega arith)
other-times g before (Takes outcome) u reply after is (inl does) =
    rw (nothing-if (is_some reply), ap (λ (s : Service). s.parked) does.1) (omega arith)
other-times g before (Takes outcome) u reply after is (inr does) =
    rw (nothing-if (is_some reply), ap (λ (s : Service). s.parked) does.1) (omega arith)
other-times g before (Asks request outcome) u reply after is (answer, answered, told, same) =
    rw (nothing-if (is_some reply), ap (λ (s : Service). s.parked) same) (omega arith)
other-times g before (Parks read) u reply after is does = absurd is
other-times g before (Interrupts number) u reply after is does =
    rw (nothing-if (is_some reply), ap (λ (s : Service). s.parked) does.1, interrupted-number number before.parked) (omega arith)
other-times g before (AsksNoting request takes outcome noting) u reply after is (answer, answered, told, same) =
    rw (nothing-if (is_some reply), ap (λ (s : Service). s.parked) same) (omega arith)
other-times g before (Tells noting takes outcome) u reply after is (inl does) =
    rw (nothing-if (is_some reply), ap (λ (s : Service). s.parked) does.1) (omega arith)
other-times g before (Tells noting takes outcome) u reply after is (inr (may, told, same)) =
    rw (nothing-if (is_some reply), ap (λ (s : Service). s.parked) same) (omega arith)
other-times g before (AsksLines lines outcome noting) u reply after is (ran, runs, told, same) =
    rw (nothing-if (is_some reply), ap (λ (s : Service). s.parked) same) (omega arith)
other-times g before (Counts count outcome) u reply after is (inl does) =
    rw (nothing-if (is_some reply), ap (λ (s : Service). s.parked) does.1) (omega arith)
other-times g before (Counts count outcome) u reply after is (inr does) =
    rw (nothing-if (is_some reply), ap (λ (s : Service). s.parked) does.1) (omega arith)

request-times : (g : Terms) (before : Service) (unique pid u : ℕ) (target : Option Node) (operation : Operation) (reply : Option Reply) (after : Service)
    → Does g before (step_of g before unique pid target operation) reply after
    → times u (numbers_of before.parked) + times u (read_number unique operation)
    ≡ times u (if is_some reply then read_number unique operation else []) + times u (numbers_of after.parked)
request-times g s unique pid u target (operations.Read handle offset size read_flags flags) reply after does =
    read-times g s (step_of g s unique pid target (operations.Read handle offset size read_flags flags)) unique u reply after
    (read-step g s (read_of_pipe unique handle size) offset (is_cached read_flags) flags (file_at handle s.files)) does
request-times g s unique pid u target operation reply after does =
    other-times g s (step_of g s unique pid target operation) u reply after (others-still 0 g s unique pid target operation refl) does

-- ---- exchanges

-- a step that replied parked nothing
reply-parks-none : (g : Terms) (before : Service) (step : Step) (reply : Reply) (after : Service) → Does g before step (Some reply) after
    → after.parked ≡ before.parked
reply-parks-none g before (Plain outcome) reply after does = ap (λ (s : Service). s.parked) does.1
reply-parks-none g before (Takes outcome) reply after (inl does) = ap (λ (s : Service). s.parked) does.1
reply-parks-none g before (Takes outcome) reply after (inr does) = ap (λ (s : Service). s.parked) does.1
reply-parks-none g before (Asks request outcome) reply after (answer, answered, told, same) = ap (λ (s : Service). s.parked) same
reply-parks-none g before (Parks read) reply after (inl does) = absurd (let no : Some reply ≡ None = does.0 in cc)
reply-parks-none g before (Parks read) reply after (inr does) = ap (λ (s : Service). s.parked) does.1
reply-parks-none g before (Interrupts number) reply after does = absurd (let no : Some reply ≡ None = does.0 in cc)
reply-parks-none g before (AsksNoting request takes outcome noting) reply after (answer, answered, told, same) = ap (λ (s : Service). s.parked) same
reply-parks-none g before (Tells noting takes outcome) reply after (inl does) = ap (λ (s : Service). s.parked) does.1
reply-parks-none g before (Tells noting takes outcome) reply after (inr (may, told, same)) = ap (λ (s : Service). s.parked) same
reply-parks-none g before (AsksLines lines outcome noting) reply after (ran, runs, told, same) = ap (λ (s : Service). s.parked) same
reply-parks-none g before (Counts count outcome) reply after (inl does) = ap (λ (s : Service). s.parked) does.1
reply-parks-none g before (Counts count outcome) reply after (inr does) = ap (λ (s : Service). s.parked) does.1

told-times : (g : Terms) (before : Service) (what : Option Owed) (bytes : List ℕ) (after : Service) (u : ℕ) (told : TellsOwed g before what bytes after)
    → times u (numbers_of before.parked) + times u [] ≡ times u (number_told g before what bytes after told) + times u (numbers_of after.parked)
told-times g before None bytes after u told = absurd told
told-times g before (Some (ReplyAt index)) bytes after u told =
    let left : after.parked ≡ remove before.parked index =
    reply-parks-none g (without_read index before) (step_of_parked g before told.read) told.reply after told.does in
    let taken : times u (numbers_of before.parked) ≡ times u (told.read.unique ∷ []) + times u (numbers_of (remove before.parked index)) =
    times-removed (λ (r : Parked). r.unique) u before.parked index told.read told.is in
    rw left (omega (arith, taken))
told-times g before (Some (WakeupAt handle)) bytes after u told = rw (ap (λ (s : Service). s.parked) told.now) (omega arith)

served-times : (g : Terms) (before : Service) (asked bytes : List ℕ) (after : Service) (u : ℕ) (served : AreServed g before asked bytes after)
    → times u (numbers_of before.parked) + times u (number_asked g before asked bytes after served)
    ≡ times u (number_answered g before asked bytes after served) + times u (numbers_of after.parked)
served-times g before asked bytes after u (Right request is served) =
    request-times g before request.unique request.pid u served.node request.operation served.reply after served.does
served-times g before asked bytes after u (Wrong opcode unique framed none told same) = rw (ap (λ (s : Service). s.parked) same) (omega arith)
served-times g before asked bytes after u (Unframed none told same) = rw (ap (λ (s : Service). s.parked) same) (omega arith)

once : (g : Terms) (before : Service) (asked bytes : List ℕ) (after : Service) (u : ℕ) (one : IsExchanged g before asked bytes after)
    → times u (numbers_of before.parked) + times u (asked_once g before asked bytes after one)
    ≡ times u (answered_once g before asked bytes after one) + times u (numbers_of after.parked)
once g before [] bytes after u told = told-times g before (owed g before) bytes after u told
once g before (byte ∷ asked) bytes after u (quiet, served) = served-times g before (byte ∷ asked) bytes after u served

in-turn : (g : Terms) (before : Service) (turn : Turn) (after : Service) (u : ℕ) (one : IsTurned g before turn after)
    → times u (numbers_of before.parked) + times u (asked_in g before turn after one)
    ≡ times u (answered_in g before turn after one) + times u (numbers_of after.parked)
in-turn g before (Exchanged asked bytes) after u one = once g before asked bytes after u one
in-turn g before (Called limit request answer) after u one = rw (ap (λ (s : Service). s.parked) one.1) (omega arith)
in-turn g before (Shows shown asked bytes) after u one =
    rw (shown-rests g before one.request.unique shown one.request.operation one.reply after one.does).parked (omega arith)

pub reads_are_answered_once : ReadsAreAnsweredOnce
reads_are_answered_once g before [] after same u = rw (ap (λ (s : Service). s.parked) same) (omega arith)
reads_are_answered_once g before (turn ∷ turns) after (next, one, more) u =
    let first : times u (numbers_of before.parked) + times u (asked_in g before turn next one)
    ≡ times u (answered_in g before turn next one) + times u (numbers_of next.parked) = in-turn g before turn next u one in
    let rest : times u (numbers_of next.parked) + times u (reads_asked g next turns after more)
    ≡ times u (reads_answered g next turns after more) + times u (numbers_of after.parked) =
    reads_are_answered_once g next turns after more u in
    omega (
      arith,
      first,
      rest,
      times-append u (asked_in g before turn next one) (reads_asked g next turns after more),
      times-append u (answered_in g before turn next one) (reads_answered g next turns after more),
    )
