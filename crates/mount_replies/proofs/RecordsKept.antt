-- No record is lost, or told twice.
use Rattle.std.proofs.Common.{◌≡◌, inl, inr, ℕ, ◌==◌, ◌&&◌, nat_lt, Bool, true, false, if◌then◌else◌, List, [], ◌∷◌, ◌++◌, length, drop, min, Option, Some, None, unwrap_or, Result, Ok, Err, refl, sym, ap, subst, ◌∙◌, append-nil, arith}
use Rattle.std.proofs.lemmas.Bool.{eqb-true, false≢true}
use Rattle.std.proofs.lemmas.List.{take-append-drop}
use Rattle.std.specs.Option.{option_and_then}
use Rattle.fuse_wire.specs.declared.reply.Reply.{Reply}
use Rattle.fuse_wire.specs.declared.request.Operation.{Operation}
use Rattle.fuse_wire.specs.declared.request.Operation.TheVariants as operations
use Rattle.trace_command.specs.declared.command.Reply.{Reply as Answer}
use Rattle.trace_command.specs.declared.refusal.Refusal.{Refusal}
use Rattle.error_log.specs.Logs.{log_text}
use Rattle.mount_tree.specs.Children.{is_there}
use Rattle.file_list.specs.FileKinds.{kind_of_file}
use Rattle.file_list.specs.declared.file.FileKind.{FileKind}
use Rattle.file_list.specs.declared.file.FileKind.TheVariants as kinds
use Rattle.mount_tree.specs.declared.node.Node.{Node}
use Rattle.mount_stub_files.specs.ToolTexts.{tool_text}
use Rattle.mount_replies.proofs.ShownTurns.{pipe-unwanted, is_pipe, no-pipe-shows}
use Rattle.mount_replies.specs.Calls.{Called, Exchanged, Shows}
use Rattle.mount_replies.specs.Mounted.{AreServed, Does, Right, TellsOwed, Unframed, Wrong}
use Rattle.mount_replies.specs.Owed.{Owed, ReplyAt, WakeupAt, owed, step_of_parked}
use Rattle.mount_replies.specs.ParkedLaws.{NoRecordIsLostOrToldTwice, given_asked, given_by, given_told, is_read_of, kept_for, taken_asked, taken_by, taken_told}
use Rattle.mount_replies.specs.PageTurns.{page_next}
use Rattle.mount_replies.specs.Pipes.{ends, is_dry, is_used_up}
use Rattle.mount_replies.specs.Served.{given_counted, given_page, given_records, given_text, given_tool, goes_on_in, is_cached, is_nonblocking, makes_text, part_of, read_dry, read_file, read_kind, read_log, read_new, read_no_page, read_page, read_pages, read_pipe, read_shown, read_text, read_tool, read_whole_page, step_of, taken_records, text_counted, unless_counted, with_going_on}
use Rattle.mount_replies.specs.Services.{OpenSeen, Service, Terms, after_reading, armed, file_at, is_read_out, most_data, node_of, read_of_pipe, scene_of, text_at, with_dry_read, with_reading, with_records, without_read, without_wakeup}
use Rattle.mount_replies.specs.ShownTexts.{node_shown, shown_step, text_wanted, shows_long_text}
use Rattle.mount_replies.specs.Sizes.{text_in}
use Rattle.mount_replies.specs.Steps.{Asks, AsksLines, AsksNoting, Counts, Interrupts, Parks, Plain, Ran, Step, Takes, Tells}
use Rattle.mount_replies.specs.declared.shown.ShownText.{ShownText}
use Rattle.mount_replies.specs.declared.parked.Parked.{Parked}
use Rattle.mount_replies.proofs.KeptTexts.{IsKept, change-kept, changed-text, either, other-kept, same-kept}
use Rattle.mount_replies.proofs.OtherSteps.{IsStill, others-still}
use Rattle.mount_replies.proofs.WaitLaws.{records-kept}

-- ---- steps that read no file of a handle

abbrev KeepsText : ℕ → List (Option OpenSeen) → Step → Type 0
KeepsText handle files (Plain outcome) = IsKept handle files outcome.files
KeepsText handle files (Takes outcome) = IsKept handle files outcome.files
KeepsText handle files (Asks request outcome) = (answer : Result Answer Refusal) → IsKept handle files (outcome answer).files
KeepsText handle files (Parks read) = Unit {0}
KeepsText handle files (Interrupts number) = Unit {0}
KeepsText handle files (AsksNoting request takes outcome noting) = (answer : Result Answer Refusal) → IsKept handle files (outcome answer).files
KeepsText handle files (Tells noting takes outcome) = IsKept handle files outcome.files
KeepsText handle files (AsksLines lines outcome noting) = (ran : Ran) → IsKept handle files (outcome ran).files
KeepsText handle files (Counts count outcome) = IsKept handle files outcome.files

still-keeps : (handle : ℕ) (files : List (Option OpenSeen)) (step : Step) → IsStill handle files step → KeepsText handle files step
still-keeps handle files (Plain outcome) still = still
still-keeps handle files (Takes outcome) still = still
still-keeps handle files (Asks request outcome) still = still
still-keeps handle files (Parks read) still = absurd still
still-keeps handle files (Interrupts number) still = still
still-keeps handle files (AsksNoting request takes outcome noting) still = still
still-keeps handle files (Tells noting takes outcome) still = still
still-keeps handle files (AsksLines lines outcome noting) still = still
still-keeps handle files (Counts count outcome) still = still

pub files-kept : (handle : ℕ) (before after : Service) (files : List (Option OpenSeen)) → after.files ≡ files → IsKept handle before.files files
    → IsKept handle before.files after.files
files-kept handle before after files is kept = subst (IsKept handle before.files) (sym is) kept

pub does-keeps : (g : Terms) (before : Service) (step : Step) (reply : Option Reply) (after : Service) (handle : ℕ) → KeepsText handle before.files step
    → Does g before step reply after → IsKept handle before.files after.files
does-keeps g before (Plain outcome) reply after handle kept does = files-kept handle before after outcome.files (ap (λ (s : Service). s.files) does.1) kept
does-keeps g before (Takes outcome) reply after handle kept (inl does) = files-kept handle before after outcome.files (ap (λ (s : Service). s.files) does.1) kept
does-keeps g before (Takes outcome) reply after handle kept (inr does) =
    files-kept handle before after before.files (ap (λ (s : Service). s.files) does.1) (same-kept handle before.files)
does-keeps g before (Asks request outcome) reply after handle kept (answer, answered, told, same) =
    files-kept handle before after (outcome answer).files (ap (λ (s : Service). s.files) same) (kept answer)
does-keeps g before (Parks read) reply after handle kept (inl does) =
    files-kept handle before after before.files (ap (λ (s : Service). s.files) does.1) (same-kept handle before.files)
does-keeps g before (Parks read) reply after handle kept (inr does) =
    files-kept handle before after before.files (ap (λ (s : Service). s.files) does.1) (same-kept handle before.files)
does-keeps g before (Interrupts number) reply after handle kept does =
    files-kept handle before after before.files (ap (λ (s : Service). s.files) does.1) (same-kept handle before.files)
does-keeps g before (AsksNoting request takes outcome noting) reply after handle kept (answer, answered, told, same) =
    files-kept handle before after (outcome answer).files (ap (λ (s : Service). s.files) same) (kept answer)
does-keeps g before (Tells noting takes outcome) reply after handle kept (inl does) =
    files-kept handle before after outcome.files (ap (λ (s : Service). s.files) does.1) kept
does-keeps g before (Tells noting takes outcome) reply after handle kept (inr (may, told, same)) =
    files-kept handle before after before.files (ap (λ (s : Service). s.files) same) (same-kept handle before.files)
does-keeps g before (AsksLines lines outcome noting) reply after handle kept (ran, runs, told, same) =
    files-kept handle before after (outcome ran).files (ap (λ (s : Service). s.files) same) (kept ran)
does-keeps g before (Counts count outcome) reply after handle kept (inl does) =
    files-kept handle before after outcome.files (ap (λ (s : Service). s.files) does.1) kept
does-keeps g before (Counts count outcome) reply after handle kept (inr does) =
    files-kept handle before after before.files (ap (λ (s : Service). s.files) does.1) (same-kept handle before.files)

-- ---- reads of another handle

reading-kept : (handle other offset size : ℕ) (text : List ℕ) (files : List (Option OpenSeen)) → (other == handle) ≡ false
    → IsKept handle files (with_reading offset size text other files)
reading-kept handle other offset size text files apart = other-kept (after_reading offset size text) handle other files apart

records-left : (handle other : ℕ) (text : List ℕ) (files : List (Option OpenSeen)) → (other == handle) ≡ false → IsKept handle files (with_records text other files)
records-left handle other text files apart =
    other-kept (λ (file : OpenSeen). record file { text = Some text; has_read = true; polls = armed false file.polls }) handle other files apart

dry-kept : (handle : ℕ) (has_ended : Bool) (other : ℕ) (files : List (Option OpenSeen)) → IsKept handle files (with_dry_read has_ended other files)
dry-kept handle has_ended other files =
    change-kept (λ (file : OpenSeen). record file { polls = armed has_ended file.polls }) (λ file. refl) handle other files

given-kept : (handle other offset size : ℕ) (files : List (Option OpenSeen)) → (other == handle) ≡ false → (answer : Result Answer Refusal)
    → IsKept handle files (given_text other offset size files answer).files
given-kept handle other offset size files apart (Ok answer) = reading-kept handle other offset size (text_in answer) files apart
given-kept handle other offset size files apart (Err refusal) = same-kept handle files

taken-kept : (handle other size : ℕ) (files : List (Option OpenSeen)) → (other == handle) ≡ false → (answer : Result Answer Refusal)
    → IsKept handle files (taken_records other size files answer).files
taken-kept handle other size files apart (Ok answer) = records-left handle other (drop (min size most_data) (text_in answer)) files apart
taken-kept handle other size files apart (Err refusal) = same-kept handle files

going-on-kept : (handle other offset size : ℕ) (text : Option (List ℕ)) (files : List (Option OpenSeen)) → (other == handle) ≡ false
    → IsKept handle files (with_going_on offset size text other files)
going-on-kept handle other offset size None files apart = same-kept handle files
going-on-kept handle other offset size (Some text) files apart =
    either (IsKept handle files) (is_read_out offset size text) (with_reading offset size text other files) files
    (reading-kept handle other offset size text files apart) (same-kept handle files)

goes-on-keeps : (handle other offset size : ℕ) (file : OpenSeen) (files : List (Option OpenSeen)) → (other == handle) ≡ false
    → KeepsText handle files (goes_on_in other offset size file files)
goes-on-keeps handle other offset size file files apart = going-on-kept handle other offset size file.text files apart

text-keeps : (handle : ℕ) (g : Terms) (s : Service) (read : Parked) (offset : ℕ) (file : OpenSeen) → (read.handle == handle) ≡ false
    → KeepsText handle s.files (read_text (scene_of g s) read.handle offset read.size file s.files)
text-keeps handle g s read offset file apart =
    either (KeepsText handle s.files) (makes_text offset file) _ _ (given-kept handle read.handle offset read.size s.files apart)
    (goes-on-keeps handle read.handle offset read.size file s.files apart)

given-keeps : (handle other offset size : ℕ) (open_files : List (Option OpenSeen)) (shown : Option (List ℕ)) → (other == handle) ≡ false
    → KeepsText handle open_files (given_tool other offset size open_files shown)
given-keeps handle other offset size open_files None apart = same-kept handle open_files
given-keeps handle other offset size open_files (Some text) apart = reading-kept handle other offset size text open_files apart

shown-keeps : (handle : ℕ) (read : Parked) (offset : ℕ) (file : OpenSeen) (files : List (Option OpenSeen)) (shown : Option (List ℕ))
    → (read.handle == handle) ≡ false → KeepsText handle files (read_shown read.handle offset read.size file files shown)
shown-keeps handle read offset file files shown apart =
    either (KeepsText handle files) (makes_text offset file) _ _ (given-keeps handle read.handle offset read.size files shown apart)
    (goes-on-keeps handle read.handle offset read.size file files apart)

counted-text : (handle other size : ℕ) (files : List (Option OpenSeen)) (otherwise : Step) (text : Option (List ℕ)) → (other == handle) ≡ false
    → KeepsText handle files otherwise → KeepsText handle files (given_counted other size files otherwise text)
counted-text handle other size files otherwise None apart keeps = keeps
counted-text handle other size files otherwise (Some text) apart keeps = reading-kept handle other 0 size text files apart

counted-keeps : (handle : ℕ) (s : Service) (read : Parked) (cached : Bool) (offset : ℕ) (file : OpenSeen) (otherwise : Step)
    → (read.handle == handle) ≡ false → KeepsText handle s.files otherwise → KeepsText handle s.files (unless_counted s read cached offset file otherwise)
counted-keeps handle s read cached offset file otherwise apart keeps =
    either (KeepsText handle s.files) (cached && offset == 0) _ _
    (counted-text handle read.handle read.size s.files otherwise (text_counted file s.counted) apart keeps) keeps

dry-keeps : (handle : ℕ) (read : Parked) (flags : ℕ) (has_ended : Bool) (files : List (Option OpenSeen))
    → KeepsText handle files (read_dry read flags has_ended files)
dry-keeps handle read flags has_ended files =
    either (KeepsText handle files) has_ended _ _ (dry-kept handle true read.handle files)
    (either (KeepsText handle files) (is_nonblocking flags) _ _ (dry-kept handle false read.handle files) tt)

new-keeps : (handle : ℕ) (g : Terms) (s : Service) (read : Parked) (flags : ℕ) (file : OpenSeen) → (read.handle == handle) ≡ false
    → KeepsText handle s.files (read_new g s read flags file)
new-keeps handle g s read flags file apart =
    either (KeepsText handle s.files) (is_dry g s file.owner file.file) _ _ (dry-keeps handle read flags (ends g s file) s.files)
    (taken-kept handle read.handle read.size s.files apart)

piped-keeps : (handle : ℕ) (g : Terms) (s : Service) (read : Parked) (flags : ℕ) (file : OpenSeen) → (read.handle == handle) ≡ false
    → KeepsText handle s.files (read_pipe g s read flags file)
piped-keeps handle g s read flags file apart =
    either (KeepsText handle s.files) (is_used_up file) _ _ (new-keeps handle g s read flags file apart)
    (records-left handle read.handle (drop (min read.size most_data) (unwrap_or file.text [])) s.files apart)

page-kept : (handle other size : ℕ) (page : List ℕ) (files : List (Option OpenSeen)) → (other == handle) ≡ false → (answer : Result Answer Refusal)
    → IsKept handle files (given_page other size page files answer).files
page-kept handle other size page files apart (Ok answer) = records-left handle other (drop (min size most_data) page) files apart
page-kept handle other size page files apart (Err refusal) = same-kept handle files

page-keeps : (handle : ℕ) (g : Terms) (s : Service) (read : Parked) (file : OpenSeen) → (read.handle == handle) ≡ false
    → KeepsText handle s.files (read_page g s read file)
page-keeps handle g s read file apart = page-kept handle read.handle read.size (page_next g s file) s.files apart

no-page-keeps : (handle : ℕ) (read : Parked) (file : OpenSeen) (files : List (Option OpenSeen)) → KeepsText handle files (read_no_page read file files)
no-page-keeps handle read file files =
    either (KeepsText handle files) file.polls.told_ready _ _ (dry-kept handle false read.handle files) (dry-kept handle false read.handle files)

whole-keeps : (handle : ℕ) (g : Terms) (s : Service) (read : Parked) (file : OpenSeen) → (read.handle == handle) ≡ false
    → KeepsText handle s.files (read_whole_page g s read file)
whole-keeps handle g s read file apart =
    either (KeepsText handle s.files) (nat_lt read.size 4096) _ _ (same-kept handle s.files)
    (either (KeepsText handle s.files) (is_dry g s file.owner file.file) _ _ (no-page-keeps handle read file s.files) (page-keeps handle g s read file apart))

pages-keep : (handle : ℕ) (g : Terms) (s : Service) (read : Parked) (flags : ℕ) (file : OpenSeen) → (read.handle == handle) ≡ false
    → KeepsText handle s.files (read_pages g s read flags file)
pages-keep handle g s read flags file apart =
    either (KeepsText handle s.files) (is_used_up file) _ _
    (either (KeepsText handle s.files) (is_dry g s file.owner file.file) _ _ (dry-keeps handle read flags (ends g s file) s.files)
    (page-keeps handle g s read file apart))
    (records-left handle read.handle (drop (min read.size most_data) (unwrap_or file.text [])) s.files apart)

kind-keeps : (handle : ℕ) (g : Terms) (s : Service) (read : Parked) (offset : ℕ) (cached : Bool) (flags : ℕ) → (read.handle == handle) ≡ false
    → (file : OpenSeen) (kind : FileKind) → KeepsText handle s.files (read_kind g s read offset cached flags file kind)
kind-keeps handle g s read offset cached flags apart file kinds.Pipe =
    either (KeepsText handle s.files) cached _ _ (same-kept handle s.files) (piped-keeps handle g s read flags file apart)
kind-keeps handle g s read offset cached flags apart file kinds.RawPipe =
    either (KeepsText handle s.files) cached _ _
    (either (KeepsText handle s.files) (is_used_up file) _ _ (whole-keeps handle g s read file apart) (same-kept handle s.files))
    (pages-keep handle g s read flags file apart)
kind-keeps handle g s read offset cached flags apart file kinds.Inject = same-kept handle s.files
kind-keeps handle g s read offset cached flags apart file kinds.Tool =
    counted-keeps handle s read cached offset file (read_tool g s read.handle offset read.size file) apart
    (shown-keeps handle read offset file s.files (tool_text g.config s.past file.owner file.file) apart)
kind-keeps handle g s read offset cached flags apart file kinds.ErrorLog =
    counted-keeps handle s read cached offset file (read_log s read.handle offset read.size file) apart
    (shown-keeps handle read offset file s.files (Some (log_text file.owner s.errors)) apart)
kind-keeps handle g s read offset cached flags apart file _ =
    counted-keeps handle s read cached offset file (read_text (scene_of g s) read.handle offset read.size file s.files) apart
    (text-keeps handle g s read offset file apart)

read-keeps : (handle : ℕ) (g : Terms) (s : Service) (read : Parked) (offset : ℕ) (cached : Bool) (flags : ℕ) → (read.handle == handle) ≡ false
    → (slot : Option OpenSeen) → KeepsText handle s.files (read_file g s read offset cached flags slot)
read-keeps handle g s read offset cached flags apart None = same-kept handle s.files
read-keeps handle g s read offset cached flags apart (Some file) =
    either (KeepsText handle s.files) (is_there (scene_of g s) (node_of file)) _ _
    (kind-keeps handle g s read offset cached flags apart file (kind_of_file file.file)) (same-kept handle s.files)

pub step-keeps : (handle : ℕ) (g : Terms) (s : Service) (unique pid : ℕ) (target : Option Node) (operation : Operation) → is_read_of handle operation ≡ false
    → KeepsText handle s.files (step_of g s unique pid target operation)
step-keeps handle g s unique pid target (operations.Read other offset size read_flags flags) apart =
    read-keeps handle g s (read_of_pipe unique other size) offset (is_cached read_flags) flags apart (file_at other s.files)
step-keeps handle g s unique pid target operation apart =
    still-keeps handle s.files (step_of g s unique pid target operation) (others-still handle g s unique pid target operation refl)

-- ---- reads of a handle's pipe

abbrev pub kept-in : ℕ → List (Option OpenSeen) → List ℕ
kept-in handle files = unwrap_or (text_at handle files) []

abbrev pub IsEven : ℕ → List (Option OpenSeen) → List (Option OpenSeen) → List ℕ → List ℕ → Type 0
IsEven handle files now taken given = kept-in handle files ++ taken ≡ given ++ kept-in handle now

pub append-none : (xs : List ℕ) → xs ++ [] ≡ xs
append-none [] = refl
append-none (x ∷ xs) = ap (λ (l : List ℕ). x ∷ l) (append-none xs)

pub nothing-even : (handle : ℕ) (files now : List (Option OpenSeen)) → text_at handle now ≡ text_at handle files → IsEven handle files now [] []
nothing-even handle files now same = append-none (kept-in handle files) ∙ ap (λ (t : Option (List ℕ)). unwrap_or t []) (sym same)

abbrev EvenStep : ℕ → List (Option OpenSeen) → Step → Type 0
EvenStep handle files (Plain outcome) = IsEven handle files outcome.files [] (given_by outcome.reply)
EvenStep handle files (Asks request outcome) =
    ((answer : Answer) → IsEven handle files (outcome (Ok answer)).files (text_in answer) (given_by (outcome (Ok answer)).reply))
    × ((refusal : Refusal) → IsEven handle files (outcome (Err refusal)).files [] (given_by (outcome (Err refusal)).reply))
EvenStep handle files (Parks read) = Unit {0}
EvenStep handle files _ = ⊥

pub to-even : (handle : ℕ) (files now after : List (Option OpenSeen)) (taken : List ℕ) (reply said : Option Reply) → after ≡ now → said ≡ reply
    → IsEven handle files now taken (given_by reply) → IsEven handle files after taken (given_by said)
to-even handle files now after taken reply said is told even =
    even ∙ ap (λ (r : Option Reply). given_by r ++ kept-in handle now) (sym told) ∙ ap (λ (f : List (Option OpenSeen)). given_by said ++ kept-in handle f) (sym is)

does-even : (g : Terms) (before : Service) (step : Step) (reply : Option Reply) (after : Service) (handle : ℕ) (does : Does g before step reply after)
    → EvenStep handle before.files step → IsEven handle before.files after.files (taken_by g before step reply after does) (given_by reply)
does-even g before (Plain outcome) reply after handle does even =
    to-even handle before.files outcome.files after.files [] outcome.reply reply (ap (λ (s : Service). s.files) does.1) does.0 even
does-even g before (Asks request outcome) reply after handle (Ok answer, answered, told, same) even =
    to-even handle before.files (outcome (Ok answer)).files after.files (text_in answer) (outcome (Ok answer)).reply reply (ap (λ (s : Service). s.files) same) told (even.0 answer)
does-even g before (Asks request outcome) reply after handle (Err refusal, answered, told, same) even =
    to-even handle before.files (outcome (Err refusal)).files after.files [] (outcome (Err refusal)).reply reply (ap (λ (s : Service). s.files) same) told (even.1 refusal)
does-even g before (Parks read) reply after handle (inl does) even =
    to-even handle before.files before.files after.files [] None reply (ap (λ (s : Service). s.files) does.1) does.0 (nothing-even handle before.files before.files refl)
does-even g before (Parks read) reply after handle (inr does) even =
    to-even handle before.files before.files after.files [] _ reply (ap (λ (s : Service). s.files) does.1) does.0 (nothing-even handle before.files before.files refl)
does-even g before _ reply after handle does even = absurd even

-- what was kept or taken is given, and the rest kept
pub records-even : (handle size : ℕ) (text : List ℕ) (files : List (Option OpenSeen)) (file : OpenSeen) → file_at handle files ≡ Some file
    → text ≡ part_of 0 size text ++ kept-in handle (with_records (drop (min size most_data) text) handle files)
records-even handle size text files file there =
    sym (take-append-drop (min size most_data) text)
    ∙ ap (λ (t : Option (List ℕ)). part_of 0 size text ++ unwrap_or t []) (sym (records-kept files handle (drop (min size most_data) text) file there))

pub none-left : (text : List ℕ) → (length text == 0) ≡ true → text ≡ []
none-left [] e = refl
none-left (x ∷ text) e = let same : length (x ∷ text) ≡ 0 = eqb-true (length (x ∷ text)) 0 e in absurd (omega (arith, same))

pub text-is : (handle : ℕ) (files : List (Option OpenSeen)) (file : OpenSeen) → file_at handle files ≡ Some file → kept-in handle files ≡ unwrap_or file.text []
text-is handle files file there = ap (λ (slot : Option OpenSeen). unwrap_or (option_and_then (λ (file : OpenSeen). file.text) slot) []) there

records-step : (handle size : ℕ) (files : List (Option OpenSeen)) (file : OpenSeen) → file_at handle files ≡ Some file → kept-in handle files ≡ []
    → (answer : Answer) → IsEven handle files (taken_records handle size files (Ok answer)).files (text_in answer) (part_of 0 size (text_in answer))
records-step handle size files file there none answer =
    ap (λ (t : List ℕ). t ++ text_in answer) none ∙ records-even handle size (text_in answer) files file there

pub dry-left : (has_ended : Bool) (handle : ℕ) (files : List (Option OpenSeen)) → IsEven handle files (with_dry_read has_ended handle files) [] []
dry-left has_ended handle files =
    nothing-even handle files (with_dry_read has_ended handle files)
    (changed-text (λ (file : OpenSeen). record file { polls = armed has_ended file.polls }) (λ file. refl) files handle handle)

pub same-even : (handle : ℕ) (files : List (Option OpenSeen)) → IsEven handle files files [] []
same-even handle files = nothing-even handle files files refl

dry-even : (read : Parked) (flags : ℕ) (has_ended : Bool) (files : List (Option OpenSeen)) → EvenStep read.handle files (read_dry read flags has_ended files)
dry-even read flags has_ended files =
    either (EvenStep read.handle files) has_ended _ _ (dry-left true read.handle files)
    (either (EvenStep read.handle files) (is_nonblocking flags) _ _ (dry-left false read.handle files) tt)

new-even : (g : Terms) (s : Service) (read : Parked) (flags : ℕ) (file : OpenSeen) → file_at read.handle s.files ≡ Some file → is_used_up file ≡ true
    → EvenStep read.handle s.files (read_new g s read flags file)
new-even g s read flags file there used =
    either (EvenStep read.handle s.files) (is_dry g s file.owner file.file) _ _ (dry-even read flags (ends g s file) s.files) (
      records-step read.handle read.size s.files file there (text-is read.handle s.files file there ∙ none-left (unwrap_or file.text []) used),
      λ refusal. same-even read.handle s.files,
    )

pipe-even : (g : Terms) (s : Service) (read : Parked) (flags : ℕ) (file : OpenSeen) → file_at read.handle s.files ≡ Some file
    → EvenStep read.handle s.files (read_pipe g s read flags file)
pipe-even g s read flags file there = by (is_used_up file) refl
  where
    by : (used : Bool) → is_used_up file ≡ used → EvenStep read.handle s.files (if used then read_new g s read flags file
        else Plain (given_records read.handle read.size (unwrap_or file.text []) s.files))
    by false e =
        append-none (kept-in read.handle s.files) ∙ text-is read.handle s.files file there
        ∙ records-even read.handle read.size (unwrap_or file.text []) s.files file there
    by true e = new-even g s read flags file there e

kind-even : (g : Terms) (s : Service) (read : Parked) (offset : ℕ) (cached : Bool) (flags : ℕ) (file : OpenSeen) (kind : FileKind) → kind ≡ kinds.Pipe
    → file_at read.handle s.files ≡ Some file → EvenStep read.handle s.files (read_kind g s read offset cached flags file kind)
kind-even g s read offset cached flags file kind pipe there =
    subst (λ (k : FileKind). EvenStep read.handle s.files (read_kind g s read offset cached flags file k)) (sym pipe)
    (either (EvenStep read.handle s.files) cached _ _ (same-even read.handle s.files) (pipe-even g s read flags file there))

read-even : (g : Terms) (s : Service) (read : Parked) (offset : ℕ) (cached : Bool) (flags : ℕ) (file : OpenSeen) → kind_of_file file.file ≡ kinds.Pipe
    → file_at read.handle s.files ≡ Some file → EvenStep read.handle s.files (read_file g s read offset cached flags (file_at read.handle s.files))
read-even g s read offset cached flags file pipe there =
    subst (λ (slot : Option OpenSeen). EvenStep read.handle s.files (read_file g s read offset cached flags slot)) (sym there)
    (either (EvenStep read.handle s.files) (is_there (scene_of g s) (node_of file)) _ _
    (kind-even g s read offset cached flags file (kind_of_file file.file) pipe there) (same-even read.handle s.files))

parked-even : (g : Terms) (s : Service) (read : Parked) (file : OpenSeen) → kind_of_file file.file ≡ kinds.Pipe → file_at read.handle s.files ≡ Some file
    → EvenStep read.handle s.files (step_of_parked g s read)
parked-even g s read file pipe there =
    either (EvenStep read.handle s.files) read.interrupted _ _ (dry-left false read.handle s.files) (read-even g s read 0 false 0 file pipe there)

pub parked-keeps : (handle : ℕ) (g : Terms) (s : Service) (read : Parked) → (read.handle == handle) ≡ false → KeepsText handle s.files (step_of_parked g s read)
parked-keeps handle g s read apart =
    either (KeepsText handle s.files) read.interrupted _ _ (dry-kept handle false read.handle s.files)
    (read-keeps handle g s read 0 false 0 apart (file_at read.handle s.files))

-- ---- exchanges

even-read : (handle : ℕ) (g : Terms) (s : Service) (unique pid : ℕ) (target : Option Node) (operation : Operation) (file : OpenSeen)
    → is_read_of handle operation ≡ true → kind_of_file file.file ≡ kinds.Pipe → file_at handle s.files ≡ Some file
    → EvenStep handle s.files (step_of g s unique pid target operation)
even-read handle g s unique pid target (operations.Read other offset size read_flags flags) file is pipe there =
    subst (λ (h : ℕ). EvenStep h s.files (read_file g s (read_of_pipe unique other size) offset (is_cached read_flags) flags (file_at other s.files)))
    (eqb-true other handle is)
    (read-even g s (read_of_pipe unique other size) offset (is_cached read_flags) flags file pipe (ap (λ (h : ℕ). file_at h s.files) (eqb-true other handle is) ∙ there))
even-read handle g s unique pid target _ file is pipe there = absurd (false≢true is)

pub wakeup-kept : (handle other : ℕ) (files : List (Option OpenSeen)) → IsKept handle files (without_wakeup other files)
wakeup-kept handle other files =
    change-kept (λ (file : OpenSeen). record file { polls = record file.polls { wakeup = None } }) (λ file. refl) handle other files

told-even : (handle : ℕ) (g : Terms) (before : Service) (what : Option Owed) (bytes : List ℕ) (after : Service) (told : TellsOwed g before what bytes after)
    (old new : OpenSeen) → file_at handle before.files ≡ Some old → kind_of_file old.file ≡ kinds.Pipe → file_at handle after.files ≡ Some new
    → IsEven handle before.files after.files (taken_told handle g before what bytes after told) (given_told handle g before what bytes after told)
told-even handle g before None bytes after told old new was pipe is = absurd told
told-even handle g before (Some (ReplyAt index)) bytes after told old new was pipe is = by (told.read.handle == handle) refl
  where
    by : (t : Bool) → (told.read.handle == handle) ≡ t → IsEven handle before.files after.files
        (if t then taken_by g (without_read index before) (step_of_parked g before told.read) (Some told.reply) after told.does else [])
        (if t then given_by (Some told.reply) else [])
    by true e =
        does-even g (without_read index before) (step_of_parked g before told.read) (Some told.reply) after handle told.does
        (subst (λ (h : ℕ). EvenStep h before.files (step_of_parked g before told.read)) (eqb-true told.read.handle handle e)
        (parked-even g before told.read old pipe (ap (λ (h : ℕ). file_at h before.files) (eqb-true told.read.handle handle e) ∙ was)))
    by false e =
        nothing-even handle before.files after.files
        (does-keeps g (without_read index before) (step_of_parked g before told.read) (Some told.reply) after handle (parked-keeps handle g before told.read e) told.does
        old new was is)
told-even handle g before (Some (WakeupAt other)) bytes after told old new was pipe is =
    nothing-even handle before.files after.files
    (files-kept handle before after (without_wakeup other before.files) (ap (λ (s : Service). s.files) told.now) (wakeup-kept handle other before.files) old new was is)

asked-even : (handle : ℕ) (g : Terms) (before : Service) (asked bytes : List ℕ) (after : Service) (served : AreServed g before asked bytes after)
    (old new : OpenSeen) → file_at handle before.files ≡ Some old → kind_of_file old.file ≡ kinds.Pipe → file_at handle after.files ≡ Some new
    → IsEven handle before.files after.files (taken_asked handle g before asked bytes after served) (given_asked handle g before asked bytes after served)
asked-even handle g before asked bytes after (Right request framed served) old new was pipe is = by (is_read_of handle request.operation) refl
  where
    by : (t : Bool) → is_read_of handle request.operation ≡ t → IsEven handle before.files after.files
        (if t then taken_by g before (step_of g before request.unique request.pid served.node request.operation) served.reply after served.does else [])
        (if t then given_by served.reply else [])
    by true e =
        does-even g before (step_of g before request.unique request.pid served.node request.operation) served.reply after handle served.does
        (even-read handle g before request.unique request.pid served.node request.operation old e pipe was)
    by false e =
        nothing-even handle before.files after.files
        (does-keeps g before (step_of g before request.unique request.pid served.node request.operation) served.reply after handle
        (step-keeps handle g before request.unique request.pid served.node request.operation e) served.does old new was is)
asked-even handle g before asked bytes after (Wrong opcode unique framed none told same) old new was pipe is =
    nothing-even handle before.files after.files (ap (λ (s : Service). text_at handle s.files) same)
asked-even handle g before asked bytes after (Unframed none told same) old new was pipe is =
    nothing-even handle before.files after.files (ap (λ (s : Service). text_at handle s.files) same)

-- what a trace shows is given to no pipe
pub shown-step-keeps : (handle : ℕ) (g : Terms) (s : Service) (unique : ℕ) (target : Option Node) (shown : ShownText) (operation : Operation) (old : OpenSeen)
    → file_at handle s.files ≡ Some old → (shows_long_text old.file ≡ true → ⊥) → text_wanted (scene_of g s) s.files target operation ≡ Some (node_shown shown)
    → KeepsText handle s.files (shown_step g s unique shown operation)
shown-step-keeps handle g s unique target shown (operations.Lookup name) old was no-trace wanted = same-kept handle s.files
shown-step-keeps handle g s unique target shown (operations.Read other offset size read_flags flags) old was no-trace wanted = by (other == handle) refl
  where
    by : (t : Bool) → (other == handle) ≡ t → KeepsText handle s.files (shown_step g s unique shown (operations.Read other offset size read_flags flags))
    by false e = reading-kept handle other 0 size shown.text s.files e
    by true e =
        absurd (pipe-unwanted (scene_of g s) s.files target other offset size read_flags flags old (node_shown shown)
        (ap (λ (h : ℕ). file_at h s.files) (eqb-true other handle e) ∙ was) no-trace wanted)
shown-step-keeps handle g s unique target shown _ old was no-trace wanted = same-kept handle s.files

pub no_record_is_lost_or_told_twice : NoRecordIsLostOrToldTwice
no_record_is_lost_or_told_twice g before (Exchanged [] bytes) after told handle old new was pipe is =
    told-even handle g before (owed g before) bytes after told old new was pipe is
no_record_is_lost_or_told_twice g before (Exchanged (byte ∷ asked) bytes) after (quiet, served) handle old new was pipe is =
    asked-even handle g before (byte ∷ asked) bytes after served old new was pipe is
no_record_is_lost_or_told_twice g before (Called limit request answer) after one handle old new was pipe is =
    append-nil (kept_for handle before) ∙ ap (λ (s : Service). kept_for handle s) (sym one.1)
no_record_is_lost_or_told_twice g before (Shows shown asked bytes) after one handle old new was pipe is =
    nothing-even handle before.files after.files
    (does-keeps g before (shown_step g before one.request.unique shown one.request.operation) one.reply after handle
    (shown-step-keeps handle g before one.request.unique one.node shown one.request.operation old was
    (no-pipe-shows old.file (ap is_pipe pipe)) one.wanted) one.does old new was is)
