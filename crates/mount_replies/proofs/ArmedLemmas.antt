-- A READ of a pipe that a poll asked to be told of, and was told something, has it told again.
use Rattle.std.proofs.Common.{◌≡◌, inl, inr, ℕ, zero, suc, nat_lt, Bool, true, false, List, [], ◌∷◌, drop, min, Option, Some, None, unwrap_or, Result, Ok, Err, refl, sym, ap, subst, ◌∙◌}
use Rattle.std.specs.Option.{option_map}
use Rattle.fuse_wire.specs.declared.errno.Errno.{Errno}
use Rattle.fuse_wire.specs.declared.errno.Errno.TheVariants.{EINVAL, ENOENT}
use Rattle.fuse_wire.specs.declared.reply.Reply.{Reply}
use Rattle.fuse_wire.specs.declared.reply.Reply.TheVariants as replies
use Rattle.fuse_wire.specs.declared.request.Operation.{Operation}
use Rattle.trace_command.specs.declared.command.Reply.{Reply as Answer}
use Rattle.trace_command.specs.declared.refusal.Refusal.{Refusal}
use Rattle.trace_command.specs.declared.refusal.Refusal.TheVariants.{NoSuchFile}
use Rattle.mount_tree.specs.Children.{is_there}
use Rattle.file_list.specs.FileKinds.{kind_of_file}
use Rattle.file_list.specs.FileTable.{file_index}
use Rattle.file_list.specs.declared.file.FileKind.{FileKind}
use Rattle.file_list.specs.declared.file.FileKind.TheVariants as kinds
use Rattle.mount_replies.specs.Errnos.{errno_of}
use Rattle.mount_replies.specs.Mounted.{Does}
use Rattle.mount_replies.specs.ParkedLaws.{IsConsumed, IsTold, ParkedReadsArmPolls, ReadsArmPolls}
use Rattle.mount_replies.specs.Owed.{step_of_parked}
use Rattle.mount_replies.specs.Pipes.{ends, is_dry, is_used_up}
use Rattle.mount_replies.specs.RawPages.{next_page}
use Rattle.mount_replies.specs.Served.{given_page, is_cached, is_nonblocking, read_dry, read_file, read_kind, read_new, read_new_page, read_no_page, read_page, read_pages, read_pipe, read_whole_page, step_of, taken_records}
use Rattle.mount_replies.specs.Services.{OpenSeen, Service, Terms, armed, file_at, most_data, node_of, read_of_pipe, scene_of, with_change, with_dry_read, with_records, without_read}
use Rattle.mount_replies.specs.Sizes.{text_in}
use Rattle.mount_replies.specs.Steps.{Asks, Outcome, Parks, Plain, Step, Takes, failed}
use Rattle.mount_replies.specs.declared.parked.Parked.{Parked}
use Rattle.mount_replies.proofs.KeptTexts.{either}

-- ---- open files whose poll is to be told

abbrev IsArmed : ℕ → ℕ → List (Option OpenSeen) → Type 0
IsArmed handle number files = (new : OpenSeen) → file_at handle files ≡ Some new → new.polls.wakeup ≡ Some number

changed-at : (change : OpenSeen → OpenSeen) (files : List (Option OpenSeen)) (handle : ℕ) (old : OpenSeen) → file_at handle files ≡ Some old
    → file_at handle (with_change change handle files) ≡ Some (change old)
changed-at change [] zero old was = absurd (let no : None ≡ Some old = was in cc)
changed-at change [] (suc handle) old was = absurd (let no : None ≡ Some old = was in cc)
changed-at change (first ∷ files) zero old was = ap (λ (slot : Option OpenSeen). option_map change slot) was
changed-at change (first ∷ files) (suc handle) old was = changed-at change files handle old was

abbrev wakeup-in : Option OpenSeen → Option ℕ
wakeup-in None = None
wakeup-in (Some file) = file.polls.wakeup

-- a change after which a poll that ever asked is to be told
change-arms : (change : OpenSeen → OpenSeen) → ((file : OpenSeen) → (change file).polls.wakeup ≡ file.polls.asked) → (files : List (Option OpenSeen))
    (handle number : ℕ) (old : OpenSeen) → file_at handle files ≡ Some old → old.polls.asked ≡ Some number
    → IsArmed handle number (with_change change handle files)
change-arms change arms files handle number old was asked new is =
    sym (ap wakeup-in (sym (changed-at change files handle old was) ∙ is)) ∙ arms old ∙ asked

-- ---- steps

abbrev ArmsIfTold : ℕ → ℕ → Outcome → Type 0
ArmsIfTold handle number outcome = IsTold outcome.reply → IsArmed handle number outcome.files

abbrev ArmsStep : ℕ → ℕ → Step → Type 0
ArmsStep handle number (Plain outcome) = ArmsIfTold handle number outcome
ArmsStep handle number (Takes outcome) = ArmsIfTold handle number outcome
ArmsStep handle number (Asks request outcome) = (answer : Result Answer Refusal) → ArmsIfTold handle number (outcome answer)
ArmsStep handle number (Parks read) = Unit {0}
ArmsStep handle number _ = ⊥

armed-after : (handle number : ℕ) (outcome : Outcome) (reply : Option Reply) (after : List (Option OpenSeen)) → ArmsIfTold handle number outcome
    → reply ≡ outcome.reply → after ≡ outcome.files → IsTold reply → IsArmed handle number after
armed-after handle number outcome reply after arms replied is told = subst (IsArmed handle number) (sym is) (arms (subst IsTold replied told))

does-arms : (g : Terms) (before : Service) (step : Step) (reply : Option Reply) (after : Service) (handle number : ℕ) → ArmsStep handle number step
    → Does g before step reply after → IsTold reply → IsArmed handle number after.files
does-arms g before (Plain outcome) reply after handle number arms does told =
    armed-after handle number outcome reply after.files arms does.0 (ap (λ (s : Service). s.files) does.1) told
does-arms g before (Takes outcome) reply after handle number arms (inl does) told =
    armed-after handle number outcome reply after.files arms does.0 (ap (λ (s : Service). s.files) does.1) told
does-arms g before (Takes outcome) reply after handle number arms (inr does) told = absurd (subst IsTold does.0 told)
does-arms g before (Asks request outcome) reply after handle number arms (answer, answered, replied, same) told =
    armed-after handle number (outcome answer) reply after.files (arms answer) replied (ap (λ (s : Service). s.files) same) told
does-arms g before (Parks read) reply after handle number arms (inl does) told = absurd (subst IsTold does.0 told)
does-arms g before (Parks read) reply after handle number arms (inr does) told = absurd (subst IsTold does.0 told)
does-arms g before _ reply after handle number arms does told = absurd arms

-- ---- reads of a pipe

dry-armed : (ended : Bool) (handle number : ℕ) (files : List (Option OpenSeen)) (old : OpenSeen) → file_at handle files ≡ Some old
    → old.polls.asked ≡ Some number → IsArmed handle number (with_dry_read ended handle files)
dry-armed ended handle number files old was asked =
    change-arms (λ (file : OpenSeen). record file { polls = armed ended file.polls }) (λ file. refl) files handle number old was asked

records-armed : (text : List ℕ) (handle number : ℕ) (files : List (Option OpenSeen)) (old : OpenSeen) → file_at handle files ≡ Some old
    → old.polls.asked ≡ Some number → IsArmed handle number (with_records text handle files)
records-armed text handle number files old was asked =
    change-arms (λ (file : OpenSeen). record file { text = Some text; has_read = true; polls = armed false file.polls }) (λ file. refl) files handle number old
    was asked

-- no refusal is told as to come again
never-again : (refusal : Refusal) → IsTold (Some (replies.Error (errno_of refusal))) → ⊥
never-again NoSuchFile told = told
never-again _ told = told

taken-arms : (handle size number : ℕ) (files : List (Option OpenSeen)) (old : OpenSeen) → file_at handle files ≡ Some old → old.polls.asked ≡ Some number
    → (answer : Result Answer Refusal) → ArmsIfTold handle number (taken_records handle size files answer)
taken-arms handle size number files old was asked (Ok answer) told =
    records-armed (drop (min size most_data) (text_in answer)) handle number files old was asked
taken-arms handle size number files old was asked (Err refusal) told = absurd (never-again refusal told)

dry-arms : (read : Parked) (flags number : ℕ) (has_ended : Bool) (files : List (Option OpenSeen)) (old : OpenSeen) → file_at read.handle files ≡ Some old
    → old.polls.asked ≡ Some number → ArmsStep read.handle number (read_dry read flags has_ended files)
dry-arms read flags number has_ended files old was asked =
    either (ArmsStep read.handle number) has_ended _ _ (λ told. dry-armed true read.handle number files old was asked)
    (either (ArmsStep read.handle number) (is_nonblocking flags) _ _ (λ told. dry-armed false read.handle number files old was asked) tt)

new-arms : (g : Terms) (s : Service) (read : Parked) (flags number : ℕ) (old : OpenSeen) → file_at read.handle s.files ≡ Some old
    → old.polls.asked ≡ Some number → ArmsStep read.handle number (read_new g s read flags old)
new-arms g s read flags number old was asked =
    either (ArmsStep read.handle number) (is_dry g s old.owner old.file) _ _ (dry-arms read flags number (ends g s old) s.files old was asked)
    (taken-arms read.handle read.size number s.files old was asked)

pipe-arms : (g : Terms) (s : Service) (read : Parked) (flags number : ℕ) (old : OpenSeen) → file_at read.handle s.files ≡ Some old
    → old.polls.asked ≡ Some number → ArmsStep read.handle number (read_pipe g s read flags old)
pipe-arms g s read flags number old was asked =
    either (ArmsStep read.handle number) (is_used_up old) _ _ (new-arms g s read flags number old was asked)
    (λ told. records-armed (drop (min read.size most_data) (unwrap_or old.text [])) read.handle number s.files old was asked)

-- one that is not answered with data, its end or EAGAIN need not
failed-arms : (handle number : ℕ) (errno : Errno) (files : List (Option OpenSeen)) → (IsTold (Some (replies.Error errno)) → ⊥)
    → ArmsStep handle number (failed errno files)
failed-arms handle number errno files untold told = absurd (untold told)

-- ---- reads of binary pages

given-arms : (handle size number : ℕ) (page : List ℕ) (files : List (Option OpenSeen)) (old : OpenSeen) → file_at handle files ≡ Some old
    → old.polls.asked ≡ Some number → (answer : Result Answer Refusal) → ArmsIfTold handle number (given_page handle size page files answer)
given-arms handle size number page files old was asked (Ok answer) told =
    records-armed (drop (min size most_data) page) handle number files old was asked
given-arms handle size number page files old was asked (Err refusal) told = absurd (never-again refusal told)

page-arms : (g : Terms) (s : Service) (read : Parked) (number : ℕ) (old : OpenSeen) → file_at read.handle s.files ≡ Some old
    → old.polls.asked ≡ Some number → ArmsStep read.handle number (read_page g s read old)
page-arms g s read number old was asked =
    given-arms read.handle read.size number (next_page g s old.owner (file_index old.file)) s.files old was asked

no-page-arms : (read : Parked) (number : ℕ) (files : List (Option OpenSeen)) (old : OpenSeen) → file_at read.handle files ≡ Some old
    → old.polls.asked ≡ Some number → ArmsStep read.handle number (read_no_page read old files)
no-page-arms read number files old was asked =
    either (ArmsStep read.handle number) old.polls.told_ready _ _ (λ told. dry-armed false read.handle number files old was asked)
    (λ told. dry-armed false read.handle number files old was asked)

whole-arms : (g : Terms) (s : Service) (read : Parked) (number : ℕ) (old : OpenSeen) → file_at read.handle s.files ≡ Some old
    → old.polls.asked ≡ Some number → ArmsStep read.handle number (read_whole_page g s read old)
whole-arms g s read number old was asked =
    either (ArmsStep read.handle number) (nat_lt read.size 4096) _ _ (failed-arms read.handle number EINVAL s.files (λ told. told))
    (either (ArmsStep read.handle number) (is_dry g s old.owner old.file) _ _ (no-page-arms read number s.files old was asked)
    (page-arms g s read number old was asked))

new-page-arms : (g : Terms) (s : Service) (read : Parked) (flags number : ℕ) (old : OpenSeen) → file_at read.handle s.files ≡ Some old
    → old.polls.asked ≡ Some number → ArmsStep read.handle number (read_new_page g s read flags old)
new-page-arms g s read flags number old was asked =
    either (ArmsStep read.handle number) (is_dry g s old.owner old.file) _ _ (dry-arms read flags number (ends g s old) s.files old was asked)
    (page-arms g s read number old was asked)

pages-arms : (g : Terms) (s : Service) (read : Parked) (flags number : ℕ) (old : OpenSeen) → file_at read.handle s.files ≡ Some old
    → old.polls.asked ≡ Some number → ArmsStep read.handle number (read_pages g s read flags old)
pages-arms g s read flags number old was asked =
    either (ArmsStep read.handle number) (is_used_up old) _ _ (new-page-arms g s read flags number old was asked)
    (λ told. records-armed (drop (min read.size most_data) (unwrap_or old.text [])) read.handle number s.files old was asked)

-- ---- all reads

kind-arms : (g : Terms) (s : Service) (read : Parked) (offset : ℕ) (cached : Bool) (flags number : ℕ) (old : OpenSeen) (kind : FileKind)
    → IsConsumed kind → file_at read.handle s.files ≡ Some old → old.polls.asked ≡ Some number
    → ArmsStep read.handle number (read_kind g s read offset cached flags old kind)
kind-arms g s read offset cached flags number old kinds.Pipe consumed was asked =
    either (ArmsStep read.handle number) cached _ _ (failed-arms read.handle number EINVAL s.files (λ told. told))
    (pipe-arms g s read flags number old was asked)
kind-arms g s read offset cached flags number old kinds.RawPipe consumed was asked =
    either (ArmsStep read.handle number) cached _ _
    (either (ArmsStep read.handle number) (is_used_up old) _ _ (whole-arms g s read number old was asked)
    (failed-arms read.handle number EINVAL s.files (λ told. told)))
    (pages-arms g s read flags number old was asked)
kind-arms g s read offset cached flags number old kind consumed was asked = absurd consumed

read-arms : (g : Terms) (s : Service) (read : Parked) (offset : ℕ) (cached : Bool) (flags number : ℕ) (old : OpenSeen)
    → file_at read.handle s.files ≡ Some old → IsConsumed (kind_of_file old.file) → old.polls.asked ≡ Some number
    → ArmsStep read.handle number (read_file g s read offset cached flags (file_at read.handle s.files))
read-arms g s read offset cached flags number old was consumed asked =
    subst (λ (slot : Option OpenSeen). ArmsStep read.handle number (read_file g s read offset cached flags slot)) (sym was)
    (either (ArmsStep read.handle number) (is_there (scene_of g s) (node_of old)) _ _
    (kind-arms g s read offset cached flags number old (kind_of_file old.file) consumed was asked)
    (failed-arms read.handle number ENOENT s.files (λ told. told)))

pub reads_arm_polls : ReadsArmPolls
reads_arm_polls g before after request bytes handle offset size read_flags flags old new number served operation was consumed asked is told =
    does-arms g before (step_of g before request.unique request.pid served.node request.operation) served.reply after handle number
    (subst (λ (o : Operation). ArmsStep handle number (step_of g before request.unique request.pid served.node o)) (sym operation)
    (read-arms g before (read_of_pipe request.unique handle size) offset (is_cached read_flags) flags number old was consumed asked)) served.does told new is

parked-arms : (g : Terms) (s : Service) (read : Parked) (number : ℕ) (old : OpenSeen) → file_at read.handle s.files ≡ Some old
    → IsConsumed (kind_of_file old.file) → old.polls.asked ≡ Some number → ArmsStep read.handle number (step_of_parked g s read)
parked-arms g s read number old was consumed asked =
    either (ArmsStep read.handle number) read.interrupted _ _ (λ told. dry-armed false read.handle number s.files old was asked)
    (read-arms g s read 0 false 0 number old was consumed asked)

pub parked_reads_arm_polls : ParkedReadsArmPolls
parked_reads_arm_polls g before after index bytes old new number told was consumed asked is said =
    does-arms g (without_read index before) (step_of_parked g before told.read) (Some told.reply) after told.read.handle number
    (parked-arms g before told.read number old was consumed asked) told.does said new is
