-- Of each instance the last eight refused writes are kept, and shown.
use Rattle.std.proofs.Common.{◌≡◌, inl, inr, ℕ, Bool, true, false, cond, List, [], ◌∷◌, ◌++◌, Option, Some, None, refl, sym, ap, subst, ◌∙◌, append_assoc, append-nil}
use Rattle.std.specs.List.{flat_map}
use Rattle.fuse_wire.specs.declared.reply.Reply.{Reply}
use Rattle.error_log.proofs.LogLemmas.{keeps_last_eight}
use Rattle.error_log.specs.Errors.{ErrorSeen, error_text}
use Rattle.error_log.specs.LogLaws.{Change}
use Rattle.error_log.specs.LogLaws.{errors_after as logs_after}
use Rattle.error_log.specs.Logs.{cleared, errors_of, is_of, log_text, noted}
use Rattle.file_list.specs.declared.file.FileKind.TheVariants as kinds
use Rattle.mount_tree.specs.declared.node.Owner.{Owner}
use Rattle.mount_replies.proofs.ToolReads.{log-step, shows-now, there-step}
use Rattle.mount_replies.proofs.ShownTurns.{shown-rests}
use Rattle.mount_replies.specs.Calls.{Called, Exchanged, IsTurned, Shows, TakesTurns, Turn}
use Rattle.mount_replies.specs.Mounted.{AreServed, Does, IsExchanged, Right, TellsOwed, Unframed, Wrong}
use Rattle.mount_replies.specs.Owed.{Owed, ReplyAt, WakeupAt, owed, step_of_parked}
use Rattle.mount_replies.specs.PastLaws.{ShowsNow, just_mounted}
use Rattle.mount_replies.specs.Served.{is_cached, read_file, step_of}
use Rattle.mount_replies.specs.ServedErrors.{LastEightAreKept, LogReadsShowTheLastEight, change_of, changes_in, noting_asked, noting_by, noting_in, noting_of, noting_told}
use Rattle.mount_replies.specs.Services.{Service, Terms, file_at, read_of_pipe, without_read}
use Rattle.mount_replies.specs.Steps.{Asks, AsksLines, AsksNoting, Counts, Forgets, Interrupts, Keeps, Notes, Noting, Parks, Plain, Step, Takes, Tells, errors_after}

-- ---- what a step makes of the errors

by-step : (g : Terms) (before : Service) (step : Step) (reply : Option Reply) (after : Service) (does : Does g before step reply after)
    → after.errors ≡ errors_after (noting_by g before step reply after does) before.errors
by-step g before (Plain outcome) reply after does = ap (λ (s : Service). s.errors) does.1
by-step g before (Takes outcome) reply after (inl does) = ap (λ (s : Service). s.errors) does.1
by-step g before (Takes outcome) reply after (inr does) = ap (λ (s : Service). s.errors) does.1
by-step g before (Asks request outcome) reply after (answer, answered, told, same) = ap (λ (s : Service). s.errors) same
by-step g before (Parks read) reply after (inl does) = ap (λ (s : Service). s.errors) does.1
by-step g before (Parks read) reply after (inr does) = ap (λ (s : Service). s.errors) does.1
by-step g before (Interrupts unique) reply after does = ap (λ (s : Service). s.errors) does.1
by-step g before (AsksNoting request takes outcome noting) reply after (answer, answered, told, same) = ap (λ (s : Service). s.errors) same
by-step g before (Tells noting takes outcome) reply after (inl does) = ap (λ (s : Service). s.errors) does.1
by-step g before (Tells noting takes outcome) reply after (inr (may, told, same)) = ap (λ (s : Service). s.errors) same
by-step g before (AsksLines lines outcome noting) reply after (ran, runs, told, same) = ap (λ (s : Service). s.errors) same
by-step g before (Counts count outcome) reply after (inl does) = ap (λ (s : Service). s.errors) does.1
by-step g before (Counts count outcome) reply after (inr does) = ap (λ (s : Service). s.errors) does.1

by-request : (g : Terms) (before : Service) (asked bytes : List ℕ) (after : Service) (served : AreServed g before asked bytes after)
    → after.errors ≡ errors_after (noting_asked g before asked bytes after served) before.errors
by-request g before asked bytes after (Right request is served) =
    by-step g before (step_of g before request.unique request.pid served.node request.operation) served.reply after served.does
by-request g before asked bytes after (Wrong opcode unique framed none told same) = ap (λ (s : Service). s.errors) same
by-request g before asked bytes after (Unframed none told same) = ap (λ (s : Service). s.errors) same

by-telling : (g : Terms) (before : Service) (what : Option Owed) (bytes : List ℕ) (after : Service) (told : TellsOwed g before what bytes after)
    → after.errors ≡ errors_after (noting_told g before what bytes after told) before.errors
by-telling g before None bytes after told = absurd told
by-telling g before (Some (ReplyAt index)) bytes after told =
    by-step g (without_read index before) (step_of_parked g before told.read) (Some told.reply) after told.does
by-telling g before (Some (WakeupAt handle)) bytes after told = ap (λ (s : Service). s.errors) told.now

by-exchange : (g : Terms) (before : Service) (asked bytes : List ℕ) (after : Service) (exchanged : IsExchanged g before asked bytes after)
    → after.errors ≡ errors_after (noting_of g before asked bytes after exchanged) before.errors
by-exchange g before [] bytes after told = by-telling g before (owed g before) bytes after told
by-exchange g before (byte ∷ asked) bytes after (quiet, served) = by-request g before (byte ∷ asked) bytes after served

-- ---- all turns

one-more : (noting : Noting) (changes : List Change) (errors : List ErrorSeen) → errors ≡ logs_after changes
    → errors_after noting errors ≡ logs_after (change_of noting ++ changes)
one-more Keeps changes errors is = is
one-more (Notes error) changes errors is = ap (noted error) is
one-more (Forgets owner) changes errors is = ap (cleared owner) is

by-turn : (g : Terms) (before : Service) (turn : Turn) (after : Service) (one : IsTurned g before turn after)
    → after.errors ≡ errors_after (noting_in g before turn after one) before.errors
by-turn g before (Exchanged asked bytes) after one = by-exchange g before asked bytes after one
by-turn g before (Called limit request answer) after one = ap (λ (s : Service). s.errors) one.1
by-turn g before (Shows shown asked bytes) after one =
    (shown-rests g before one.request.unique shown one.request.operation one.reply after one.does).errors

all-more : (g : Terms) (before : Service) (turns : List Turn) (after : Service) (taken : TakesTurns g before turns after)
    (changes : List Change) → before.errors ≡ logs_after changes → after.errors ≡ logs_after (changes_in g before turns after taken ++ changes)
all-more g before [] after taken changes is = ap (λ (s : Service). s.errors) taken ∙ is
all-more g before (turn ∷ turns) after (next, one, more) changes is =
    let noting = noting_in g before turn next one in
    all-more g next turns after more (change_of noting ++ changes)
    (by-turn g before turn next one ∙ one-more noting changes before.errors is)
    ∙ ap logs_after (sym (append_assoc (changes_in g next turns after more) (change_of noting) changes))

pub last_eight_are_kept : LastEightAreKept
last_eight_are_kept g turns after taken owner =
    let changes = changes_in g just_mounted turns after taken in
    ap (errors_of owner) (all-more g just_mounted turns after taken [] refl ∙ ap logs_after (append-nil changes))
    ∙ keeps_last_eight owner changes

-- ---- what is shown

-- a log shows the errors of its instance, one after another
own-errors : (owner : Owner) (errors : List ErrorSeen) → log_text owner errors ≡ flat_map error_text (errors_of owner errors)
own-errors owner [] = refl
own-errors owner (error ∷ errors) = by (is_of owner error) (own-errors owner errors)
  where
    by : (own : Bool) → log_text owner errors ≡ flat_map error_text (errors_of owner errors)
        → cond own (error_text error) [] ++ log_text owner errors ≡ flat_map error_text (cond own (error ∷ errors_of owner errors) (errors_of owner errors))
    by true rest = ap (λ (text : List ℕ). error_text error ++ text) rest
    by false rest = rest

pub log_reads_show_the_last_eight : LogReadsShowTheLastEight
log_reads_show_the_last_eight g turns before after request bytes handle size read_flags flags file served is asks direct opened kind there =
    let read = read_of_pipe request.unique handle size in
    let shows = own-errors file.owner before.errors ∙ ap (flat_map error_text) (last_eight_are_kept g turns before served file.owner) in
    subst (λ (text : List ℕ). ShowsNow before request.unique handle size text bytes after) shows
    (shows-now g before after request.unique handle size (log_text file.owner before.errors) bytes is.reply
    (read_file g before read 0 (is_cached read_flags) flags (file_at handle before.files)) is.told
    (there-step g before read 0 (is_cached read_flags) flags file (file_at handle before.files) kinds.ErrorLog opened kind there
    ∙ log-step g before read (is_cached read_flags) flags file direct) (rw asks at is.does))
