-- Reads that wait: what is lost, what waits, and which is first.
use Rattle.std.proofs.Common.{◌≡◌, ◌⊎◌, inl, inr, ℕ, zero, suc, Bool, true, false, not, ◌&&◌, ◌||◌, List, [], ◌∷◌, drop, min, Option, is_some, Some, None, Result, Ok, Err, refl, ap, subst}
use Rattle.std.proofs.lemmas.List.{take-append-drop}
use Rattle.std.specs.List.{position, slice_get}
use Rattle.std.specs.Option.{option_and_then}
use Rattle.fuse_wire.specs.declared.errno.Errno.TheVariants.{EINTR, EBADF}
use Rattle.fuse_wire.specs.declared.reply.Reply.{Reply}
use Rattle.fuse_wire.specs.declared.reply.Reply.TheVariants as replies
use Rattle.trace_command.specs.Requests.{Request}
use Rattle.trace_command.specs.declared.refusal.Refusal.{Refusal}
use Rattle.mount_tree.specs.Children.{is_there}
use Rattle.mount_tree.specs.NodePaths.{owner_name}
use Rattle.mount_tree.specs.declared.node.Node.TheVariants as nodes
use Rattle.tracer_specification.specs.Waiting.{waiting}
use Rattle.mount_replies.specs.Mounted.{Does}
use Rattle.mount_replies.specs.Owed.{ReplyAt, WakeupAt, first_owed, is_due, is_ready, step_of_parked}
use Rattle.mount_replies.specs.ParkedLaws.{ClosedReadsTakeNothing, InterruptedReadsTakeNothing, NoPollWaitsForWhatIsThere, NoReadWaitsForWhatIsThere, OldestIsAnsweredFirst, TakenTextIsGivenOrKept, TellingDoesOneCommandAtMost, WaitsForRecords}
use Rattle.mount_replies.specs.Pipes.{ends, has_news, is_dry, is_no, is_used_up, pipe_meant, tells_end, waits_at}
use Rattle.mount_replies.specs.Served.{part_of}
use Rattle.mount_replies.specs.Services.{OpenSeen, Service, Terms, file_at, most_data, scene_of, text_at, with_dry_read, with_records, without_read}
use Rattle.mount_replies.specs.Steps.{Asks, Parks, Plain, Step, Takes, failed}
use Rattle.mount_replies.specs.declared.parked.Parked.{Parked}
use Rattle.mount_replies.proofs.AnsweredOnce.{IsReadStep, parked-step}
use Rattle.mount_replies.proofs.Firsts.{none-before, none-passes}

pub interrupted_reads_take_nothing : InterruptedReadsTakeNothing
interrupted_reads_take_nothing g before after index bytes told interrupted =
    let does : Does g (without_read index before) (failed EINTR (with_dry_read false told.read.handle before.files)) (Some told.reply) after =
    rw interrupted at told.does in
    (let same : Some told.reply ≡ Some (replies.Error EINTR) = does.0 in cc, does.1)

pub closed_reads_take_nothing : ClosedReadsTakeNothing
closed_reads_take_nothing g before after index bytes told going closed =
    let does : Does g (without_read index before) (failed EBADF before.files) (Some told.reply) after = rw (going, closed) at told.does in
    (let same : Some told.reply ≡ Some (replies.Error EBADF) = does.0 in cc, does.1)

-- a read asks one command at most
one-at-most : (g : Terms) (before after : Service) (step : Step) (unique : ℕ) (reply : Option Reply) → IsReadStep unique step → Does g before step reply after
    → (after.past ≡ before.past) ⊎ ((request : Request) × (after.past ≡ request ∷ before.past))
one-at-most g before after (Plain outcome) unique reply is does = inl (ap (λ (s : Service). s.past) does.1)
one-at-most g before after (Takes outcome) unique reply is (inl does) = inl (ap (λ (s : Service). s.past) does.1)
one-at-most g before after (Takes outcome) unique reply is (inr does) = inl (ap (λ (s : Service). s.past) does.1)
one-at-most g before after (Asks request outcome) unique reply is (Ok answer, answered, told, now) = inr (request, ap (λ (s : Service). s.past) now)
one-at-most g before after (Asks request outcome) unique reply is (Err refusal, answered, told, now) = inl (ap (λ (s : Service). s.past) now)
one-at-most g before after (Parks read) unique reply is (inl does) = inl (ap (λ (s : Service). s.past) does.1)
one-at-most g before after (Parks read) unique reply is (inr does) = inl (ap (λ (s : Service). s.past) does.1)
one-at-most g before after _ unique reply is does = absurd is

pub telling_does_one : TellingDoesOneCommandAtMost
telling_does_one g before after None bytes told = absurd told
telling_does_one g before after (Some (ReplyAt index)) bytes told =
    one-at-most g (without_read index before) after (step_of_parked g before told.read) told.read.unique (Some told.reply)
    (parked-step g before told.read) told.does
telling_does_one g before after (Some (WakeupAt handle)) bytes told = inl (ap (λ (s : Service). s.past) told.now)

pub records-kept : (files : List (Option OpenSeen)) (handle : ℕ) (text : List ℕ) (file : OpenSeen) → file_at handle files ≡ Some file
    → text_at handle (with_records text handle files) ≡ Some text
records-kept [] zero text file there = absurd (let no : None ≡ Some file = there in cc)
records-kept [] (suc handle) text file there = absurd (let no : None ≡ Some file = there in cc)
records-kept (first ∷ files) zero text file there = rw there refl
records-kept (first ∷ files) (suc handle) text file there = records-kept files handle text file there

pub taken_text_is_given_or_kept : TakenTextIsGivenOrKept
taken_text_is_given_or_kept handle size text files file there = (
  part_of 0 size text,
  drop (min size most_data) text,
  refl,
  records-kept files handle (drop (min size most_data) text) file there,
  take-append-drop (min size most_data) text,
)

-- ---- what waits

none-due : (due ready : Option ℕ) → first_owed due ready ≡ None → due ≡ None
none-due None ready e = refl
none-due (Some index) ready e = absurd (cc)

first-is : (due ready : Option ℕ) (index : ℕ) → first_owed due ready ≡ Some (ReplyAt index) → due ≡ Some index
first-is (Some i) ready index e = let same : i ≡ index = cc in ap (λ (n : ℕ). Some n) same
first-is None (Some handle) index e = absurd (cc)
first-is None None index e = absurd (cc)

not-due : (interrupted waits : Bool) → (interrupted || not waits) ≡ false → (interrupted ≡ false) × (waits ≡ true)
not-due false true e = (refl, refl)
not-due false false e = absurd (cc)
not-due true waits e = absurd (cc)

says-no : (told : Result Bool Refusal) → is_no told ≡ true → told ≡ Ok false
says-no (Ok false) e = refl
says-no (Ok true) e = absurd (cc)
says-no (Err refusal) e = absurd (cc)

all-four : (used there dry ended : Bool) → (used && (there && dry) && not ended) ≡ true
    → (used ≡ true) × (there ≡ true) × (dry ≡ true) × (ended ≡ false)
all-four true true true false e = (refl, refl, refl, refl)
all-four true true true true e = absurd (cc)
all-four true true false ended e = absurd (cc)
all-four true false dry ended e = absurd (cc)
all-four false there dry ended e = absurd (cc)

waits-for : (g : Terms) (s : Service) (read : Parked) (slot : Option OpenSeen) → file_at read.handle s.files ≡ slot → read.interrupted ≡ false
    → waits_at g s slot ≡ true → WaitsForRecords g s read
waits-for g s read None is going waits = absurd (let no : false ≡ true = waits in cc)
waits-for g s read (Some file) is going waits =
    let all = all-four (is_used_up file) (is_there (scene_of g s) (nodes.File file.owner file.file))
    (is_no (waiting g.config s.past (owner_name (scene_of g s) file.owner) (pipe_meant (scene_of g s) file.file))) (ends g s file) waits in
    record {
      going = going;
      file = file;
      is = is;
      used_up = all.0;
      there = all.1;
      none = says-no (waiting g.config s.past (owner_name (scene_of g s) file.owner) (pipe_meant (scene_of g s) file.file)) all.2;
      goes_on = all.3;
    }

pub no_read_waits_for_what_is_there : NoReadWaitsForWhatIsThere
no_read_waits_for_what_is_there g s index read nothing is =
    let none : position (is_due g s) s.parked ≡ None = none-due (position (is_due g s) s.parked) (position (is_ready g s) s.files) nothing in
    let both = not-due read.interrupted (waits_at g s (file_at read.handle s.files)) (none-passes (is_due g s) s.parked index read none is) in
    waits-for g s read (file_at read.handle s.files) refl both.0 both.1

none-ready : (due ready : Option ℕ) → first_owed due ready ≡ None → ready ≡ None
none-ready None None e = refl
none-ready None (Some handle) e = absurd (cc)
none-ready (Some index) ready e = absurd (cc)

slot-is : (files : List (Option OpenSeen)) (handle : ℕ) (file : OpenSeen) → file_at handle files ≡ Some file → slice_get files handle ≡ Some (Some file)
slot-is files handle file is = by (slice_get files handle) is
  where
    by : (slot : Option (Option OpenSeen)) → option_and_then (λ (file : Option OpenSeen). file) slot ≡ Some file → slot ≡ Some (Some file)
    by (Some found) e = ap (λ (f : Option OpenSeen). Some f) e
    by None e = absurd (cc)

no-news : (used dry tells ended told_end : Bool) → (not (used && dry) || (tells && ended && not told_end)) ≡ false
    → (used ≡ true) × (dry ≡ true) × ((ended ≡ false) ⊎ ((told_end ≡ true) ⊎ (tells ≡ false)))
no-news true true true false told_end e = (refl, refl, inl refl)
no-news true true true true true e = (refl, refl, inr (inl refl))
no-news true true true true false e = absurd (cc)
no-news true true false ended told_end e = (refl, refl, inr (inr refl))
no-news true false tells ended told_end e = absurd (cc)
no-news false dry tells ended told_end e = absurd (cc)

pub no_poll_waits_for_what_is_there : NoPollWaitsForWhatIsThere
no_poll_waits_for_what_is_there g s handle wakeup file nothing is wanted =
    let none : position (is_ready g s) s.files ≡ None = none-ready (position (is_due g s) s.parked) (position (is_ready g s) s.files) nothing in
    let quiet : (is_some file.polls.wakeup && has_news g s file) ≡ false =
    none-passes (is_ready g s) s.files handle (Some file) none (slot-is s.files handle file is) in
    no-news (is_used_up file) (is_dry g s file.owner file.file) (tells_end file.file) (ends g s file) file.polls.told_end
    (subst (λ (w : Option ℕ). (is_some w && has_news g s file) ≡ false) wanted quiet)

pub oldest_is_answered_first : OldestIsAnsweredFirst
oldest_is_answered_first g s index older read first before is =
    none-before (is_due g s) s.parked index older read (first-is (position (is_due g s) s.parked) (position (is_ready g s) s.files) index first) before is
