-- What one try of a call leaves of a handle, and its status.
use Rattle.std.specs.Prelude.{◌≡◌, ◌⊎◌, ◌^◌, ◌+◌, ◌-◌, ◌==◌, if◌then◌else◌, max, min, not, ℕ, ℤ, pos, neg_ℤ, Bool, true, false}
use Rattle.std.specs.Prelude.{List, [], take, drop, ◌++◌, length, codes, Option, Some, None, Result, Ok, Err}
use Rattle.trace_command.specs.Refusals.{number_of}
use Rattle.trace_command.specs.declared.command.CommandOf.TheVariants.{Write}
use Rattle.trace_command.specs.declared.command.Config.{Config}
use Rattle.trace_command.specs.declared.refusal.Refusal.{Refusal}
use Rattle.trace_command.specs.declared.refusal.Refusal.TheVariants.{BadValue}
use Rattle.trace_format.specs.declared.field_value.FieldValue.{FieldValue}
use Rattle.tracer.specs.Lives.{most_done}
use Rattle.trace_script.specs.declared.outcome.Outcome.TheVariants.{Refused}
use Rattle.mount_replies.specs.declared.mount.Owners.{Owners}
use Rattle.shared_mount.specs.declared.served.Served.{Served}
use Rattle.shared_mount.specs.declared.served.Served.TheVariants.{Done, NotNow}
use Rattle.library_tracer.specs.Consoles.{Comes, HasLeft, IsBusy, IsWornOut, LacksMemory, Looks, Said, Tells, TellsWaiting, said_values, says}
use Rattle.library_tracer.specs.ConsolesSeen.{ConsoleSeen, Known}
use Rattle.library_tracer.specs.Masks.{IsMaskOf, Masks}
use Rattle.library_tracer.specs.PassesSeen.{HasBack, HasTaken, NoneIsThere, PassesSeen}
use Rattle.library_tracer.specs.Sentences.{explanation_in}
use Rattle.library_tracer.specs.Statuses.{offset_in, reply_in}
use Rattle.library_tracer.specs.declared.console.Tried.{Tried}
use Rattle.library_tracer.specs.declared.console.Tried.TheVariants.{Told, Busy}
use Rattle.library_tracer.specs.declared.mask.Mask.{Mask}
use Rattle.tracectl_c.specs.declared.settings.Settings.{Settings}

-- what a contract sees of passes
abbrev pub Passes : Type 0
Passes = Option PassesSeen

-- ---- settings

-- the limit of calls: once so many commands were done, by calls or requests of a mount, a call does no more. 2^60 where it is 0.
abbrev pub limit_of : Settings → ℕ
limit_of s = if s.history_limit == 0 then most_done else s.history_limit

-- whose the files of its mount are
abbrev pub owners_of : Settings → Owners
owners_of s = record { uid = s.uid; gid = s.gid; mode = s.mode }

-- the configuration. Its own limit is one of histories, which a tracer that keeps none does not heed, but it has to be at least 1.
abbrev pub config_of : Settings → Config
config_of s = record { cpus = s.cpus; pages = s.pages; page_bytes = s.page_bytes; history_limit = max 1 s.history_limit }

-- ---- one try

-- what is added to the status of a call after which something is owed to the mount
abbrev pub owes_bit : Bool → ℕ
owes_bit true = 2 ^ 31
owes_bit false = 0

-- 202 while somebody else has a turn
abbrev pub status_tried : Tried → ℕ
status_tried (Told status owes) = status + owes_bit owes
status_tried Busy = 202

-- what one try may do to a console, in the words of library_tracer
abbrev pub May : Type 1
May = ConsoleSeen → ConsoleSeen → Tried → Type 0

-- what this may do; 203 is told of a thread that has not joined, and nothing changes
abbrev pub Tries : May → Option ConsoleSeen → Option ConsoleSeen → ℕ → Type 0
Tries may None after status = (status ≡ 203) × (after ≡ None)
Tries may (Some before) None status = ⊥
Tries may (Some before) (Some after) status = (tried : Tried) × may before after tried × (status ≡ status_tried tried)

-- or memory is refused before anything is asked
abbrev pub OrLacksMemory : Said → May
OrLacksMemory said before after tried = Comes said before after tried ⊎ LacksMemory before after tried

-- What one try may do to a console, and to a mask that it may tell: here and below the mask before it, and after.
abbrev pub MayMask : Type 1
MayMask = ConsoleSeen → ConsoleSeen → Tried → Mask → Mask → Type 0

-- as Tries; of a thread that has not joined the mask stays
abbrev pub TriesMasked : MayMask → Option ConsoleSeen → Option ConsoleSeen → Mask → Mask → ℕ → Type 0
TriesMasked may None after was now status = (status ≡ 203) × (after ≡ None) × (now ≡ was)
TriesMasked may (Some before) None was now status = ⊥
TriesMasked may (Some before) (Some after) was now status = (tried : Tried) × may before after tried was now × (status ≡ status_tried tried)

-- what a call comes to that says this, with the mask that is told in its turn
abbrev pub ComesMasked : Said → MayMask
ComesMasked said before after tried was now = Comes said before after tried × Masks said after tried was now

-- or memory is refused before anything is asked
abbrev pub MasksOrLacksMemory : Said → MayMask
MasksOrLacksMemory said before after tried was now =
    ComesMasked said before after tried was now ⊎ (LacksMemory before after tried × (now ≡ was))

-- an emission of the values that are given; one of an unknown kind is refused, and nothing is asked
abbrev pub said_given : ℕ → ℕ → ℤ → Option (List FieldValue) → Said
said_given event cpu process None = Tells (Refused BadValue) (codes "a value is of none of the three kinds")
said_given event cpu process (Some values) = said_values event cpu process values

-- a write, or unless the number is 0 an append
abbrev pub said_write : List ℕ → ℕ → List ℕ → Said
said_write path append text = says (Write path (not (append == 0)) text)

-- the limit, unless the number is 0
abbrev pub limit_if : ℕ → ℕ → Option ℕ
limit_if is_limited limit = if is_limited == 0 then None else Some limit

-- ---- threads that come and go

-- A thread that has joined gets 204, a tracer that is not open gives 200; otherwise the thread has a pass, or none is left (205), or memory is refused
-- (23), and nothing changes.
abbrev pub Joins : Option Passes → Option Passes → Option ConsoleSeen → Option ConsoleSeen → ℕ → Type 0
Joins tracer after (Some console) thread status = (status ≡ 204) × (after ≡ tracer) × (thread ≡ Some console)
Joins None after None thread status = (status ≡ 200) × (after ≡ None) × (thread ≡ None)
Joins (Some passes) None None thread status = ⊥
Joins (Some passes) (Some left) None (Some console) status = (status ≡ 0) × HasTaken passes left console
Joins (Some passes) (Some left) None None status =
    (left ≡ passes) × (((status ≡ 205) × NoneIsThere passes) ⊎ ((status ≡ 23) × (¬ NoneIsThere passes)))

-- A tracer that is not open gives 200, and a thread that has not joined 203; otherwise the thread's pass is back, or it is in line and not served (202), and
-- nothing changes.
abbrev pub Leaves : Option Passes → Option Passes → Option ConsoleSeen → Option ConsoleSeen → ℕ → Type 0
Leaves None after before thread status = (status ≡ 200) × (after ≡ None) × (thread ≡ before)
Leaves (Some passes) after None thread status = (status ≡ 203) × (after ≡ Some passes) × (thread ≡ None)
Leaves (Some passes) None (Some before) thread status = ⊥
Leaves (Some passes) (Some left) (Some before) None status =
    (status ≡ 0) × ((known : Known) × ((gone : ConsoleSeen) × HasLeft before gone known) × HasBack passes left known)
Leaves (Some passes) (Some left) (Some before) (Some still) status =
    (status ≡ 202) × (left ≡ passes) × (still ≡ before) × (before.is_in_line ≡ true)

-- A thread is in line, or, where another drew at the same moment or all tickets are drawn, it is not; nothing is run. One that was in line stays there.
abbrev pub IsLinedUp : Option ConsoleSeen → Option ConsoleSeen → ℕ → Type 0
IsLinedUp None after status = (status ≡ 203) × (after ≡ None)
IsLinedUp (Some before) None status = ⊥
IsLinedUp (Some before) (Some after) status = (status ≡ (if after.is_in_line then 0 else 202))
    × (IsBusy (record before { is_in_line = after.is_in_line }) after ⊎ IsWornOut before after)
    × (before.is_in_line ≡ true → after ≡ before)

-- ---- looks

-- 1 if a record waits and 0 if none does; or the number of the refusal, below 0; -202 while somebody else has a turn
abbrev pub waiting_number : Option (Result Bool Refusal) → ℤ
waiting_number None = neg_ℤ (pos 202)
waiting_number (Some (Ok true)) = pos 1
waiting_number (Some (Ok false)) = pos 0
waiting_number (Some (Err refusal)) = neg_ℤ (pos (number_of refusal))

-- that of the pipe at this path; -203 where the thread has not joined
abbrev pub TriesWaiting : List ℕ → Option ConsoleSeen → Option ConsoleSeen → ℤ → Type 0
TriesWaiting path None after told = (told ≡ neg_ℤ (pos 203)) × (after ≡ None)
TriesWaiting path (Some before) None told = ⊥
TriesWaiting path (Some before) (Some after) told =
    (waits : Option (Result Bool Refusal)) × TellsWaiting path before after waits × (told ≡ waiting_number waits)

-- the status of a look at the mask
abbrev pub status_of_mask : Option (Result Mask Refusal) → ℕ
status_of_mask None = 202
status_of_mask (Some (Ok mask)) = 0
status_of_mask (Some (Err refusal)) = number_of refusal

-- it is written where the status is 0, and otherwise nothing
abbrev pub mask_told : Option (Result Mask Refusal) → Mask → Mask
mask_told (Some (Ok mask)) was = mask
mask_told _ was = was

abbrev pub TriesWanted : Option ConsoleSeen → Option ConsoleSeen → Mask → Mask → ℕ → Type 0
TriesWanted None after was now status = (status ≡ 203) × (after ≡ None) × (now ≡ was)
TriesWanted (Some before) None was now status = ⊥
TriesWanted (Some before) (Some after) was now status = (told : Option (Result Mask Refusal))
    × Looks IsMaskOf before after told × (status ≡ status_of_mask told) × (now ≡ mask_told told was)

-- ---- the mount

-- room whose first bytes are those of a text, as many as there is room for; the rest of it stays
abbrev pub filled : List ℕ → List ℕ → List ℕ
filled text room = take (min (length text) (length room)) text ++ drop (min (length text) (length room)) room

-- the status of a try that serves: 0 if it was done, 216 if something is owed that is to be told before, or there is nothing to tell, 202 while somebody
-- else has a turn
abbrev pub status_served : Option (Result Served Refusal) → ℕ
status_served None = 202
status_served (Some (Ok (Done owes))) = 0
status_served (Some (Ok NotNow)) = 216
status_served (Some (Err refusal)) = number_of refusal

-- 1 if something is owed after it, and 0 if nothing is, or it was not done
abbrev pub owes_after : Option (Result Served Refusal) → ℕ
owes_after (Some (Ok (Done true))) = 1
owes_after _ = 0

-- What is told of it: its status, whether something is owed, the length of the reply, and as much of it as there is room for.
pub record IsToldServed (tried : Option (Result Served Refusal)) (bytes was now : List ℕ) (count owes status : ℕ) : Type 0 where
  pub status_is : status ≡ status_served tried
  pub owes_is : owes ≡ owes_after tried
  pub count_is : count ≡ length bytes
  pub reply_is : now ≡ filled bytes was

-- Nothing was tried, and this is the status: no reply is told.
pub record IsNotTried (was now : List ℕ) (count owes this status : ℕ) : Type 0 where
  pub status_is : status ≡ this
  pub owes_none : owes ≡ 0
  pub count_none : count ≡ 0
  pub reply_same : now ≡ was

-- One try that serves, of whose bytes `serves` says what the console's try of it comes to. 203 of a thread that has not joined, and 23 where memory for the
-- reply is refused: nothing changes.
abbrev pub TriesServing : (List ℕ → ConsoleSeen → ConsoleSeen → Option (Result Served Refusal) → Type 0) → Option ConsoleSeen → Option ConsoleSeen
    → List ℕ → List ℕ → ℕ → ℕ → ℕ → Type 0
TriesServing serves None after was now count owes status = (after ≡ None) × IsNotTried was now count owes 203 status
TriesServing serves (Some before) None was now count owes status = ⊥
TriesServing serves (Some before) (Some after) was now count owes status =
    ((after ≡ before) × IsNotTried was now count owes 23 status)
    ⊎ ((bytes : List ℕ) × (tried : Option (Result Served Refusal)) × serves bytes before after tried
    × IsToldServed tried bytes was now count owes status)

-- the status where a request without bytes is to be served: 4, or 203 of a thread that has not joined
abbrev pub status_of_empty : Option ConsoleSeen → ℕ
status_of_empty None = 203
status_of_empty (Some console) = 4

-- ---- the last outcome

-- the reply, and the offset; the greatest number where there is none
abbrev pub reply_read : Option ConsoleSeen → List ℕ
reply_read None = []
reply_read (Some console) = reply_in console.last

abbrev pub or_greatest : Option ℕ → ℕ
or_greatest None = 2 ^ 64 - 1
or_greatest (Some offset) = offset

abbrev pub offset_read : Option ConsoleSeen → ℕ
offset_read None = 2 ^ 64 - 1
offset_read (Some console) = or_greatest (offset_in console.last)

-- the sentence of what is wrong
abbrev pub explanation_read : Option ConsoleSeen → List ℕ
explanation_read None = []
explanation_read (Some console) = explanation_in console.last console.words

-- The text is copied as far as there is room, and its length told. Or memory was refused: the room stays, and 0 is told.
abbrev pub Copies : List ℕ → List ℕ → List ℕ → ℕ → Type 0
Copies text was now count = ((count ≡ length text) × (now ≡ filled text was)) ⊎ ((count ≡ 0) × (now ≡ was))
