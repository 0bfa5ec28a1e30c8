-- What reads of the program come to that are done by a copy.
use Rattle.std.proofs.Common.{◌≡◌, ℕ, ◌<◌, Bool, true, false, List, [], ◌∷◌, Option, Some, None, Result, Ok, Err, IfOk, IfErr, OnOk, OnErr}
use Rattle.std.proofs.Common.{is_some, refl, sym, ap, subst}
use Rattle.std.specs.Prelude.{if◌then◌else◌}
use Rattle.trace_command.specs.FileNames.{address_at}
use Rattle.trace_command.specs.Paths as paths
use Rattle.trace_command.specs.Paths.{Address, address_in, address_of, below_mount_point, file_in, file_of_instance, is_instance, parts}
use Rattle.trace_command.specs.Requests.{ReadFile, Request, request_of}
use Rattle.trace_command.specs.declared.address.Address.{Address as Borrowed}
use Rattle.trace_command.specs.declared.command.CommandOf.TheVariants as commands
use Rattle.trace_command.specs.declared.command.Reply.{Reply as Answer}
use Rattle.trace_command.specs.declared.refusal.Refusal.{Refusal}
use Rattle.trace_command.specs.declared.refusal.Refusal.TheVariants.{Memory}
use Rattle.trace_instance.specs.LateReplies.{reply_of}
use Rattle.trace_instance.specs.MemoryTaken.{TakesNoMemory}
use Rattle.trace_instance.specs.declared.late_reply.LateReply.{LateReply}
use Rattle.tracer_state.specs.AddressedRequests.{DeclaresAtTop, read_at}
use Rattle.tracer_state.specs.LateReads.{prepared_by}
use Rattle.tracer_state.specs.States.{IsPrepared, TakesMemory}
use Rattle.tracer_state.specs.declared.late.PreparedLate.{PreparedLate}
use Rattle.tracer.proofs.Calls.{call-carried}
use Rattle.tracer.specs.LateReads.{replied}
use Rattle.tracer.specs.LiveSeen.{LiveSeen}
use Rattle.tracer.specs.Lives.{IsCallWithin, IsLive}
use Rattle.mount_replies.proofs.CallLemmas.{quiet-commanded}
use Rattle.mount_replies.specs.Calls.{noting_called}
use Rattle.mount_replies.specs.Mounted.{HasLedTo, MountSeen}
use Rattle.mount_replies.specs.private.Commandings.{HasCommanded}

-- ---- paths

-- no path leads to the declarations in an instance
abbrev IsAtTop : Address → Type 0
IsAtTop a = is_some a.instance ≡ true → file_of_instance a.file ≡ a.file

in-instance : (name : List ℕ) (file : Option paths.File) → IsAtTop (record { instance = Some name; file = file_of_instance file })
in-instance name None some = refl
in-instance name (Some paths.SyntheticEvents) some = refl
in-instance name (Some (paths.OfInstance file)) some = refl
in-instance name (Some (paths.OfCpu cpu file)) some = refl
in-instance name (Some (paths.OfEvent event file)) some = refl

at-top-alone : (file : Option paths.File) → IsAtTop (record { instance = None; file = file })
at-top-alone file some = absurd (let no : false ≡ true = some in cc)

parts-at-top : (ps : List (List ℕ)) → IsAtTop (address_in ps)
parts-at-top [] = at-top-alone (file_in [])
parts-at-top (first ∷ []) = at-top-alone (file_in (first ∷ []))
parts-at-top (first ∷ name ∷ []) = at-top-alone (file_in (first ∷ name ∷ []))
parts-at-top (first ∷ name ∷ part ∷ rest) = by (is_instance first name)
  where
    by : (b : Bool) → IsAtTop (if b then record { instance = Some name; file = file_of_instance (file_in (part ∷ rest)) } else record {
      instance = None;
      file = file_in (first ∷ name ∷ part ∷ rest);
    })
    by true = in-instance name (file_in (part ∷ rest))
    by false = at-top-alone (file_in (first ∷ name ∷ part ∷ rest))

path-at-top : (path : List ℕ) → IsAtTop (address_of path)
unfolding address_of
path-at-top path = parts-at-top (parts (below_mount_point path))

pub named-at-top : (path : List ℕ) (address : Borrowed) → address_at address ≡ address_of path → DeclaresAtTop address
named-at-top path address is = subst IsAtTop (sym is) (path-at-top path)

-- ---- calls

-- a read by a path is one of the file that it names
pub named-read : (path : List ℕ) (most : Option ℕ) (address : Borrowed) → address_at address ≡ address_of path
    → read_at address most ≡ request_of (commands.Read path most)
named-read path most address is = ap (λ (a : Address). ReadFile a.instance a.file most) is

-- one whose change was prepared, and which is done or refused memory then
pub copy-carried : (limit : ℕ) (past : List Request) (old new : LiveSeen) (request : Request) (prepared : PreparedLate) (result : Result LateReply Refusal)
    → new.config ≡ old.config → IsLive old.config past old → IsPrepared old.config past request old.state (Ok (prepared_by prepared)) → old.done < limit
    → OnOk result ((p : List Request) (r : Request) → IsLive old.config p old → IsPrepared old.config p r old.state (Ok (prepared_by prepared))
    → IsLive new.config (r ∷ p) new)
    → IfOk result (λ late. late ≡ prepared.late) → OnErr result ((p : List Request) → IsLive old.config p old → IsLive new.config p new)
    → IfErr result (λ refusal. refusal ≡ Memory) → (TakesNoMemory past request → TakesMemory old.state prepared.change → ⊥)
    → OnErr result (TakesMemory old.state prepared.change) → IsCallWithin limit past new request (replied result)
copy-carried limit past old new request prepared (Ok late) config lives given room carried is kept memory none takes =
    call-carried limit past old new request (prepared_by prepared) (Ok (reply_of late)) config lives given room carried (ap reply_of is) kept memory none takes
copy-carried limit past old new request prepared (Err refusal) config lives given room carried is kept memory none takes =
    call-carried limit past old new request (prepared_by prepared) (Err refusal) config lives given room carried is kept memory none takes

pub copy-commanded : (limit : ℕ) (past : List Request) (old : MountSeen) (live : LiveSeen) (path : List ℕ) (most : Option ℕ) (address : Borrowed)
    (result : Result Answer Refusal) → HasLedTo past old → live.config ≡ old.live.config → address_at address ≡ address_of path
    → IsCallWithin limit past live (read_at address most) result
    → HasCommanded limit past old (record old { live = live }) (request_of (commands.Read path most)) result
    (noting_called old.scene (request_of (commands.Read path most)) result)
copy-commanded limit past old live path most address result mounted config is call =
    quiet-commanded limit past old live (request_of (commands.Read path most)) result mounted config
    (subst (λ (r : Request). IsCallWithin limit past live r result) (named-read path most address is) call) refl refl refl
