-- What is said of the callers of a mounted tracer, by what they know: `v` is that before a call, and `w` after it.
use Rattle.std.specs.Prelude.{◌≡◌, ℕ, ◌+◌, ◌<◌, ◌^◌, Bool, List, [], ◌∷◌, ◌++◌, All, Result}
use Rattle.ticket_lock.specs.Calls.{view_of, drawn_ticket, drawn_view, mine_of, IsOf, IsTicketOf, HasLooked, IsWorn}
use Rattle.ticket_lock.specs.Entries.{entries_under}
use Rattle.ticket_lock.specs.Views.{HasAllNames}
use Rattle.ticket_lock.specs.declared.views.View.{View}
use Rattle.trace_command.specs.Requests.{Request}
use Rattle.trace_command.specs.declared.command.Reply.{Reply}
use Rattle.trace_command.specs.declared.refusal.Refusal.{Refusal}
use Rattle.tracer.specs.LiveSeen.{LiveSeen}
use Rattle.tracer.specs.Lives.{IsLive}
use Rattle.shared_mount.specs.LiveMountSeen.{SharedTerms, numbers_of}
use Rattle.shared_mount.specs.MountEntries.{Deed, DidCall, DidExchange, EntrySeen, caller_of, done_in}
use Rattle.shared_mount.specs.MountHistories.{IsNext, IsOwing, WereTaken}
use Rattle.shared_mount.specs.declared.caller.Caller.{Caller}
use Rattle.shared_mount.specs.declared.caller.InLine.{InLine}
use Rattle.shared_mount.specs.declared.served.Missed.{Missed}
use Rattle.shared_mount.specs.declared.served.Missed.TheVariants as missed
use Rattle.shared_mount.specs.declared.served.Served.{Served}
use Rattle.shared_mount.specs.declared.served.Served.TheVariants.{Done, NotNow}
use Rattle.shared_mount.specs.declared.served.NoTurn.{NoTurn}
use Rattle.shared_mount.specs.declared.served.NoTurn.TheVariants.{Busy, Worn}
use Rattle.shared_mount.specs.declared.shared.SharedMount.{SharedMount}

-- ---- callers

-- what a caller knows, and one that is in line knew before it drew its ticket
abbrev pub caller_view : Caller → View EntrySeen
caller_view caller = view_of caller.pass

abbrev pub line_view : InLine → View EntrySeen
line_view line = drawn_view line.drawn

-- the ticket that it drew
abbrev pub line_ticket : InLine → ℕ
line_ticket line = drawn_ticket line.drawn

-- what it was made with
abbrev pub terms_of : SharedMount → SharedTerms
terms_of shared = record {
  mount = record { config = shared.config; uid = shared.owners.uid; gid = shared.owners.gid; mode = shared.owners.mode };
  limit = shared.limit;
}

-- Who asks this mounted tracer and knows `v`: what it has seen is a history of turns.
pub record Asks (shared : SharedMount) (v : View EntrySeen) : Type 0 where
  pub base : v.base ≡ numbers_of (terms_of shared)
  pub taken : WereTaken (terms_of shared) v.seen

-- the caller is one of this mounted tracer's
pub record IsCallerOf (shared : SharedMount) (caller : Caller) : Type 0 where
  pub of : IsOf shared.lock caller.pass
  pub asks : Asks shared (caller_view caller)

-- and so is the one in line
pub record IsInLineOf (shared : SharedMount) (line : InLine) : Type 0 where
  pub of : IsTicketOf shared.lock line.drawn
  pub asks : Asks shared (line_view line)

-- ---- turns

-- A caller had no turn: others were in line, or another drew at the same moment, and tickets are left. It saw nothing more of the history.
abbrev pub HasNoTurn : View EntrySeen → View EntrySeen → Type 0
HasNoTurn v w = HasLooked v w × (w.front < 2 ^ 63)

-- the caller that comes back from a try that had no turn
abbrev pub caller_in : NoTurn → Caller
caller_in (Busy caller) = caller
caller_in (Worn caller) = caller

-- why it had none
abbrev pub HasFailed : View EntrySeen → NoTurn → Type 0
HasFailed v (Busy caller) = HasNoTurn v (caller_view caller)
HasFailed v (Worn caller) = IsWorn v (caller_view caller)

abbrev pub HasMissed : View EntrySeen → View EntrySeen → Missed → Type 0
HasMissed v w missed.Busy = HasNoTurn v w
HasMissed v w missed.Worn = IsWorn v w

-- the front is above the tickets of all that the caller has seen
abbrev pub IsAhead : View EntrySeen → Type 0
IsAhead v = All (λ (entry : EntrySeen). entry.ticket < v.front) v.seen

-- The caller keeps its numbers and its base. A ticket was drawn: the front has risen, that of a caller with all numbers by just one, and stays ahead of
-- what the caller has seen.
pub record GoesOn (v w : View EntrySeen) : Type 0 where
  pub low : w.low ≡ v.low
  pub end : w.end ≡ v.end
  pub base : w.base ≡ v.base
  pub risen : v.front < w.front
  pub all_names : HasAllNames v → w.front ≡ v.front + 1
  pub ahead : IsAhead v → IsAhead w

-- The turn had this ticket: the caller's front, which is one above the ticket of an entry that the turn left, is one above it.
abbrev pub HadTicket : ℕ → View EntrySeen → Type 0
HadTicket ticket w = w.front ≡ ticket + 1

-- none of these entries is under the caller's numbers
abbrev pub AreOthers : View EntrySeen → List EntrySeen → Type 0
AreOthers v entries = entries_under caller_of v.low v.end entries ≡ []

-- A turn in which this was done (`may`, by the entries found). Since the caller last saw the history, others had the turns that `others` lists; none,
-- where it has all numbers. The turn left its entry, under the first of the caller's numbers and of the caller's own entries the last, and what it did
-- follows from all entries before it. Then something is owed, or nothing is.
pub record TakesTurn (g : SharedTerms) (v w : View EntrySeen) (may : List EntrySeen → Deed → Type 0) (owes : Bool) : Type 0 where
  pub goes_on : GoesOn v w
  pub others : List EntrySeen
  pub entry : EntrySeen
  pub seen : w.seen ≡ v.seen ++ others ++ entry ∷ []
  pub by_others : AreOthers v others
  pub alone : HasAllNames v → others ≡ []
  pub mine : mine_of caller_of w ≡ mine_of caller_of v ++ entry ∷ []
  pub by : entry.by ≡ v.low
  pub ticket : w.front ≡ entry.ticket + 1
  pub deed : may (v.seen ++ others) entry.deed
  pub next : IsNext g (v.seen ++ others) entry.deed owes

-- a call got this answer: `request` says by the entries found what it asked
abbrev pub calls : (List EntrySeen → Request) → Result Reply Refusal → List EntrySeen → Deed → Type 0
calls request answer found deed = deed ≡ DidCall (request found) answer

-- these bytes were read, none where something owed is told, and those were written
abbrev pub exchanges : List ℕ → List ℕ → List EntrySeen → Deed → Type 0
exchanges asked bytes found deed = (commands : List Request) × (deed ≡ DidExchange asked bytes commands)

-- A turn in which nothing was done: it left no entry. What the caller sees now is what others have done.
pub record IsIdle (g : SharedTerms) (v w : View EntrySeen) : Type 0 where
  pub goes_on : GoesOn v w
  pub others : List EntrySeen
  pub seen : w.seen ≡ v.seen ++ others
  pub by_others : AreOthers v others
  pub alone : HasAllNames v → others ≡ []
  pub taken : WereTaken g w.seen

-- What a turn came to that serves, of which these bytes were read and those are in the reply. It is not the time where something is owed, for a request,
-- or where nothing is, for what would be told (`owes`).
abbrev pub Serves : SharedTerms → List ℕ → List ℕ → Bool → View EntrySeen → View EntrySeen → Served → Type 0
Serves g asked bytes owes v w (Done now) = TakesTurn g v w (exchanges asked bytes) now
Serves g asked bytes owes v w NotNow = IsIdle g v w × IsOwing g w.seen owes × (bytes ≡ [])

-- ---- looks

-- A look told this of the tracer that the commands of these turns led to.
pub record IsToldOf {A : Type 0} (g : SharedTerms) (tells : LiveSeen → A → Type 0) (entries : List EntrySeen) (answer : A) : Type 0 where
  pub tracer : LiveSeen
  pub config : tracer.config ≡ g.mount.config
  pub lives : IsLive tracer.config (done_in entries) tracer
  pub told : tells tracer answer

-- A look in a turn told this of the tracer that all turns led to which the caller sees now.
pub record IsLookedAt {A : Type 0} (g : SharedTerms) (tells : LiveSeen → A → Type 0) (v w : View EntrySeen) (answer : A) : Type 0 where
  pub idle : IsIdle g v w
  pub told : IsToldOf g tells w.seen answer
