-- The passes of a tracer as contracts see them, and what calls do with them.
use Rattle.std.specs.Prelude.{◌≡◌, ℕ, ◌+◌, ◌*◌, ◌<◌, false, List, [], All, length, slice_set, Option, Some, None, IsSome, IfSome}
use Rattle.std.specs.List.{slice_get}
use Rattle.atomic_table.specs.Seated.{TableId}
use Rattle.trace_command.specs.declared.command.Reply.TheVariants.{Done}
use Rattle.trace_command.specs.declared.command.Config.{Config}
use Rattle.mount_replies.specs.declared.mount.Owners.{Owners}
use Rattle.trace_script.specs.declared.outcome.Outcome.TheVariants.{Replied}
use Rattle.ticket_lock.specs.Entries.{Continues}
use Rattle.shared_mount.specs.LiveMountSeen.{SharedTerms}
use Rattle.shared_mount.specs.MountCallers.{caller_view, terms_of, IsCallerOf}
use Rattle.shared_mount.specs.MountEntries.{EntrySeen, caller_of}
use Rattle.shared_mount.specs.MountHistories.{IsOneHistory}
use Rattle.shared_mount.specs.declared.caller.Caller.{Caller}
use Rattle.shared_mount.specs.declared.shared.SharedMount.{SharedMount}
use Rattle.library_tracer.specs.ConsolesSeen.{ConsoleSeen, Known}
use Rattle.library_tracer.specs.PassNames.{names_each, pass_count, AreByName, HasNames, IsThereFresh}

-- what a tracer is made with; calls alone heed the limit
abbrev pub made_with : Config → Owners → ℕ → SharedTerms
made_with config owners limit = record {
  mount = record { config = config; uid = owners.uid; gid = owners.gid; mode = owners.mode };
  limit = limit;
}

-- the tracer, by the table of its lock and by what it was made with; and by index the callers that are there
pub record PassesSeen : Type 0 where
  pub tracer : TableId
  pub terms : SharedTerms
  pub callers : List (Option Known)

-- a caller is there
abbrev pub IsThere : Option Known → Type 0
IsThere caller = IsSome caller

abbrev pub IsMissing : Option Known → Type 0
IsMissing caller = caller ≡ None

-- all passes are there, or none is; once they are closed, none is
abbrev pub IsWhole : Option PassesSeen → Type 0
IsWhole None = ⊥
IsWhole (Some passes) = All IsThere passes.callers

abbrev pub NoneIsThere : Option PassesSeen → Type 0
NoneIsThere None = Unit {0}
NoneIsThere (Some passes) = All IsMissing passes.callers

-- Of a tracer of which nothing was asked: it was made with these, and all passes are there, each with the names of its index, which know nothing.
pub record AreNew (terms : SharedTerms) (made : Option PassesSeen) : Type 0 where
  pub passes : PassesSeen
  pub is : made ≡ Some passes
  pub terms_are : passes.terms ≡ terms
  pub count : length passes.callers ≡ pass_count
  pub by_name : AreByName passes.callers
  pub fresh : All (IsThereFresh terms) passes.callers

-- The first pass that was there was taken, and its console is this one, of which nothing was asked.
pub record HasTaken (before after : Option PassesSeen) (console : ConsoleSeen) : Type 0 where
  pub passes : PassesSeen
  pub was : before ≡ Some passes
  pub index : ℕ
  pub known : Known
  pub there : slice_get passes.callers index ≡ Some (Some known)
  pub bound : index < pass_count
  pub names : HasNames index known.view
  pub first : (other : ℕ) → other < index → slice_get passes.callers other ≡ Some None
  pub taken : after ≡ Some (record passes { callers = slice_set passes.callers index None })
  pub console_is : console ≡ record { tracer = passes.tracer; terms = passes.terms; has = Some known; is_in_line = false; last = Replied Done; words = [] }

-- the caller is one of the tracer's, with the names of a pass
pub record CanPutBack (passes : Option PassesSeen) (caller : Caller) : Type 0 where
  pub now : PassesSeen
  pub is : passes ≡ Some now
  pub of : (shared : SharedMount) → shared.lock.table.shared.table_id ≡ now.tracer → terms_of shared ≡ now.terms → IsCallerOf shared caller
  pub index : ℕ
  pub bound : index < pass_count
  pub names : HasNames index (caller_view caller)

-- The pass is back at its index.
pub record HasBack (before after : Option PassesSeen) (known : Known) : Type 0 where
  pub passes : PassesSeen
  pub was : before ≡ Some passes
  pub index : ℕ
  pub bound : index < length passes.callers
  pub names : HasNames index known.view
  pub back : after ≡ Some (record passes { callers = slice_set passes.callers index (Some known) })

-- The history begins with all that the pass at this index had seen, and after that has no entry under its names.
abbrev pub ContinuesPass : List EntrySeen → ℕ → Option Known → Type 0
ContinuesPass history index None = ⊥
ContinuesPass history index (Some known) = Continues caller_of (names_each * index) (names_each * index + names_each) known.view.seen history

-- All were there, and met: there is one history of all turns, which continues what each pass had seen. Nothing is left.
pub record HasClosed (before after : Option PassesSeen) : Type 0 where
  pub passes : PassesSeen
  pub was : before ≡ Some passes
  pub whole : IsWhole before
  pub history : List EntrySeen
  pub one : IsOneHistory passes.terms history
  pub continues : (index : ℕ) → IfSome (slice_get passes.callers index) (ContinuesPass history index)
  pub nothing : after ≡ None

-- a thread's console is of a tracer whose passes are these, and its caller has the names of a pass; passes that are closed have none
abbrev pub IsOfPasses : Option (Option PassesSeen) → Option ConsoleSeen → Type 0
IsOfPasses (Some (Some passes)) (Some console) = (console.tracer ≡ passes.tracer) × (console.terms ≡ passes.terms)
    × IfSome console.has (λ known. (index : ℕ) × (index < pass_count) × HasNames index known.view)
IsOfPasses (Some None) (Some console) = ⊥
IsOfPasses passes console = Unit {0}
