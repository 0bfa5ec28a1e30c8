-- What is told of a pipe, once its path was looked up.
use Rattle.std.proofs.Common.{◌≡◌, ℕ, Bool, true, false, if◌then◌else◌, List, Option, Some, None, Result, Ok, Err, refl, sym, ap, ◌∙◌, arith}
use Rattle.trace_command.specs.Paths as paths
use Rattle.trace_command.specs.Paths.{Address}
use Rattle.trace_command.specs.Requests.{Request}
use Rattle.trace_command.specs.declared.command.Config.{Config}
use Rattle.trace_command.specs.declared.command.Reply.{Reply}
use Rattle.trace_command.specs.declared.command.Reply.TheVariants.{Done}
use Rattle.trace_command.specs.declared.refusal.Refusal.{Refusal}
use Rattle.trace_command.specs.declared.refusal.Refusal.TheVariants.{BadValue, NoSuchFile, NoSuchInstance}
use Rattle.tracer_specification.specs.History.{file_answer, missing, unless_refused}
use Rattle.tracer_specification.specs.Settings.{is_there}
use Rattle.tracer_specification.specs.Waiting.{waiting, waits_in}
use Rattle.trace_format.specs.Definitions.{Definition}
use Rattle.trace_instance.specs.Files.{HasCpu, IsThere, file_at}
use Rattle.trace_instance.specs.declared.file.File.{File}
use Rattle.trace_instance.specs.declared.file.File.TheVariants as file
use Rattle.tracer_state.specs.States.{StandsFor}
use Rattle.tracer_state.specs.declared.resolve.Target.TheVariants as target
use Rattle.tracer_state.specs.declared.state.State.{State}
use Rattle.tracer_state.specs.private.Files.{IsResolved}
use Rattle.tracer_state.proofs.Dispatch.{answered-found}

-- the CPU of what was found is there in an instance of so many
pub has_cpu : (cpus own : ℕ) (events : List Definition) (found : File) → own ≡ cpus → IsThere cpus events found → HasCpu own found
has_cpu cpus own events (file.OfInstance named) e there = tt
has_cpu cpus own events (file.OfCpu cpu named) e there = omega (arith, there, e)
has_cpu cpus own events (file.OfEvent event named) e there = tt

-- ---- a path that leads nowhere

-- where even an answer that is always Done is refused, a look is refused so
abbrev IsLost : Result Reply Refusal → Result Bool Refusal → Refusal → Type 0
IsLost done told refused = done ≡ Err refused → told ≡ Err refused

lost-missing : (gone : Option Refusal) (told : Result Bool Refusal) (refused : Refusal)
    → IsLost (unless_refused gone (Ok Done)) (unless_refused gone told) refused
lost-missing (Some refusal) told refused lost = let same : refusal ≡ refused = cc in ap (λ (r : Refusal). Err r) same
lost-missing None told refused lost = absurd cc

lost-file : (g : Config) (past : List Request) (look : paths.File → Result Bool Refusal) (named : Option paths.File) (refused : Refusal)
    → IsLost (file_answer g past (λ f. Ok Done) named) (file_answer g past look named) refused
lost-file g past look None refused lost = let same : NoSuchFile ≡ refused = cc in ap (λ (r : Refusal). Err r) same
lost-file g past look (Some named) refused lost = lost-missing (missing g past named) (look named) refused lost

lost-instance : (there : Bool) (done : Result Reply Refusal) (told : Result Bool Refusal) (refused : Refusal) → IsLost done told refused
    → IsLost (if there then done else Err NoSuchInstance) (if there then told else Err NoSuchInstance) refused
lost-instance true done told refused inside lost = inside lost
lost-instance false done told refused inside lost = let same : NoSuchInstance ≡ refused = cc in ap (λ (r : Refusal). Err r) same

pub told-lost : (g : Config) (state : State) (past : List Request) (a : Address) (refused : Refusal) → IsResolved g state past a (Err refused)
    → waiting g past a.instance a.file ≡ Err refused
unfolding waiting
told-lost g state past a refused lost =
    let look = waits_in g a.instance past in
    lost-instance (is_there a.instance past) (file_answer g past (λ f. Ok Done) a.file) (file_answer g past look a.file) refused
    (lost-file g past look a.file refused) (lost (λ f. Ok Done))

-- ---- one that leads to a file

-- the declarations are no pipe
pub told-declarations : (g : Config) (state : State) (past : List Request) (a : Address) → IsResolved g state past a (Ok target.Declarations)
    → waiting g past a.instance a.file ≡ Err BadValue
unfolding waiting
told-declarations g state past a resolved = rw (resolved.1, resolved.0) refl

-- a file of an instance
pub told-found : (g : Config) (state : State) (past : List Request) (a : Address) (index : ℕ) (found : File) (told : Result Bool Refusal)
    → StandsFor g state past → IsResolved g state past a (Ok (target.Of index found))
    → told ≡ waits_in g a.instance past (file_at state.catalog found) → told ≡ waiting g past a.instance a.file
unfolding waiting
told-found g state past a index found told stands resolved is =
    is ∙ sym (answered-found g state past a index found stands resolved (waits_in g a.instance past))
