-- Looks at pipes.
use Rattle.std.proofs.Common.{◌≡◌, ℕ, Bool, true, false, ◌&&◌, nat_lt, if◌then◌else◌, IfSome, zero, suc, get_or, List, [], ◌∷◌, Option, Some, None, Result, Err, refl, sym, ap, ◌∙◌, arith}
use Rattle.std.specs.List.{list_any}
use Rattle.std.specs.Option.{option_map}
use Rattle.trace_command.specs.Paths as paths
use Rattle.trace_command.specs.Requests.{Request}
use Rattle.trace_command.specs.declared.file_name.CpuFile.{CpuFile}
use Rattle.trace_command.specs.declared.file_name.CpuFile.TheVariants as per_cpu
use Rattle.trace_command.specs.declared.file_name.TopFile.{TopFile}
use Rattle.trace_command.specs.declared.file_name.TopFile.TheVariants as top
use Rattle.trace_command.specs.declared.refusal.Refusal.{Refusal}
use Rattle.trace_command.specs.declared.refusal.Refusal.TheVariants.{BadValue, NoSuchCpu, NoSuchFile, NoSuchInstance}
use Rattle.tracer_specification.specs.History.{missing, missing_cpu, unless_refused}
use Rattle.tracer_specification.specs.Settings.{is_there as exists}
use Rattle.tracer_specification.specs.Waiting.{waiting, waits_in}
use Rattle.trace_instance.specs.Files.{file_at as path_at}
use Rattle.trace_instance.specs.declared.file.File.{File as Opened}
use Rattle.trace_instance.specs.declared.file.File.TheVariants as opened
use Rattle.mount_tree.specs.Children.{file_is_there, is_there, owner_is_there}
use Rattle.mount_tree.specs.NodePaths.{owner_name}
use Rattle.mount_tree.specs.Scenes.{event_name}
use Rattle.file_list.specs.declared.file.File.{File}
use Rattle.file_list.specs.declared.file.File.TheVariants as files
use Rattle.mount_tree.specs.declared.node.Node.TheVariants as nodes
use Rattle.mount_tree.specs.declared.node.Owner.{Owner}
use Rattle.mount_tree.specs.Scenes.{SceneSeen}
use Rattle.mount_replies.specs.Mounted.{HasLedTo, MountSeen, service_of, terms_of}
use Rattle.mount_replies.specs.Owed.{is_ready}
use Rattle.mount_replies.specs.Pipes.{is_dry, is_no, pipe_meant}
use Rattle.mount_replies.specs.Services.{OpenSeen, Service, Terms, file_at, has_wakeup, scene_of}
use Rattle.mount_replies.specs.private.Looks.{pipe_in}

-- ---- where the answer is a refusal, the file is not dry

refused-no : (there : Bool) (lost : Option Refusal) (refusal : Refusal)
    → is_no (if there then unless_refused lost (Err refusal) else Err NoSuchInstance) ≡ false
refused-no false lost refusal = refl
refused-no true None refusal = refl
refused-no true (Some r) refusal = refl

never : (there : Bool) (told : Bool) → told ≡ false → (there && told) ≡ false
never false told e = refl
never true told e = e

-- a file that is no pipe
top-no : (g : Terms) (s : Service) (owner : Owner) (file : TopFile) → pipe_in g.config.cpus (files.OfInstance file) ≡ None
    → is_no (waiting g.config s.past (owner_name (scene_of g s) owner) (Some (paths.OfInstance file))) ≡ false
unfolding waiting
top-no g s owner top.TracePipe none = absurd (cc)
top-no g s owner top.Trace none = refused-no (exists (owner_name (scene_of g s) owner) s.past) None _
top-no g s owner top.Overwrite none = refused-no (exists (owner_name (scene_of g s) owner) s.past) None _
top-no g s owner top.TraceOptions none = refused-no (exists (owner_name (scene_of g s) owner) s.past) None _
top-no g s owner top.TracingOn none = refused-no (exists (owner_name (scene_of g s) owner) s.past) None _
top-no g s owner top.Snapshot none = refused-no (exists (owner_name (scene_of g s) owner) s.past) None _
top-no g s owner top.EventsEnable none = refused-no (exists (owner_name (scene_of g s) owner) s.past) None _
top-no g s owner top.EventsFilter none = refused-no (exists (owner_name (scene_of g s) owner) s.past) None _

cpu-gone : (there there_cpu : Bool) (cpu : ℕ) (told : Result Bool Refusal) → there_cpu ≡ false
    → is_no (if there then unless_refused (if there_cpu then None else Some NoSuchCpu) told else Err NoSuchInstance) ≡ false
cpu-gone false there_cpu cpu told e = refl
cpu-gone true false cpu told e = refl
cpu-gone true true cpu told e = absurd (cc)

no-pipe-at : (t : Bool) (cpu : ℕ) → (if t then Some (opened.OfCpu cpu per_cpu.TracePipe) else None) ≡ None → t ≡ false
no-pipe-at false cpu e = refl
no-pipe-at true cpu e = absurd (cc)

cpu-no : (g : Terms) (s : Service) (owner : Owner) (cpu : ℕ) (file : CpuFile) → pipe_in g.config.cpus (files.OfCpu cpu file) ≡ None
    → is_no (waiting g.config s.past (owner_name (scene_of g s) owner) (Some (paths.OfCpu cpu file))) ≡ false
unfolding waiting
cpu-no g s owner cpu per_cpu.TracePipe none =
    cpu-gone (exists (owner_name (scene_of g s) owner) s.past) (nat_lt cpu g.config.cpus) cpu _ (no-pipe-at (nat_lt cpu g.config.cpus) cpu none)
cpu-no g s owner cpu per_cpu.Trace none = refused-no (exists (owner_name (scene_of g s) owner) s.past) (missing_cpu g.config cpu) _
cpu-no g s owner cpu per_cpu.Stats none = refused-no (exists (owner_name (scene_of g s) owner) s.past) (missing_cpu g.config cpu) _

event-no : (g : Terms) (s : Service) (owner : Owner) (file : Option paths.File)
    → ((named : paths.File) → file ≡ Some named → waits_in g.config (owner_name (scene_of g s) owner) s.past named ≡ Err BadValue)
    → is_no (waiting g.config s.past (owner_name (scene_of g s) owner) file) ≡ false
unfolding waiting
event-no g s owner None bad = by (exists (owner_name (scene_of g s) owner) s.past)
  where
    by : (t : Bool) → is_no (if t then Err NoSuchFile else Err NoSuchInstance) ≡ false
    by true = refl
    by false = refl
event-no g s owner (Some named) bad =
    rw (bad named refl) (refused-no (exists (owner_name (scene_of g s) owner) s.past) (missing g.config s.past named) BadValue)

pub no-pipe : (g : Terms) (s : Service) (owner : Owner) (file : File) → pipe_in g.config.cpus file ≡ None → is_dry g s owner file ≡ false
no-pipe g s owner file none = never (is_there (scene_of g s) (nodes.File owner file)) _ (by file none)
  where
    by : (f : File) → pipe_in g.config.cpus f ≡ None
        → is_no (waiting g.config s.past (owner_name (scene_of g s) owner) (pipe_meant (scene_of g s) f)) ≡ false
    by files.SyntheticEvents e = event-no g s owner (Some paths.SyntheticEvents) (λ named is. rw (is-synthetic named is) refl)
      where
        is-synthetic : (named : paths.File) → Some paths.SyntheticEvents ≡ Some named → named ≡ paths.SyntheticEvents
        is-synthetic named is = cc
    by (files.OfInstance f) e = top-no g s owner f e
    by files.SystemEnable e = top-no g s owner top.EventsEnable refl
    by (files.OfCpu cpu f) e = cpu-no g s owner cpu f e
    by (files.OfEvent event f) e = event-no g s owner _ (event-bad (event_name event (scene_of g s).events))
      where
        event-bad : (name : Option (List ℕ)) (named : paths.File) → option_map (λ (n : List ℕ). paths.OfEvent n f) name ≡ Some named
            → waits_in g.config (owner_name (scene_of g s) owner) s.past named ≡ Err BadValue
        event-bad None named is = absurd (cc)
        event-bad (Some n) named is = let same : paths.OfEvent n f ≡ named = cc in rw (sym same) refl
    by (files.Inject event) e = event-no g s owner None (λ named is. absurd (cc))
    by (files.Tool f) e = event-no g s owner None (λ named is. absurd (cc))
    by (files.OfTop f) e = event-no g s owner None (λ named is. absurd (cc))
    by (files.CpuSize cpu) e = event-no g s owner None (λ named is. absurd (cc))
    by (files.EventId event) e = event-no g s owner None (λ named is. absurd (cc))
    by files.ErrorLog e = event-no g s owner None (λ named is. absurd (cc))
    by (files.Layout f) e = event-no g s owner None (λ named is. absurd (cc))
    by (files.RawPipe cpu) e = cpu-no g s owner cpu per_cpu.TracePipe e

-- an instance that is not there
pub gone-dry : (g : Terms) (s : Service) (owner : Owner) (file : File)
    → (owner_is_there (scene_of g s) owner ≡ true → exists (owner_name (scene_of g s) owner) s.past ≡ false) → is_dry g s owner file ≡ false
unfolding waiting
gone-dry g s owner file gone = by (owner_is_there (scene_of g s) owner) (file_is_there (scene_of g s) owner file) gone
  where
    by : (o f : Bool) → (o ≡ true → exists (owner_name (scene_of g s) owner) s.past ≡ false)
        → ((o && f) && is_no (waiting g.config s.past (owner_name (scene_of g s) owner) (pipe_meant (scene_of g s) file))) ≡ false
    by false f e = refl
    by true false e = refl
    by true true e = rw (e refl) refl

-- a CPU's pipe, by its records' lines or by their pages
cpu-dry : (g : Terms) (s : Service) (owner : Owner) (cpu : ℕ) (pipe : Opened) (told : Result Bool Refusal)
    → pipe_in g.config.cpus (files.OfCpu cpu per_cpu.TracePipe) ≡ Some pipe → owner_is_there (scene_of g s) owner ≡ true
    → exists (owner_name (scene_of g s) owner) s.past ≡ true
    → told ≡ waits_in g.config (owner_name (scene_of g s) owner) s.past (path_at [] pipe)
    → is_dry g s owner (files.OfCpu cpu per_cpu.TracePipe) ≡ is_no told
unfolding waiting
cpu-dry g s owner cpu pipe told is there lives says = by (nat_lt cpu g.config.cpus) refl is
  where
    by : (t : Bool) → nat_lt cpu g.config.cpus ≡ t → (if t then Some (opened.OfCpu cpu per_cpu.TracePipe) else None) ≡ Some pipe
        → is_dry g s owner (files.OfCpu cpu per_cpu.TracePipe) ≡ is_no told
    by false e found = absurd (cc)
    by true e found = let same : pipe ≡ opened.OfCpu cpu per_cpu.TracePipe = cc in rw (there, e, lives, says, same) refl

-- a pipe of an instance that is there
pub pipe-dry : (g : Terms) (s : Service) (owner : Owner) (file : File) (pipe : Opened) (told : Result Bool Refusal)
    → pipe_in g.config.cpus file ≡ Some pipe → owner_is_there (scene_of g s) owner ≡ true → exists (owner_name (scene_of g s) owner) s.past ≡ true
    → told ≡ waits_in g.config (owner_name (scene_of g s) owner) s.past (path_at [] pipe) → is_dry g s owner file ≡ is_no told
unfolding waiting
pipe-dry g s owner files.SyntheticEvents pipe told is there lives says = absurd (cc)
pipe-dry g s owner (files.OfInstance top.TracePipe) pipe told is there lives says =
    let same : pipe ≡ opened.OfInstance top.TracePipe = cc in rw (there, lives, says, same) refl
pipe-dry g s owner (files.OfInstance top.Trace) pipe told is there lives says = absurd (cc)
pipe-dry g s owner (files.OfInstance top.Overwrite) pipe told is there lives says = absurd (cc)
pipe-dry g s owner (files.OfInstance top.TraceOptions) pipe told is there lives says = absurd (cc)
pipe-dry g s owner (files.OfInstance top.TracingOn) pipe told is there lives says = absurd (cc)
pipe-dry g s owner (files.OfInstance top.Snapshot) pipe told is there lives says = absurd (cc)
pipe-dry g s owner (files.OfInstance top.EventsEnable) pipe told is there lives says = absurd (cc)
pipe-dry g s owner (files.OfInstance top.EventsFilter) pipe told is there lives says = absurd (cc)
pipe-dry g s owner files.SystemEnable pipe told is there lives says = absurd (cc)
pipe-dry g s owner (files.OfCpu cpu per_cpu.TracePipe) pipe told is there lives says = cpu-dry g s owner cpu pipe told is there lives says
pipe-dry g s owner (files.OfCpu cpu per_cpu.Trace) pipe told is there lives says = absurd (cc)
pipe-dry g s owner (files.OfCpu cpu per_cpu.Stats) pipe told is there lives says = absurd (cc)
pipe-dry g s owner (files.OfEvent event f) pipe told is there lives says = absurd (cc)
pipe-dry g s owner (files.Inject event) pipe told is there lives says = absurd (cc)
pipe-dry g s owner (files.Tool file) pipe told is there lives says = absurd (cc)
pipe-dry g s owner (files.OfTop file) pipe told is there lives says = absurd (cc)
pipe-dry g s owner (files.CpuSize cpu) pipe told is there lives says = absurd (cc)
pipe-dry g s owner (files.EventId event) pipe told is there lives says = absurd (cc)
pipe-dry g s owner files.ErrorLog pipe told is there lives says = absurd (cc)
pipe-dry g s owner (files.Layout file) pipe told is there lives says = absurd (cc)
pipe-dry g s owner (files.RawPipe cpu) pipe told is there lives says = cpu-dry g s owner cpu pipe told is there lives says

-- ---- what is told of a mounted tracer

pub mapped : {A : Type 0} (P Q : A → Type 0) (found : Option A) → ((a : A) → P a → Q a) → IfSome found P → IfSome found Q
mapped P Q None each has = tt
mapped P Q (Some a) each has = each a has

pub there-is : {A : Type 0} (there : Bool) (a : A) → (there ≡ false → Some a ≡ None) → there ≡ true
there-is true a gone = refl
there-is false a gone = absurd (let wrong : Some a ≡ None = gone refl in cc)

pub gone-told : (past : List Request) (old : MountSeen) (owner : Owner) (file : File) → HasLedTo past old
    → (owner_is_there old.scene owner ≡ true → false ≡ exists (owner_name old.scene owner) past)
    → is_dry (terms_of old) (service_of past old) owner file ≡ false
gone-told past old owner file mounted gone =
    gone-dry (terms_of old) (service_of past old) owner file (λ there.
    ap (λ (scene : SceneSeen). exists (owner_name scene owner) past) (sym mounted.scene)
    ∙ sym (gone (ap (λ (scene : SceneSeen). owner_is_there scene owner) mounted.scene ∙ there)))

pub pipe-told : (past : List Request) (old : MountSeen) (owner : Owner) (file : File) (pipe : Opened) (told : Result Bool Refusal) → HasLedTo past old
    → Some pipe ≡ pipe_in old.live.config.cpus file → owner_is_there old.scene owner ≡ true → true ≡ exists (owner_name old.scene owner) past
    → told ≡ waits_in old.live.config (owner_name old.scene owner) past (path_at [] pipe)
    → is_dry (terms_of old) (service_of past old) owner file ≡ is_no told
pipe-told past old owner file pipe told mounted is there lives says =
    pipe-dry (terms_of old) (service_of past old) owner file pipe told (sym is)
    (ap (λ (scene : SceneSeen). owner_is_there scene owner) (sym mounted.scene) ∙ there)
    (ap (λ (scene : SceneSeen). exists (owner_name scene owner) past) (sym mounted.scene) ∙ sym lives)
    (says ∙ ap (λ (scene : SceneSeen). waits_in old.live.config (owner_name scene owner) past (path_at [] pipe)) mounted.scene)

-- ---- files that are ready

pub not-ready : (g : Terms) (s : Service) (slots : List (Option OpenSeen)) → list_any has_wakeup slots ≡ false → list_any (is_ready g s) slots ≡ false
not-ready g s [] none = refl
not-ready g s (slot ∷ slots) none =
    let first : has_wakeup slot ≡ false = grind (arith, none) in
    let rest : list_any has_wakeup slots ≡ false = grind (arith, none) in
    rw (quiet slot first, not-ready g s slots rest) refl
  where
    quiet : (slot : Option OpenSeen) → has_wakeup slot ≡ false → is_ready g s slot ≡ false
    quiet None e = refl
    quiet (Some file) e = rw e refl

-- the file of a handle
pub file-at : (slots : List (Option OpenSeen)) (handle : ℕ) → file_at handle slots ≡ get_or slots handle None
file-at [] zero = refl
file-at [] (suc handle) = refl
file-at (first ∷ slots) zero = refl
file-at (first ∷ slots) (suc handle) = file-at slots handle
