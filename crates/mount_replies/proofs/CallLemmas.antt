-- What commands of the program come to.
use Rattle.std.proofs.Common.{◌≡◌, ℕ, Bool, false, ◌<◌, ◌≤◌, List, [], ◌∷◌, length, Option, Some, None, Result, Ok, Err, is_some, refl, sym, ap, subst, ◌∙◌, arith}
use Rattle.std.proofs.lemmas.Bool.{lt-ltb}
use Rattle.std.specs.List.{list_any, position}
use Rattle.std.specs.Option.{option_map}
use Rattle.std.specs.Result.{result_ok}
use Rattle.trace_command.specs.FileNames.{address_at, bytes_now, file_at}
use Rattle.trace_command.specs.Paths as paths
use Rattle.trace_command.specs.Paths.{Address, address_of}
use Rattle.trace_command.specs.Refusals.{IsRefusal}
use Rattle.trace_command.specs.Requests.{Emission, MakeInstance, ReadFile, RemoveInstance, Request, WriteFile, request_of}
use Rattle.trace_command.specs.declared.address.Address.{Address as Borrowed}
use Rattle.trace_command.specs.declared.command.CommandOf.TheVariants as commands
use Rattle.trace_command.specs.declared.file_name.FileName.{FileName}
use Rattle.trace_command.specs.declared.file_name.FileName.TheVariants as names
use Rattle.trace_command.specs.declared.command.Config.{Config}
use Rattle.trace_command.specs.declared.command.Reply.{Reply as Answer}
use Rattle.trace_command.specs.declared.refusal.Refusal.{Refusal}
use Rattle.trace_command.specs.declared.refusal.Refusal.TheVariants.{Memory}
use Rattle.trace_format.specs.Catalogs.{event_of}
use Rattle.trace_format.specs.Definitions.{Definition}
use Rattle.trace_format.specs.Reading.{definition_of}
use Rattle.tracer_specification.specs.History.{answer_with_room, unless_full}
use Rattle.tracer_specification.specs.LateMemory.{TakesMemoryLate}
use Rattle.tracer_specification.specs.Settings.{declares, made, removed, ticks}
use Rattle.trace_instance.specs.MemoryTaken.{TakesNoMemory}
use Rattle.tracer.specs.LiveSeen.{LiveSeen}
use Rattle.tracer.specs.Lives.{IsCall, IsCallWithin, IsLive, limited_answer, live_answer, most_done}
use Rattle.tracer.proofs.Calls.{call-memory, call-refused}
use Rattle.tracer_state.specs.ValueEmissions.{emission_by, emission_of}
use Rattle.tracer_state.specs.declared.emission.ValuesEmission.{ValuesEmission}
use Rattle.tracer_state.specs.declared.state.Prepared.{Prepared}
use Rattle.error_log.specs.Errors.{ErrorSeen}
use Rattle.file_list.specs.declared.folder.Folder.TheVariants as folders
use Rattle.mount_tree.proofs.AfterRequests.{declaring, leaving, making, removing}
use Rattle.mount_tree.specs.Scenes.{SceneSeen, with_event, with_instance, without_instance}
use Rattle.mount_tree.specs.ScenesAfter.{scene_after}
use Rattle.mount_tree.specs.declared.node.Node.{Node}
use Rattle.mount_tree.specs.declared.node.Node.TheVariants as nodes
use Rattle.mount_tree.specs.declared.node.Owner.TheVariants.{Top}
use Rattle.mount_replies.proofs.AddressLemmas.{answered-call}
use Rattle.mount_replies.proofs.Firsts.{no-first}
use Rattle.mount_replies.proofs.PipeLemmas.{not-ready}
use Rattle.mount_replies.proofs.TurnLemmas.{room-within}
use Rattle.mount_replies.specs.Calls.{IsCommanded, noting_called}
use Rattle.mount_replies.specs.Mounted.{HasLedTo, IsAsked, MountSeen, past_after, service_of, terms_of}
use Rattle.mount_replies.specs.Owed.{is_ready, owed}
use Rattle.mount_replies.specs.Served.{forgotten}
use Rattle.mount_replies.specs.Services.{Terms, has_wakeup}
use Rattle.mount_replies.specs.Steps.{Keeps, errors_after}
use Rattle.mount_replies.specs.Told.{found_in}
use Rattle.mount_replies.specs.private.Commandings.{CommandsBy, HasCommanded, IsDeclaration, IsReadied, RunsBy}

-- a command was run, and the folders and files are those after it
commanded : (limit : ℕ) (past : List Request) (old : MountSeen) (live : LiveSeen) (scene : SceneSeen) (request : Request) (result : Result Answer Refusal)
    → HasLedTo past old → live.config ≡ old.live.config → IsCallWithin limit past live request result
    → scene ≡ scene_after old.live.config.cpus (past_after result request past)
    → HasCommanded limit past old (record old { live = live; scene = scene }) request result Keeps
commanded limit past old live scene request result mounted config call is = record {
  call = call;
  mounted = record {
    lives = by result call;
    scene = is ∙ ap (λ (g : Config). scene_after g.cpus (past_after result request past)) (sym config);
  };
  terms = ap (λ (g : Config). record { config = g; uid = old.uid; gid = old.gid; mode = old.mode }) config;
  files = refl;
  parked = refl;
  errors = refl;
  counted = refl;
}
  where
    by : (answer : Result Answer Refusal) → IsCallWithin limit past live request answer → IsLive live.config (past_after answer request past) live
    by (Ok answer) call = call.done
    by (Err refusal) call = call.refused

-- one that leaves them as they are
pub left-commanded : (limit : ℕ) (past : List Request) (old : MountSeen) (live : LiveSeen) (request : Request) (result : Result Answer Refusal) → HasLedTo past old
    → live.config ≡ old.live.config → IsCallWithin limit past live request result → made request ≡ None → removed request ≡ None → declares request ≡ None
    → HasCommanded limit past old (record old { live = live }) request result Keeps
left-commanded limit past old live request result mounted config call makes removes adds =
    commanded limit past old live old.scene request result mounted config call (mounted.scene ∙ by result)
  where
    by : (answer : Result Answer Refusal) → scene_after old.live.config.cpus past ≡ scene_after old.live.config.cpus (past_after answer request past)
    by (Ok answer) = sym (leaving old.live.config.cpus past request makes removes adds)
    by (Err refusal) = refl

-- one that was refused
pub refused-commanded : (past : List Request) (old : MountSeen) (live : LiveSeen) (scene : SceneSeen) (request : Request) (refusal : Refusal)
    → HasLedTo past old → live.config ≡ old.live.config → IsCall past live request (Err refusal) → scene ≡ old.scene
    → HasCommanded most_done past old (record old { live = live; scene = scene }) request (Err refusal) Keeps
refused-commanded past old live scene request refusal mounted config call is =
    commanded most_done past old live scene request (Err refusal) mounted config call (is ∙ mounted.scene)

-- before anything was done
pub early-commanded : (past : List Request) (old : MountSeen) (request : Request) (refusal : Refusal) → HasLedTo past old
    → IsRefusal refusal (limited_answer most_done old.live.config past request) → (TakesMemoryLate request → refusal ≡ Memory → ⊥)
    → HasCommanded most_done past old old request (Err refusal) Keeps
early-commanded past old request refusal mounted is other =
    refused-commanded past old old.live old.scene request refusal mounted refl
    (call-refused most_done past old.live request refusal is other mounted.lives) refl

-- one that was prepared, for which there was no memory beside the tracer
pub memory-commanded : (past : List Request) (old : MountSeen) (scene : SceneSeen) (request : Request) (prepared : Prepared) → HasLedTo past old
    → IsReadied past old request prepared → old.live.done < most_done → (TakesNoMemory past request → ⊥) → scene ≡ old.scene
    → HasCommanded most_done past old (record old { scene = scene }) request (Err Memory) Keeps
memory-commanded past old scene request prepared mounted ready room some is =
    refused-commanded past old old.live scene request Memory mounted refl
    (call-memory most_done old.live.config past old.live request prepared.reply refl ready.0 (omega (arith, mounted.lives.count, room)) some mounted.lives) is

-- one that made an instance, removed one or declared an event
pub made-commanded : (past : List Request) (old : MountSeen) (live : LiveSeen) (scene : SceneSeen) (name : List ℕ) (answer : Answer) → HasLedTo past old
    → live.config ≡ old.live.config → IsCall past live (MakeInstance (Some name)) (Ok answer) → scene ≡ with_instance name old.scene
    → HasCommanded most_done past old (record old { live = live; scene = scene }) (MakeInstance (Some name)) (Ok answer) Keeps
made-commanded past old live scene name answer mounted config call is =
    commanded most_done past old live scene (MakeInstance (Some name)) (Ok answer) mounted config call
    (is ∙ ap (with_instance name) mounted.scene ∙ sym (making old.live.config.cpus past (MakeInstance (Some name)) name refl))

pub removed-commanded : (past : List Request) (old : MountSeen) (live : LiveSeen) (scene : SceneSeen) (name : List ℕ) (answer : Answer) → HasLedTo past old
    → live.config ≡ old.live.config → IsCall past live (RemoveInstance (Some name)) (Ok answer) → scene ≡ without_instance name old.scene
    → HasCommanded most_done past old (record old { live = live; scene = scene }) (RemoveInstance (Some name)) (Ok answer) Keeps
removed-commanded past old live scene name answer mounted config call is =
    commanded most_done past old live scene (RemoveInstance (Some name)) (Ok answer) mounted config call
    (is ∙ ap (without_instance name) mounted.scene ∙ sym (removing old.live.config.cpus past (RemoveInstance (Some name)) name refl))

pub declared-commanded : (past : List Request) (old : MountSeen) (live : LiveSeen) (scene : SceneSeen) (request : Request) (event : Definition) (name : List ℕ)
    (answer : Answer) → HasLedTo past old → live.config ≡ old.live.config → IsCall past live request (Ok answer) → declares request ≡ Some event
    → event.name ≡ name → scene ≡ with_event name old.scene → HasCommanded most_done past old (record old { live = live; scene = scene }) request (Ok answer) Keeps
declared-commanded past old live scene request event name answer mounted config call adds named is =
    commanded most_done past old live scene request (Ok answer) mounted config call
    (is ∙ ap (λ (n : List ℕ). with_event n old.scene) (sym named) ∙ ap (with_event event.name) mounted.scene
    ∙ sym (declaring old.live.config.cpus past request event adds))

-- ---- writes by a path

-- a write to another file than that of the declarations declares nothing
pub other-declares : (path text : List ℕ) (append : Bool) (address : Borrowed) → address_at address ≡ address_of path
    → (address.file ≡ Some names.SyntheticEvents → ⊥) → declares (request_of (commands.Write path append text)) ≡ None
other-declares path text append address is other =
    ap (λ (a : Address). declares (WriteFile a.instance a.file append text)) (sym is) ∙ by address.file other
  where
    by : (file : Option FileName) → (file ≡ Some names.SyntheticEvents → ⊥)
        → declares (WriteFile (option_map bytes_now address.instance) (option_map file_at file) append text) ≡ None
    by None unlike = refl
    by (Some names.SyntheticEvents) unlike = absurd (unlike refl)
    by (Some (names.OfInstance file)) unlike = refl
    by (Some (names.OfCpu digits file)) unlike = refl
    by (Some (names.OfEvent name file)) unlike = refl

-- one to that is a declaration
pub is-declaration : (path text : List ℕ) (append : Bool) (address : Borrowed) → address_at address ≡ address_of path
    → address.file ≡ Some names.SyntheticEvents → IsDeclaration text (request_of (commands.Write path append text))
is-declaration path text append address is named = record {
  instance = (address_of path).instance;
  append = append;
  is = ap (λ (f : Option paths.File). WriteFile (address_of path).instance f append text)
      (ap (λ (a : Address). a.file) (sym is) ∙ ap (λ (f : Option FileName). option_map file_at f) named);
}

-- which declares what its text says, and takes memory
pub declaration-declares : (text : List ℕ) (request : Request) → IsDeclaration text request → declares request ≡ result_ok (definition_of text)
declaration-declares text request is = ap declares is.is

pub declaration-leaves : (text : List ℕ) (request : Request) → IsDeclaration text request → (made request ≡ None) × (removed request ≡ None)
declaration-leaves text request is = (ap made is.is, ap removed is.is)

pub declaration-ticks : (text : List ℕ) (request : Request) → IsDeclaration text request → ticks request ≡ 0
declaration-ticks text request is = ap ticks is.is

pub declaration-takes : (past : List Request) (text : List ℕ) (request : Request) → IsDeclaration text request → TakesNoMemory past request → ⊥
declaration-takes past text request is none = subst (TakesNoMemory past) is.is none

pub declaring-takes : (past : List Request) (request : Request) (event : Definition) → declares request ≡ Some event → TakesNoMemory past request → ⊥
declaring-takes past (WriteFile instance (Some paths.SyntheticEvents) append text) event adds none = none
declaring-takes past (WriteFile instance (Some file) append text) event adds none = let no : None ≡ Some event = adds in cc
declaring-takes past (WriteFile instance None append text) event adds none = let no : None ≡ Some event = adds in cc
declaring-takes past (Emission name cpu pid pairs) event adds none = let no : None ≡ Some event = adds in cc
declaring-takes past (MakeInstance name) event adds none = let no : None ≡ Some event = adds in cc
declaring-takes past (RemoveInstance name) event adds none = let no : None ≡ Some event = adds in cc
declaring-takes past (ReadFile instance file limit) event adds none = let no : None ≡ Some event = adds in cc

-- ---- what becomes of the logs

-- where no instance is removed, they are as they were
noting-none : (scene : SceneSeen) (request : Request) (result : Result Answer Refusal) → removed request ≡ None → noting_called scene request result ≡ Keeps
noting-none scene (RemoveInstance (Some name)) result removes = absurd (let no : Some name ≡ None = removes in cc)
noting-none scene (RemoveInstance None) result removes = refl
noting-none scene (Emission event cpu pid pairs) result removes = refl
noting-none scene (MakeInstance name) result removes = refl
noting-none scene (WriteFile instance file append text) result removes = refl
noting-none scene (ReadFile instance file limit) result removes = refl

pub runs-quiet : (old new : MountSeen) (request : Request) (result : Result Answer Refusal) → removed request ≡ None → CommandsBy old new request result
    → RunsBy old new request result
runs-quiet old new request result removes by past mounted =
    subst (HasCommanded most_done past old new request result) (sym (noting-none old.scene request result removes)) (by past mounted)

-- a command that leaves the folders and files as they are was run
pub quiet-commanded : (limit : ℕ) (past : List Request) (old : MountSeen) (live : LiveSeen) (request : Request) (result : Result Answer Refusal) → HasLedTo past old
    → live.config ≡ old.live.config → IsCallWithin limit past live request result → made request ≡ None → removed request ≡ None → declares request ≡ None
    → HasCommanded limit past old (record old { live = live }) request result (noting_called old.scene request result)
quiet-commanded limit past old live request result mounted config call makes removes adds =
    subst (HasCommanded limit past old (record old { live = live }) request result) (sym (noting-none old.scene request result removes))
    (left-commanded limit past old live request result mounted config call makes removes adds)

-- so is an emission by values
pub values-commanded : (limit : ℕ) (past : List Request) (old : MountSeen) (live : LiveSeen) (events : List Definition) (emission : ValuesEmission)
    (result : Result Answer Refusal) → HasLedTo past old → live.config ≡ old.live.config → IsCallWithin limit past live (emission_by events emission) result
    → HasCommanded limit past old (record old { live = live }) (emission_by events emission) result (noting_called old.scene (emission_by events emission) result)
values-commanded limit past old live events emission result mounted config = by (event_of events emission.event)
  where
    by : (event : Option Definition) → IsCallWithin limit past live (emission_of event emission.cpu emission.pid emission.values.now) result
        → HasCommanded limit past old (record old { live = live }) (emission_of event emission.cpu emission.pid emission.values.now) result
        (noting_called old.scene (emission_of event emission.cpu emission.pid emission.values.now) result)
    by None call =
        quiet-commanded limit past old live (emission_of None emission.cpu emission.pid emission.values.now) result mounted config call refl refl refl
    by (Some event) call =
        quiet-commanded limit past old live (emission_of (Some event) emission.cpu emission.pid emission.values.now) result mounted config call refl refl refl

-- an instance was removed, and its errors are forgotten
pub forgets-removed : (past : List Request) (old mid : MountSeen) (name : List ℕ) (answer : Answer) (folder : Option Node) (errors : List ErrorSeen)
    → HasCommanded most_done past old mid (RemoveInstance (Some name)) (Ok answer) Keeps
    → folder ≡ found_in old.scene name (Some (nodes.Folder Top folders.Instances)) → errors ≡ errors_after (forgotten folder) mid.errors
    → HasCommanded most_done past old (record mid { errors = errors }) (RemoveInstance (Some name)) (Ok answer)
    (noting_called old.scene (RemoveInstance (Some name)) (Ok answer))
forgets-removed past old mid name answer folder errors is found told = record {
  call = is.call;
  mounted = record { lives = is.mounted.lives; scene = is.mounted.scene };
  terms = is.terms;
  files = is.files;
  parked = is.parked;
  errors = told ∙ ap (λ (e : List ErrorSeen). errors_after (forgotten folder) e) is.errors
      ∙ ap (λ (f : Option Node). errors_after (forgotten f) old.errors) found;
  counted = is.counted;
}

-- ---- a limit

-- where fewer were done than the limit says, the answer is the one without it
same-within : (limit : ℕ) (g : Config) (past : List Request) (request : Request) → length past < limit → limit ≤ most_done
    → limited_answer limit g past request ≡ live_answer g past request
unfolding limited_answer
same-within limit g past request room few = by (answer_with_room g past request)
  where
    by : (r : Result Answer Refusal) → unless_full limit (length past) r ≡ unless_full most_done (length past) r
    by (Ok reply) = rw (lt-ltb (length past) limit room, lt-ltb (length past) most_done (omega (arith, room, few))) refl
    by (Err refusal) = refl

pub run-within : (limit : ℕ) (past : List Request) (old new : MountSeen) (request : Request) (result : Result Answer Refusal)
    → length past < limit → limit ≤ most_done → HasCommanded most_done past old new request result (noting_called old.scene request result)
    → HasCommanded limit past old new request result (noting_called old.scene request result)
run-within limit past old new request result room few is =
    let same = same-within limit new.live.config past request room few in record {
      call = record {
        reply = rw same is.call.reply;
        early = rw same is.call.early;
        late_memory = rw same is.call.late_memory;
        takes_none = rw same is.call.takes_none;
        done = is.call.done;
        refused = is.call.refused;
      };
      mounted = is.mounted;
      terms = is.terms;
      files = is.files;
      parked = is.parked;
      errors = is.errors;
      counted = is.counted;
    }

noting-refused : (scene : SceneSeen) (request : Request) (refusal : Refusal) → noting_called scene request (Err refusal) ≡ Keeps
noting-refused scene (RemoveInstance (Some name)) refusal = refl
noting-refused scene (RemoveInstance None) refusal = refl
noting-refused scene (Emission event cpu pid pairs) refusal = refl
noting-refused scene (MakeInstance name) refusal = refl
noting-refused scene (WriteFile instance file append text) refusal = refl
noting-refused scene (ReadFile instance file limit) refusal = refl

-- where as many were done, the command is refused
pub full-commanded : (limit : ℕ) (past : List Request) (old : MountSeen) (live : LiveSeen) (request : Request) (result : Result Answer Refusal)
    → HasLedTo past old → live.config ≡ old.live.config → limit ≤ length past → IsCallWithin limit past live request result
    → HasCommanded limit past old (record old { live = live }) request result (noting_called old.scene request result)
full-commanded limit past old live request (Ok answer) mounted config full call =
    absurd (omega (arith, full, (room-within limit live.config past request answer call.reply).1))
full-commanded limit past old live request (Err refusal) mounted config full call =
    subst (HasCommanded limit past old (record old { live = live }) request (Err refusal)) (sym (noting-refused old.scene request refusal))
    (commanded limit past old live old.scene request (Err refusal) mounted config call mounted.scene)

-- ---- what follows

-- a request asked it
pub commanded-asked : (past : List Request) (old new : MountSeen) (request : Request) (result : Result Answer Refusal)
    → HasCommanded most_done past old new request result Keeps → IsAsked past old new request result
commanded-asked past old new request result is = record {
  answered = answered-call past old new.live request result (ap (λ (g : Terms). g.config) is.terms) is.call;
  mounted = is.mounted;
  terms = is.terms;
  files = is.files;
  parked = is.parked;
  errors = is.errors;
  counted = is.counted;
}

-- and what is owed was worked out
pub looked-after : (limit : ℕ) (past : List Request) (old mid new : MountSeen) (request : Request) (result : Result Answer Refusal)
    → HasCommanded limit past old mid request result (noting_called old.scene request result) → new ≡ record mid { owes = new.owes }
    → ((after : List Request) → HasLedTo after mid → new.owes ≡ is_some (owed (terms_of mid) (service_of after mid)))
    → IsCommanded limit past old new request result
looked-after limit past old mid new request result is rest owes =
    rw rest (record {
      call = is.call;
      mounted = record {
        lives = is.mounted.lives;
        scene = is.mounted.scene;
        owes = owes (past_after result request past) is.mounted;
      };
      terms = is.terms;
      files = is.files;
      parked = is.parked;
      errors = is.errors;
      counted = is.counted;
    })

no-length : {A : Type 0} (xs : List A) → length xs ≡ 0 → xs ≡ []
no-length [] none = refl
no-length (x ∷ xs) none = absurd (omega (arith, none))

-- nothing is owed where no read is parked and no poll is to be told
pub none-after : (past : List Request) (mount : MountSeen) → length mount.parked ≡ 0 → list_any has_wakeup mount.files ≡ false
    → false ≡ is_some (owed (terms_of mount) (service_of past mount))
none-after past mount none quiet =
    let g = terms_of mount in
    let s = service_of past mount in
    let ready : position (is_ready g s) mount.files ≡ None = no-first (is_ready g s) mount.files (not-ready g s mount.files quiet) in
    let empty : mount.parked ≡ [] = no-length mount.parked none in
    rw (ready, empty) refl
