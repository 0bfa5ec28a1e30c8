-- Files that are there: their addresses, what is asked of them, and that they stay.
use Rattle.std.proofs.Common.{◌≡◌, ◌≢◌, ℕ, Bool, true, false, if◌then◌else◌, is_some, List, Option, Some, None, Result, Ok, Err, OnErr, IfSome, refl, sym, ap, subst, ◌∙◌}
use Rattle.std.proofs.lemmas.Bool.{and_parts, false≢true}
use Rattle.std.specs.Option.{option_map}
use Rattle.std.specs.Result.{result_ok}
use Rattle.trace_command.specs.Paths as paths
use Rattle.trace_command.specs.Paths.{Address, address_of, file_of_instance}
use Rattle.trace_command.specs.FileNames.{address_at}
use Rattle.trace_command.specs.Requests.{Request, Emission, MakeInstance, ReadFile, RemoveInstance, WriteFile}
use Rattle.trace_command.specs.declared.address.Address.{Address as Borrowed}
use Rattle.trace_command.specs.Refusals.{OrMemory}
use Rattle.trace_command.specs.declared.command.Config.{Config}
use Rattle.trace_command.specs.declared.command.Reply.{Reply as Answer}
use Rattle.trace_command.specs.declared.file_name.EventFile.{EventFile}
use Rattle.trace_command.specs.declared.refusal.Refusal.{Refusal}
use Rattle.trace_command.specs.declared.refusal.Refusal.TheVariants.{Memory}
use Rattle.trace_format.specs.Definitions.{Definition}
use Rattle.trace_format.specs.Reading.{definition_of}
use Rattle.tracer_specification.specs.Settings.{declares, made, removed, ticks}
use Rattle.trace_instance.specs.MemoryTaken.{TakesNoMemory}
use Rattle.tracer.specs.LiveSeen.{LiveSeen}
use Rattle.tracer.specs.Lives.{IsCall, live_answer}
use Rattle.tracer_state.specs.AddressedRequests.{DeclaresAtTop, read_at, write_at}
use Rattle.file_list.specs.declared.file.File.{File}
use Rattle.file_list.specs.declared.file.File.TheVariants.{SyntheticEvents, OfInstance, SystemEnable, OfCpu, OfEvent, Inject, Tool, OfTop, CpuSize, EventId, ErrorLog, Layout, RawPipe}
use Rattle.mount_tree.proofs.AddressLaws.{path-address}
use Rattle.mount_tree.proofs.AfterRequests.{declaring, leaving}
use Rattle.mount_tree.proofs.SoundLemmas.{scene-sound}
use Rattle.mount_tree.proofs.ThereLemmas.{found_there}
use Rattle.mount_tree.specs.Children.{children, file_is_there, is_there, node_named, owner_is_there}
use Rattle.mount_tree.specs.NodePaths.{address_meant, file_meant, owner_name, path_of}
use Rattle.mount_tree.specs.Scenes.{SceneSeen, event_name, with_event}
use Rattle.mount_tree.specs.ScenesAfter.{scene_after}
use Rattle.mount_tree.specs.TreeLaws.{IsSound}
use Rattle.mount_tree.specs.declared.node.Node.{Node}
use Rattle.mount_tree.specs.declared.node.Node.TheVariants as nodes
use Rattle.mount_tree.specs.declared.node.Owner.{Owner}
use Rattle.mount_tree.specs.declared.node.Owner.TheVariants.{Top, Made}
use Rattle.mount_replies.proofs.DoneLemmas.{events-are}
use Rattle.mount_replies.specs.Mounted.{HasLedTo, IsAnswered, IsAsked, MountSeen, terms_of}
use Rattle.mount_replies.specs.Steps.{read_of, write_of}
use Rattle.mount_replies.specs.Told.{known}
use Rattle.mount_replies.specs.private.LineRuns.{StaysThere}

-- ---- addresses

sound-now : (past : List Request) (mount : MountSeen) → HasLedTo past mount → IsSound mount.scene
sound-now past mount mounted =
    subst IsSound (sym mounted.scene)
    (scene-sound mount.live.config past mounted.lives.in_range.few_cpus mounted.lives.are_done (events-are mount.live.config past mounted.lives.are_done))

-- the path of a file that is there leads to its address
leads : (past : List Request) (mount : MountSeen) (owner : Owner) (file : File) (address : Borrowed) → HasLedTo past mount
    → is_there mount.scene (nodes.File owner file) ≡ true → address_at address ≡ address_meant mount.scene owner file
    → address_at address ≡ address_of (path_of mount.scene (nodes.File owner file))
leads past mount owner file address mounted there is = is ∙ sym (path-address mount.scene owner file (sound-now past mount mounted) there)

pub read-is : (past : List Request) (mount : MountSeen) (owner : Owner) (file : File) (address : Borrowed) (limit : Option ℕ) → HasLedTo past mount
    → is_there mount.scene (nodes.File owner file) ≡ true → address_at address ≡ address_meant mount.scene owner file
    → read_at address limit ≡ read_of mount.scene (nodes.File owner file) limit
read-is past mount owner file address limit mounted there is =
    ap (λ (a : Address). ReadFile a.instance a.file limit) (leads past mount owner file address mounted there is)

pub write-is : (past : List Request) (mount : MountSeen) (owner : Owner) (file : File) (address : Borrowed) (append : Bool) (text : List ℕ) → HasLedTo past mount
    → is_there mount.scene (nodes.File owner file) ≡ true → address_at address ≡ address_meant mount.scene owner file
    → write_at address append text ≡ write_of mount.scene (nodes.File owner file) append text
write-is past mount owner file address append text mounted there is =
    ap (λ (a : Address). WriteFile a.instance a.file append text) (leads past mount owner file address mounted there is)

-- the declarations are at the top alone
meant-at-top : (scene : SceneSeen) (owner : Owner) (file : File) → is_there scene (nodes.File owner file) ≡ true → is_some (owner_name scene owner) ≡ true
    → file_of_instance (file_meant scene file) ≡ file_meant scene file
meant-at-top scene Top file there some = absurd (false≢true some)
meant-at-top scene (Made serial) SyntheticEvents there some =
    absurd (false≢true (and_parts (owner_is_there scene (Made serial)) (file_is_there scene (Made serial) SyntheticEvents) there).1)
meant-at-top scene (Made serial) (OfInstance file) there some = refl
meant-at-top scene (Made serial) SystemEnable there some = refl
meant-at-top scene (Made serial) (OfCpu cpu file) there some = refl
meant-at-top scene (Made serial) (OfEvent event file) there some = by (event_name event scene.events)
  where
    by : (name : Option (List ℕ)) → file_of_instance (option_map (λ (n : List ℕ). paths.OfEvent n file) name) ≡ option_map (λ (n : List ℕ). paths.OfEvent n file) name
    by None = refl
    by (Some name) = refl
meant-at-top scene (Made serial) (Inject event) there some = refl
meant-at-top scene (Made serial) (Tool file) there some = refl
meant-at-top scene (Made serial) (OfTop file) there some = refl
meant-at-top scene (Made serial) (CpuSize cpu) there some = refl
meant-at-top scene (Made serial) (EventId event) there some = refl
meant-at-top scene (Made serial) ErrorLog there some = refl
meant-at-top scene (Made serial) (Layout file) there some = refl
meant-at-top scene (Made serial) (RawPipe cpu) there some = refl

pub at-top : (scene : SceneSeen) (owner : Owner) (file : File) (address : Borrowed) → is_there scene (nodes.File owner file) ≡ true
    → address_at address ≡ address_meant scene owner file → DeclaresAtTop address
at-top scene owner file address there is =
    subst (λ (a : Address). is_some a.instance ≡ true → file_of_instance a.file ≡ a.file) (sym is) (meant-at-top scene owner file there)

-- ---- calls

-- the answer of the tracer
pub answered-call : (past : List Request) (old : MountSeen) (live : LiveSeen) (request : Request) (answer : Result Answer Refusal) → live.config ≡ old.live.config
    → IsCall past live request answer → IsAnswered (terms_of old) past request answer
answered-call past old live request answer config call = record {
  reply = subst (λ (g : Config). OrMemory answer (live_answer g past request)) config call.reply;
  takes_none = λ none. call.takes_none none ∙ ap (λ (g : Config). live_answer g past request) config;
}

-- a command that leaves the folders and files as they are was asked of the tracer
pub asked-call : (past : List Request) (old : MountSeen) (live : LiveSeen) (request : Request) (result : Result Answer Refusal) → HasLedTo past old
    → live.config ≡ old.live.config → IsCall past live request result → made request ≡ None → removed request ≡ None → declares request ≡ None
    → IsAsked past old (record old { live = live }) request result
asked-call past old live request result mounted config call makes removes adds = by result call
  where
    same : old.scene ≡ scene_after live.config.cpus past
    same = mounted.scene ∙ ap (λ (g : Config). scene_after g.cpus past) (sym config)

    terms : terms_of (record old { live = live }) ≡ terms_of old
    terms = ap (λ (g : Config). record { config = g; uid = old.uid; gid = old.gid; mode = old.mode }) config

    by : (answer : Result Answer Refusal) → IsCall past live request answer → IsAsked past old (record old { live = live }) request answer
    by (Ok answer) call = record {
      answered = answered-call past old live request (Ok answer) config call;
      mounted = record { lives = call.done; scene = same ∙ sym (leaving live.config.cpus past request makes removes adds) };
      terms = terms;
      files = refl;
      parked = refl;
      errors = refl;
      counted = refl;
    }
    by (Err refusal) call = record {
      answered = answered-call past old live request (Err refusal) config call;
      mounted = record { lives = call.refused; scene = same };
      terms = terms;
      files = refl;
      parked = refl;
      errors = refl;
      counted = refl;
    }

-- memory for an emission was refused before it was asked
pub unemitted : (past : List Request) (old : MountSeen) (request : Request) → HasLedTo past old → ticks request ≡ 1 → IsAsked past old old request (Err Memory)
unemitted past old request mounted emits = record {
  answered = record { reply = λ other. absurd (other refl); takes_none = λ none. absurd (takes request emits none) };
  mounted = mounted;
  terms = refl;
  files = refl;
  parked = refl;
  errors = refl;
  counted = refl;
}
  where
    takes : (r : Request) → ticks r ≡ 1 → TakesNoMemory past r → ⊥
    takes (Emission event cpu pid pairs) ticked none = none
    takes (MakeInstance name) ticked none = none
    takes (RemoveInstance name) ticked none = absurd (cc)
    takes (WriteFile instance file append text) ticked none = absurd (cc)
    takes (ReadFile instance file limit) ticked none = none

-- one that declares an event, which the scene has by then
pub declared-call : (past : List Request) (old : MountSeen) (live : LiveSeen) (scene : SceneSeen) (request : Request) (event : Definition) (answer : Answer)
    → HasLedTo past old → live.config ≡ old.live.config → IsCall past live request (Ok answer) → declares request ≡ Some event
    → scene ≡ with_event event.name old.scene → IsAsked past old (record old { live = live; scene = scene }) request (Ok answer)
declared-call past old live scene request event answer mounted config call adds is = record {
  answered = answered-call past old live request (Ok answer) config call;
  mounted = record {
    lives = call.done;
    scene = is ∙ ap (with_event event.name) (mounted.scene ∙ ap (λ (g : Config). scene_after g.cpus past) (sym config))
        ∙ sym (declaring live.config.cpus past request event adds);
  };
  terms = ap (λ (g : Config). record { config = g; uid = old.uid; gid = old.gid; mode = old.mode }) config;
  files = refl;
  parked = refl;
  errors = refl;
  counted = refl;
}

-- and was refused, so that the scene is as it was
pub undeclared-call : (past : List Request) (old : MountSeen) (live : LiveSeen) (scene : SceneSeen) (request : Request) (refusal : Refusal) → HasLedTo past old
    → live.config ≡ old.live.config → IsCall past live request (Err refusal) → scene ≡ old.scene
    → IsAsked past old (record old { live = live; scene = scene }) request (Err refusal)
undeclared-call past old live scene request refusal mounted config call is = record {
  answered = answered-call past old live request (Err refusal) config call;
  mounted = record { lives = call.refused; scene = is ∙ mounted.scene ∙ ap (λ (g : Config). scene_after g.cpus past) (sym config) };
  terms = ap (λ (g : Config). record { config = g; uid = old.uid; gid = old.gid; mode = old.mode }) config;
  files = refl;
  parked = refl;
  errors = refl;
  counted = refl;
}

-- ---- what a write declares

-- the file that a path leads to, of one that is there
meant-file : (past : List Request) (mount : MountSeen) (owner : Owner) (file : File) → HasLedTo past mount → is_there mount.scene (nodes.File owner file) ≡ true
    → (address_of (path_of mount.scene (nodes.File owner file))).file ≡ file_meant mount.scene file
meant-file past mount owner file mounted there =
    ap (λ (a : Address). a.file) (path-address mount.scene owner file (sound-now past mount mounted) there)

-- a write to another file than that of the declarations declares nothing
pub declares-none : (past : List Request) (mount : MountSeen) (owner : Owner) (file : File) (append : Bool) (text : List ℕ) → HasLedTo past mount
    → is_there mount.scene (nodes.File owner file) ≡ true → file ≢ SyntheticEvents → declares (write_of mount.scene (nodes.File owner file) append text) ≡ None
declares-none past mount owner file append text mounted there other =
    ap (λ (f : Option paths.File). declares (WriteFile (address_of (path_of mount.scene (nodes.File owner file))).instance f append text))
    (meant-file past mount owner file mounted there) ∙ by file other
  where
    instance : Option (List ℕ)
    instance = (address_of (path_of mount.scene (nodes.File owner file))).instance

    of-event : (name : Option (List ℕ)) (own : EventFile)
        → declares (WriteFile instance (option_map (λ (n : List ℕ). paths.OfEvent n own) name) append text) ≡ None
    of-event None own = refl
    of-event (Some name) own = refl

    by : (f : File) → f ≢ SyntheticEvents → declares (WriteFile instance (file_meant mount.scene f) append text) ≡ None
    by SyntheticEvents unlike = absurd (unlike refl)
    by (OfInstance own) unlike = refl
    by SystemEnable unlike = refl
    by (OfCpu cpu own) unlike = refl
    by (OfEvent event own) unlike = of-event (event_name event mount.scene.events) own
    by (Inject event) unlike = refl
    by (Tool own) unlike = refl
    by (OfTop own) unlike = refl
    by (CpuSize cpu) unlike = refl
    by (EventId event) unlike = refl
    by ErrorLog unlike = refl
    by (Layout own) unlike = refl
    by (RawPipe cpu) unlike = refl

-- one to that declares what its text says
pub declares-text : (past : List Request) (mount : MountSeen) (owner : Owner) (append : Bool) (text : List ℕ) → HasLedTo past mount
    → is_there mount.scene (nodes.File owner SyntheticEvents) ≡ true
    → declares (write_of mount.scene (nodes.File owner SyntheticEvents) append text) ≡ result_ok (definition_of text)
declares-text past mount owner append text mounted there =
    ap (λ (f : Option paths.File). declares (WriteFile (address_of (path_of mount.scene (nodes.File owner SyntheticEvents))).instance f append text))
    (meant-file past mount owner SyntheticEvents mounted there)

-- memory for it was refused before it was asked
pub undeclared : (past : List Request) (old : MountSeen) (scene : SceneSeen) (owner : Owner) (append : Bool) (text : List ℕ) → HasLedTo past old
    → is_there old.scene (nodes.File owner SyntheticEvents) ≡ true → scene ≡ old.scene
    → IsAsked past old (record old { scene = scene }) (write_of old.scene (nodes.File owner SyntheticEvents) append text) (Err Memory)
undeclared past old scene owner append text mounted there same = record {
  answered = record { reply = λ other. absurd (other refl); takes_none = λ none. absurd (takes none) };
  mounted = record { lives = mounted.lives; scene = same ∙ mounted.scene };
  terms = refl;
  files = refl;
  parked = refl;
  errors = refl;
  counted = refl;
}
  where
    takes : TakesNoMemory past (write_of old.scene (nodes.File owner SyntheticEvents) append text) → ⊥
    takes none =
        subst (λ (f : Option paths.File). TakesNoMemory past (WriteFile (address_of (path_of old.scene (nodes.File owner SyntheticEvents))).instance f append text))
        (meant-file past old owner SyntheticEvents mounted there) none

-- ---- nodes that are found

pub known-there : (scene : SceneSeen) (target : Option Node) (node : Node) → Some node ≡ known scene target → is_there scene node ≡ true
known-there scene None node is = absurd (cc)
known-there scene (Some own) node is = by (is_there scene own) refl is
  where
    by : (t : Bool) → is_there scene own ≡ t → Some node ≡ (if t then Some own else None) → is_there scene node ≡ true
    by true there same = let e : own ≡ node = cc in subst (λ (n : Node). is_there scene n ≡ true) e there
    by false there same = absurd (cc)

abbrev pub AreThere : SceneSeen → Option Node → Type 0
AreThere scene node = IfSome node (λ n. is_there scene n ≡ true)

pub found-there : (scene : SceneSeen) (folder : Node) (name : List ℕ) (node : Option Node) → node ≡ node_named name (children scene folder) → AreThere scene node
found-there scene folder name None is = tt
found-there scene folder name (Some node) is = found_there scene folder node name (sym is)

pub none-there : (scene : SceneSeen) (node : Option Node) → node ≡ None → AreThere scene node
none-there scene node is = subst (AreThere scene) (sym is) tt

-- ---- what stays

pub stays-same : (scene new : SceneSeen) (owner : Owner) (file : File) → is_there scene (nodes.File owner file) ≡ true → new ≡ scene → StaysThere scene new owner file
stays-same scene new owner file there same = record {
  there = ap (λ (s : SceneSeen). is_there s (nodes.File owner file)) same ∙ there;
  path = ap (λ (s : SceneSeen). path_of s (nodes.File owner file)) same;
}

-- the declarations, whatever is declared
pub grown-address : (scene : SceneSeen) (name : List ℕ) (owner : Owner)
    → address_meant (with_event name scene) owner SyntheticEvents ≡ address_meant scene owner SyntheticEvents
grown-address scene name Top = refl
grown-address scene name (Made serial) = refl

pub stays-grown : (scene : SceneSeen) (name : List ℕ) (owner : Owner) → is_there scene (nodes.File owner SyntheticEvents) ≡ true
    → StaysThere scene (with_event name scene) owner SyntheticEvents
stays-grown scene name Top there = record { there = refl; path = refl }
stays-grown scene name (Made serial) there =
    absurd (false≢true (and_parts (owner_is_there scene (Made serial)) (file_is_there scene (Made serial) SyntheticEvents) there).1)

pub on-err : {A E : Type 0} (r : Result A E) (P : Type 0) → P → OnErr r P
on-err (Ok value) P holds = tt
on-err (Err error) P holds = holds
