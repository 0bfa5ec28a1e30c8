-- A switch that a file's word means is there.
use Rattle.std.proofs.Common.{◌≡◌, ℕ, ◌==◌, ◌+◌, Bool, true, false, not, ◌&&◌, ◌||◌, nat_lt, cond, if◌then◌else◌, is_some, eq-eqb, List, [], ◌∷◌, length, take, drop, Option, Some, None, codes, refl, sym, subst}
use Rattle.std.proofs.lemmas.Bool.{and_parts}
use Rattle.std.specs.List.{find, prefix_len}
use Rattle.std.specs.Option.{option_map}
use Rattle.std.specs.Str.{bytes_eq}
use Rattle.trace_lex.specs.Decimals.{written_number}
use Rattle.trace_command.specs.declared.command.Config.{Config}
use Rattle.trace_command.specs.declared.file_name.EventFile.TheVariants as per_event
use Rattle.trace_command.specs.declared.file_name.TopFile.TheVariants as top
use Rattle.file_list.specs.declared.file.File.{File}
use Rattle.file_list.specs.declared.file.File.TheVariants.{SyntheticEvents, OfInstance, SystemEnable, OfCpu, OfEvent, Inject, Tool, OfTop, CpuSize, EventId, ErrorLog, Layout, RawPipe}
use Rattle.file_list.specs.declared.files.ToolFile.{ToolFile}
use Rattle.file_list.specs.declared.files.ToolFile.TheVariants as tools
use Rattle.file_list.specs.declared.files.TopTool.TheVariants as top_tools
use Rattle.mount_tree.specs.Children.{file_is_there, is_there, owner_is_there}
use Rattle.mount_tree.specs.Scenes.{SceneSeen, event_at}
use Rattle.mount_tree.specs.declared.node.Node.TheVariants as nodes
use Rattle.mount_tree.specs.declared.node.Owner.{Owner}
use Rattle.mount_tree.specs.declared.scene.Event.{Event}
use Rattle.mount_stub_files.specs.EventWords.{is_any, is_no_colon, is_off, is_system, named, switch_of, switch_of_all, switch_of_both, switch_of_event, switch_of_one}
use Rattle.mount_stub_files.specs.ToolTexts.{cpu_mask, ring_kilobytes}
use Rattle.mount_stub_files.specs.ToolWrites.{events_write, is_number, switched, tool_file_write, tool_write, write_there}
use Rattle.mount_stub_files.specs.Words.{first_word, only_word, word_size}
use Rattle.mount_stub_files.specs.declared.write.ToolWrite.{ToolWrite}
use Rattle.mount_stub_files.specs.declared.write.ToolWrite.TheVariants.{Missing, Wrong, Same, Switch}

-- a switch that is there, if one is meant
abbrev pub MeansThere : SceneSeen → Owner → Option File → Type 0
MeansThere scene owner None = Unit {0}
MeansThere scene owner (Some file) = is_there scene (nodes.File owner file) ≡ true

abbrev pub SwitchesThere : SceneSeen → Owner → ToolWrite → Type 0
SwitchesThere scene owner (Switch file on size) = is_there scene (nodes.File owner file) ≡ true
SwitchesThere scene owner _ = Unit {0}

-- what one test finds another one does, if it passes it
found-any : (p q : Event → Bool) (events : List Event) (event : Event) → find p events ≡ Some event → q event ≡ true → is_some (find q events) ≡ true
found-any p q [] event found holds = absurd (cc)
found-any p q (first ∷ events) event found holds = by (p first) found (found-any p q events event)
  where
    here : q first ≡ true → is_some (find q (first ∷ events)) ≡ true
    here is = rw is refl

    later : (t : Bool) → is_some (find q events) ≡ true → is_some (cond t (Some first) (find q events)) ≡ true
    later true rest = refl
    later false rest = rest

    by : (t : Bool) → cond t (Some first) (find p events) ≡ Some event → (find p events ≡ Some event → q event ≡ true → is_some (find q events) ≡ true)
        → is_some (find q (first ∷ events)) ≡ true
    by true same rest = let e : first ≡ event = cc in here (subst (λ (x : Event). q x ≡ true) (sym e) holds)
    by false more rest = later (q first) (rest more holds)

module _ (scene : SceneSeen) (owner : Owner) (there : owner_is_there scene owner ≡ true) where
  both : (b : Bool) → b ≡ true → owner_is_there scene owner && b ≡ true
  both b is = rw (there, is) refl

  event-there : (name : List ℕ) (found : Option Event) → find (λ (e : Event). bytes_eq e.name name) scene.events ≡ found
      → MeansThere scene owner (option_map (λ (e : Event). OfEvent e.index per_event.Enable) found)
  event-there name None found = tt
  event-there name (Some event) found =
      both (is_some (event_at event.index scene.events))
      (found-any (λ (e : Event). bytes_eq e.name name) (λ (e : Event). e.index == event.index) scene.events event found (eq-eqb event.index event.index refl))

  all-there : MeansThere scene owner (switch_of_all scene)
  all-there = by (length scene.events == 0)
    where
      by : (none : Bool) → MeansThere scene owner (if none then None else Some (OfInstance top.EventsEnable))
      by true = tt
      by false = both true refl

  either : (b : Bool) (one other : Option File) → MeansThere scene owner one → MeansThere scene owner other → MeansThere scene owner (if b then one else other)
  either true one other first second = first
  either false one other first second = second

  named-there : (name : List ℕ) → MeansThere scene owner (switch_of_event scene name)
  named-there name = event-there name (find (λ (e : Event). bytes_eq e.name name) scene.events) refl

  both-there : (system event : List ℕ) → MeansThere scene owner (switch_of_both scene system event)
  both-there system event =
      either (is_any system || is_system system) (if is_any event then switch_of_all scene else switch_of_event scene event) None
      (either (is_any event) (switch_of_all scene) (switch_of_event scene event) all-there (named-there event)) tt

  word-there : (name : List ℕ) → MeansThere scene owner (switch_of scene name)
  word-there name =
      either (nat_lt (prefix_len is_no_colon name) (length name))
      (switch_of_both scene (take (prefix_len is_no_colon name) name) (drop (prefix_len is_no_colon name + 1) name)) (switch_of_one scene name)
      (both-there (take (prefix_len is_no_colon name) name) (drop (prefix_len is_no_colon name + 1) name))
      (either (is_system name) (switch_of_all scene) (switch_of_event scene name) all-there (named-there name))

  switched-there : (on : Bool) (size : ℕ) (file : Option File) → MeansThere scene owner file → SwitchesThere scene owner (switched on size file)
  switched-there on size None means = tt
  switched-there on size (Some file) means = means

  same-there : (b : Bool) → SwitchesThere scene owner (if b then Same else Wrong)
  same-there true = tt
  same-there false = tt

  events-there : (bytes : List ℕ) → SwitchesThere scene owner (events_write scene bytes)
  events-there bytes = by (length (first_word bytes) == 0)
    where
      by : (none : Bool) → SwitchesThere scene owner
          (if none then Same else switched (not (is_off (first_word bytes))) (word_size bytes) (switch_of scene (named (first_word bytes))))
      by true = tt
      by false =
          switched-there (not (is_off (first_word bytes))) (word_size bytes) (switch_of scene (named (first_word bytes))) (word-there (named (first_word bytes)))

  tool-there : (g : Config) (file : ToolFile) (bytes : List ℕ) → SwitchesThere scene owner (tool_file_write g scene file bytes)
  tool-there g tools.CurrentTracer bytes = same-there (bytes_eq (only_word bytes) (codes "nop"))
  tool-there g tools.TraceClock bytes = same-there (bytes_eq (only_word bytes) (codes "counter"))
  tool-there g tools.TracingCpumask bytes = same-there (bytes_eq (only_word bytes) (cpu_mask scene.cpus))
  tool-there g tools.BufferSizeKb bytes = same-there (is_number (ring_kilobytes g) (written_number (only_word bytes)))
  tool-there g tools.SetEvent bytes = events-there bytes
  tool-there g tools.AvailableTracers bytes = tt
  tool-there g tools.TimestampMode bytes = tt
  tool-there g tools.BufferTotalSizeKb bytes = tt

  file-there : (g : Config) (file : File) (bytes : List ℕ) → SwitchesThere scene owner (write_there g scene file bytes)
  file-there g (Tool file) bytes = tool-there g file bytes
  file-there g (CpuSize cpu) bytes = same-there (is_number (ring_kilobytes g) (written_number (only_word bytes)))
  file-there g (OfTop top_tools.TracingThresh) bytes = same-there (is_number 0 (written_number (only_word bytes)))
  file-there g (OfTop top_tools.AvailableEvents) bytes = tt
  file-there g (OfTop top_tools.Readme) bytes = tt
  file-there g (OfTop top_tools.SavedCmdlines) bytes = tt
  file-there g (OfTop top_tools.PrintkFormats) bytes = tt
  file-there g SyntheticEvents bytes = tt
  file-there g (OfInstance file) bytes = tt
  file-there g SystemEnable bytes = tt
  file-there g (OfCpu cpu file) bytes = tt
  file-there g (OfEvent event file) bytes = tt
  file-there g (Inject event) bytes = tt
  file-there g (EventId event) bytes = tt
  file-there g ErrorLog bytes = tt
  file-there g (Layout file) bytes = tt
  file-there g (RawPipe cpu) bytes = tt

-- what a write to a file that tools ask for switches is there
pub switch-there : (g : Config) (scene : SceneSeen) (owner : Owner) (file : File) (bytes : List ℕ) (switch : File) (on : Bool) (size : ℕ)
    → Switch switch on size ≡ tool_write g scene owner file bytes → is_there scene (nodes.File owner switch) ≡ true
switch-there g scene owner file bytes switch on size is = by (is_there scene (nodes.File owner file)) refl is
  where
    by : (t : Bool) → is_there scene (nodes.File owner file) ≡ t → Switch switch on size ≡ (if t then write_there g scene file bytes else Missing)
        → is_there scene (nodes.File owner switch) ≡ true
    by true there same =
        subst (SwitchesThere scene owner) (sym same)
        (file-there scene owner (and_parts (owner_is_there scene owner) (file_is_there scene owner file) there).0 g file bytes)
    by false there same = absurd (cc)
