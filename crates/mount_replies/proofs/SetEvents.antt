-- What is written to `set_event` is shown by reads of it.
use Rattle.std.proofs.Common.{◌≡◌, ◌⊎◌, inl, inr, ℕ, Bool, true, false, if◌then◌else◌, List, [], ◌∷◌, option_map, Option, Some, None, Ok, Err, refl, sym, ap, subst, ◌∙◌}
use Rattle.std.specs.List.{flat_map}
use Rattle.std.proofs.lemmas.Bool.{and_parts}
use Rattle.std.proofs.lemmas.Slice.Eq.{bytes_eq-Decides}
use Rattle.trace_command.specs.Paths as paths
use Rattle.trace_command.specs.Requests.{Request, WriteFile}
use Rattle.trace_command.specs.declared.file_name.EventFile.TheVariants as per_event
use Rattle.tracer_specification.specs.Settings.{is_enabled, is_same, written_flag}
use Rattle.mount_tree.proofs.AddressLaws.{path-address}
use Rattle.mount_tree.proofs.AfterRequests.{leaving}
use Rattle.mount_tree.specs.Children.{file_is_there, is_there, owner_is_there}
use Rattle.file_list.specs.FileKinds.{kind_of_file}
use Rattle.mount_tree.specs.NodePaths.{owner_name, path_of}
use Rattle.mount_tree.specs.Scenes.{SceneSeen, event_at}
use Rattle.mount_tree.specs.ScenesAfter.{scene_after}
use Rattle.mount_tree.specs.TreeLaws.{IsSound}
use Rattle.file_list.specs.declared.file.File.{File}
use Rattle.file_list.specs.declared.file.File.TheVariants.{OfEvent, Tool}
use Rattle.mount_tree.specs.declared.node.Node.TheVariants as nodes
use Rattle.mount_tree.specs.declared.node.Owner.{Owner}
use Rattle.mount_tree.specs.declared.scene.Event.{Event}
use Rattle.file_list.specs.declared.files.ToolFile.TheVariants as tools
use Rattle.mount_stub_files.specs.ToolTexts.{enabled_line, event_line, tool_text}
use Rattle.mount_stub_files.specs.ToolWrites.{tool_write}
use Rattle.mount_stub_files.specs.WrongWords.{wrong_offset}
use Rattle.mount_stub_files.specs.declared.write.ToolWrite.{ToolWrite}
use Rattle.mount_stub_files.specs.declared.write.ToolWrite.TheVariants.{Switch}
use Rattle.mount_replies.proofs.AnswerLemmas.{may-noting}
use Rattle.mount_replies.proofs.ShownLemmas.{reason}
use Rattle.mount_replies.proofs.ToolReads.{served_scenes_are_sound}
use Rattle.mount_replies.specs.Errnos.{errno_of}
use Rattle.mount_replies.specs.FileWrites.{begun_now, switch_text, write_file, write_kind, write_other, write_switch, write_there, write_tool}
use Rattle.mount_replies.specs.Lines.{noted_answer}
use Rattle.mount_replies.specs.Mounted.{Does, bytes_of_reply}
use Rattle.mount_replies.specs.PastLaws.{IsReason, instance_of, write_once}
use Rattle.mount_replies.specs.Services.{OpenSeen, Service, Terms, file_at, node_of, scene_of}
use Rattle.mount_replies.specs.SetEvents.{LeavesEvents, SetEventsAreShown, SetsEvent}
use Rattle.mount_replies.specs.Steps.{Step, write_of}

-- ---- the command

same-instance : (instance : Option (List ℕ)) → is_same instance instance ≡ true
same-instance None = refl
same-instance (Some name) = (bytes_eq-Decides name name).1 refl

-- a switch that was written last says whether an event is enabled
switched-last : (instance : Option (List ℕ)) (name : List ℕ) (on : Bool) (past : List Request)
    → is_enabled instance name (write_once instance (paths.OfEvent name per_event.Enable) false (switch_text on) ∷ past) ≡ on
unfolding written_flag
switched-last instance name true past = rw (same-instance instance, (bytes_eq-Decides name name).1 refl) refl
switched-last instance name false past = rw (same-instance instance, (bytes_eq-Decides name name).1 refl) refl

module _ (g : Terms) (s : Service) (owner : Owner) (event : Event) (on : Bool) (sound : IsSound (scene_of g s)) (there : owner_is_there (scene_of g s) owner ≡ true)
    (found : event_at event.index (scene_of g s).events ≡ Some event) where
  abbrev instance : Option (List ℕ)
  instance = owner_name (scene_of g s) owner

  abbrev command : Request
  command = write_once instance (paths.OfEvent event.name per_event.Enable) false (switch_text on)

  switch-there : is_there (scene_of g s) (nodes.File owner (OfEvent event.index per_event.Enable)) ≡ true
  switch-there = rw (there, found) refl

  command-is : write_of (scene_of g s) (nodes.File owner (OfEvent event.index per_event.Enable)) false (switch_text on) ≡ command
  command-is =
      let named : option_map (λ (e : Event). e.name) (event_at event.index (scene_of g s).events) ≡ Some event.name = ap (option_map (λ (e : Event). e.name)) found in
      ap (λ (a : paths.Address). WriteFile a.instance a.file false (switch_text on))
      (path-address (scene_of g s) owner (OfEvent event.index per_event.Enable) sound switch-there
      ∙ ap (λ (n : Option (List ℕ)). record { instance = instance; file = option_map (λ (name : List ℕ). paths.OfEvent name per_event.Enable) n }) named)

  scene-stays : scene_after g.config.cpus (command ∷ s.past) ≡ scene_of g s
  scene-stays = leaving g.config.cpus s.past command refl refl refl

  text-is : tool_text g.config (command ∷ s.past) owner (Tool tools.SetEvent)
      ≡ Some (flat_map (enabled_line instance (command ∷ s.past)) (scene_of g s).events)
  text-is =
      ap (λ (scene : SceneSeen). if is_there scene (nodes.File owner (Tool tools.SetEvent))
      then Some (flat_map (enabled_line (owner_name scene owner) (command ∷ s.past)) scene.events) else None) scene-stays
      ∙ rw there refl

-- ---- the step

there-writes : (g : Terms) (s : Service) (handle lock_owner pid : ℕ) (bytes : List ℕ) (own : OpenSeen) → is_there (scene_of g s) (node_of own) ≡ true
    → write_there g s handle lock_owner pid bytes own ≡ write_kind g s handle lock_owner pid bytes own own.file
there-writes g s handle lock_owner pid bytes own there = rw there refl

switch-step : (g : Terms) (s : Service) (handle lock_owner pid size : ℕ) (bytes : List ℕ) (own : OpenSeen) (switch : File) (on : Bool)
    → file_at handle s.files ≡ Some own → own.file ≡ Tool tools.SetEvent → is_there (scene_of g s) (node_of own) ≡ true
    → tool_write g.config (scene_of g s) own.owner own.file bytes ≡ Switch switch on size
    → write_file g s handle lock_owner pid bytes (file_at handle s.files) ≡ write_switch g s handle own bytes switch on size
switch-step g s handle lock_owner pid size bytes own switch on opened kind there comes =
    ap (λ (f : Option OpenSeen). write_file g s handle lock_owner pid bytes f) opened
    ∙ there-writes g s handle lock_owner pid bytes own there
    ∙ ap (λ (f : File). write_kind g s handle lock_owner pid bytes own f) kind
    ∙ ap (λ (f : File). write_other g s handle own bytes (kind_of_file f)) kind
    ∙ ap (λ (w : ToolWrite). write_tool g s handle own bytes w) comes

pub set_events_are_shown : SetEventsAreShown
set_events_are_shown g turns before after request bytes handle offset lock_owner own file event on size ranges served is asks opened kind there found comes =
    by (subst (λ (s : Step). Does g before s is.reply after)
    (switch-step g before handle lock_owner request.pid size own file (OfEvent event.index per_event.Enable) on opened kind there comes) (rw asks at is.does))
  where
    sound : IsSound (scene_of g before)
    sound = served_scenes_are_sound g turns before ranges served

    own-there : owner_is_there (scene_of g before) file.owner ≡ true
    own-there = (and_parts (owner_is_there (scene_of g before) file.owner) (file_is_there (scene_of g before) file.owner file.file) there).0

    by : Does g before (write_switch g before handle file own (OfEvent event.index per_event.Enable) on size) is.reply after
        → SetsEvent g before file event on request.unique size bytes after ⊎ LeavesEvents g before file event on request.unique bytes after
    by (Err refusal, answered, replied, now) =
        let asked = command-is g before file.owner event on sound own-there found in
        inr (record {
          errno = errno_of refusal;
          why = subst (λ (r : Request). IsReason g before.past r (errno_of refusal)) asked
              (reason g before.past (write_of (scene_of g before) (nodes.File file.owner (OfEvent event.index per_event.Enable)) false (switch_text on)) refusal
              (may-noting g before.past (write_of (scene_of g before) (nodes.File file.owner (OfEvent event.index per_event.Enable)) false (switch_text on)) false
              (noted_answer (begun_now g before file) (path_of (scene_of g before) (nodes.File file.owner (OfEvent event.index per_event.Enable))) (switch_text on)
              own (wrong_offset own)) (Err refusal) answered));
          told = is.told ∙ ap (bytes_of_reply request.unique) replied;
          past = ap (λ (s : Service). s.past) now;
        })
    by (Ok answer, answered, replied, now) =
        let asked = command-is g before file.owner event on sound own-there found in
        let past : after.past ≡ command g before file.owner event on sound own-there found ∷ before.past =
        ap (λ (s : Service). s.past) now ∙ ap (λ (r : Request). r ∷ before.past) asked in
        inl (record {
          told = is.told ∙ ap (bytes_of_reply request.unique) replied;
          asked = past;
          text = ap (λ (p : List Request). tool_text g.config p file.owner (Tool tools.SetEvent)) past
              ∙ text-is g before file.owner event on sound own-there found
              ∙ ap (λ (p : List Request). Some (flat_map (enabled_line (instance_of g before file) p) (scene_of g before).events)) (sym past);
          line = ap (λ (p : List Request). enabled_line (instance_of g before file) p event) past
              ∙ ap (λ (b : Bool). if b then event_line event.name else []) (switched-last (instance_of g before file) event.name on before.past);
        })
