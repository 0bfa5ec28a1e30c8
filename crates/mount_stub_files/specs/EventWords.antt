-- What the words mean that are written to `set_event` (events.rst, "Via the 'set_event' interface"): `NAME`, `SYSTEM`, `SYSTEM:NAME`, `SYSTEM:*`,
-- `*:*`, each with a `!` before it to switch off. The one system is `synthetic`.
use Rattle.std.specs.Prelude.{ℕ, ◌+◌, ◌==◌, nat_lt, Bool, false, not, ◌||◌, if◌then◌else◌, List, [], ◌∷◌, length, take, drop, Option, Some, None, codes}
use Rattle.std.specs.List.{find, prefix_len}
use Rattle.std.specs.Option.{option_map}
use Rattle.std.specs.Str.{bytes_eq}
use Rattle.trace_command.specs.declared.file_name.EventFile.TheVariants as per_event
use Rattle.trace_command.specs.declared.file_name.TopFile.TheVariants as top
use Rattle.mount_tree.specs.Scenes.{SceneSeen}
use Rattle.file_list.specs.declared.file.File.{File}
use Rattle.file_list.specs.declared.file.File.TheVariants.{OfInstance, OfEvent}
use Rattle.mount_tree.specs.declared.scene.Event.{Event}

-- a `!` is 33
abbrev pub is_off : List ℕ → Bool
is_off [] = false
is_off (b ∷ bytes) = b == 33

abbrev pub named : List ℕ → List ℕ
named word = if is_off word then drop 1 word else word

-- a colon is 58
abbrev pub is_no_colon : ℕ → Bool
is_no_colon b = not (b == 58)

-- nothing and `*` mean any
abbrev pub is_any : List ℕ → Bool
is_any name = length name == 0 || bytes_eq name (codes "*")

abbrev pub is_system : List ℕ → Bool
is_system name = bytes_eq name (codes "synthetic")

-- the switch of the event of a name, if there is one: its `enable`
abbrev pub switch_of_event : SceneSeen → List ℕ → Option File
switch_of_event scene name =
    option_map (λ (e : Event). OfEvent e.index per_event.Enable) (find (λ (e : Event). bytes_eq e.name name) scene.events)

-- the switch of all events, if there is any event: `events/enable`
abbrev pub switch_of_all : SceneSeen → Option File
switch_of_all scene = if length scene.events == 0 then None else Some (OfInstance top.EventsEnable)

-- what comes before a colon and after it
abbrev pub switch_of_both : SceneSeen → List ℕ → List ℕ → Option File
switch_of_both scene system event =
    if is_any system || is_system system
    then (if is_any event then switch_of_all scene else switch_of_event scene event)
    else None

abbrev pub switch_of_one : SceneSeen → List ℕ → Option File
switch_of_one scene name = if is_system name then switch_of_all scene else switch_of_event scene name

-- the switch that a name means, if there is what it names
abbrev pub switch_of : SceneSeen → List ℕ → Option File
switch_of scene name =
    if nat_lt (prefix_len is_no_colon name) (length name)
    then switch_of_both scene (take (prefix_len is_no_colon name) name) (drop (prefix_len is_no_colon name + 1) name)
    else switch_of_one scene name
