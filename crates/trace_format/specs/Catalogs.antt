-- The declared events, each behind those that were added before it. The first has the number 1.
use Rattle.std.specs.Prelude.{◌≡◌, ◌≤◌, Vec, ℕ, zero, suc, ◌+◌, nat_le, nat_lt, if◌then◌else◌, bytes_eq, List, [], ◌∷◌, ◌++◌, length, map, Option, None, is_some, option_map, position, slice_get, Result, Ok, Err}
use Rattle.std.specs.List.{AllByRecursion}
use Rattle.std.specs.declared.alloc.Global.{Global}
use Rattle.trace_format.specs.declared.fault.CatalogFault.{CatalogFault}
use Rattle.trace_format.specs.declared.fault.CatalogFault.TheVariants.{EventExists, TooManyFields, TooManyEvents, TooBig, Memory}
use Rattle.trace_format.specs.Definitions.{Definition, IsDefinition}
use Rattle.trace_format.specs.Cells.{record_size_of}

-- the number of the event of a name
abbrev pub id_of : List Definition → List ℕ → Option ℕ
id_of events name = option_map (λ index. index + 1) (position (λ event. bytes_eq name event.name) events)

-- the event of a number
abbrev pub event_of : List Definition → ℕ → Option Definition
event_of events zero = None
event_of events (suc index) = slice_get events index

-- the number that one more event gets, or why it is refused: its name is there; over 16 fields, or 64 events are there; its record is larger
-- than a page
abbrev pub id_for : List Definition → Definition → ℕ → Result ℕ CatalogFault
id_for events definition page_bytes = if is_some (id_of events definition.name) then Err EventExists
    else if nat_lt 16 (length definition.fields) then Err TooManyFields
    else if nat_le 64 (length events) then Err TooManyEvents
    else if nat_lt page_bytes (record_size_of definition) then Err TooBig
    else Ok (length events + 1)

-- what `add` answers, unless memory was refused
abbrev pub IsAdded : Result ℕ CatalogFault → Result ℕ CatalogFault → Type 0
IsAdded (Ok id) added = added ≡ Ok id
IsAdded (Err EventExists) added = added ≡ Err EventExists
IsAdded (Err TooManyFields) added = added ≡ Err TooManyFields
IsAdded (Err TooManyEvents) added = added ≡ Err TooManyEvents
IsAdded (Err TooBig) added = added ≡ Err TooBig
IsAdded (Err Memory) added = Unit {0}

-- what may stand as an event behind the events before it: an event with at most 16 fields, whose name none of them has
pub record IsEvent (before : List Definition) (event : Definition) : Type 0 where
  pub defined : IsDefinition event
  pub few : length event.fields ≤ 16
  pub new : id_of before event.name ≡ None

-- each event may stand behind those before it, so no two have one name
abbrev pub AreEvents : List Definition → List Definition → Type 0
AreEvents before [] = Unit {0}
AreEvents before (event ∷ events) = IsEvent before event × AreEvents (before ++ event ∷ []) events

-- a catalog's table has each event under its name
pub record IsCatalog (entries : List (Vec ℕ Global × Definition)) : Type 0 where
  pub named : AllByRecursion (λ entry. entry.0.items ≡ entry.1.name) entries
  pub few : length entries ≤ 64
  pub events : AreEvents [] (map (λ entry. entry.1) entries)
