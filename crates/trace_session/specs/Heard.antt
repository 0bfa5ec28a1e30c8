-- What a sink hears of lines and of the commands of parts, and of a whole session.
use Rattle.std.specs.Prelude.{◌≡◌, ◌≢◌, ◌⊎◌, ℕ, ◌-◌, Bool, true, List, [], ◌∷◌, ◌++◌, map, flat_map, Option, Some, None, slice_get, unwrap_or}
use Rattle.std.specs.Io.KnownBytes.{Appends}
use Rattle.script_reader.specs.Items.{Item, Single, Threads, Faulty}
use Rattle.script_reader.specs.ScriptLines.{lines_of}
use Rattle.script_reader.specs.declared.part.Numbered.{Numbered}
use Rattle.trace_script.specs.declared.outcome.Outcome.{Outcome}
use Rattle.trace_session.specs.Devices.{AppendsFront}
use Rattle.trace_session.specs.Parts.{Given}
use Rattle.trace_session.specs.Sessions.{status_of}
use Rattle.trace_session.specs.declared.status.Status.{Status}
use Rattle.trace_session.specs.declared.status.Status.TheVariants as statuses

-- what was heard: what became of the line of this number; and the bytes that the sink held by then, where they are known
pub record Heard : Type 0 where
  pub number : ℕ
  pub line : List ℕ
  pub outcome : Option Outcome
  pub held : Option (List ℕ)

abbrev pub heard_of : ℕ → List ℕ → Option Outcome → Option (List ℕ) → Heard
heard_of number line outcome held = record { number = number; line = line; outcome = outcome; held = held }

-- a sink that tells what it heard has heard this too
abbrev pub Hears : Option (List Heard) → Option (List Heard) → List Heard → Type 0
Hears None new more = Unit {0}
Hears (Some heard) None more = ⊥
Hears (Some heard) (Some all) more = all ≡ heard ++ more

-- the line of this number, among lines that are numbered from `first` on
abbrev pub line_at : ℕ → List (List ℕ) → ℕ → List ℕ
line_at first lines number = unwrap_or (slice_get lines (number - first)) []

-- the numbers of the lines of the threads' commands
abbrev pub numbers_in : List (List Numbered) → List ℕ
numbers_in threads = flat_map (map (λ (asked : Numbered). asked.number)) threads

-- what is heard of the lines with these numbers, of which this became, where the sink then held these bytes; `lines` are numbered from `first` on
abbrev pub heard_lines : ℕ → List (List ℕ) → Option (List ℕ) → List ℕ → List (Option Outcome) → List Heard
heard_lines first lines held (number ∷ numbers) (outcome ∷ outcomes) =
    heard_of number (line_at first lines number) outcome held ∷ heard_lines first lines held numbers outcomes
heard_lines first lines held _ _ = []

-- the numbers of the lines that an item tells of: its own, that of each command of a part, or that of the fault of a part
abbrev pub numbers_told : Item → List ℕ
numbers_told (Single number line) = number ∷ []
numbers_told (Threads threads) = numbers_in threads
numbers_told (Faulty at) = at.number ∷ []

-- all texts so far are written before a sink hears of an item with this status: a refusal or a fault; or any, if it wants so
abbrev pub IsWrittenFirst : Bool → Status → Type 0
IsWrittenFirst wants status = (wants ≡ true) ⊎ (status ≢ statuses.Done)

-- What a sink holds when it hears of an item with this status: what it held before the session, and a prefix of these texts, the item's included; all
-- of them, if they are written first (`IsWrittenFirst`).
abbrev pub HoldsTexts : Bool → Option (List ℕ) → Option (List ℕ) → List ℕ → Status → Type 0
HoldsTexts wants old held texts status = AppendsFront old held texts × (IsWrittenFirst wants status → Appends old held texts)

-- This is heard of items in turn that gave this: of each item what became of its lines. `texts` is what the items before them gave; `wants`, whether
-- the sink wants all of it written first (`Sink::wants_output_first`).
abbrev pub IsHeard : Bool → List ℕ → Option (List ℕ) → List ℕ → List Item → List Given → List Heard → Type 0
IsHeard wants script old texts [] given heard = heard ≡ []
IsHeard wants script old texts (item ∷ items) [] heard = heard ≡ []
IsHeard wants script old texts (item ∷ items) (one ∷ given) heard =
    (held : Option (List ℕ)) × (more : List Heard)
    × (heard ≡ heard_lines 1 (lines_of script) held (numbers_told item) one.outcomes ++ more)
    × HoldsTexts wants old held (texts ++ one.text) (status_of one.outcomes) × IsHeard wants script old (texts ++ one.text) items given more

-- a sink that tells what it heard, and held these bytes before, has heard this of items that gave this, and nothing else
abbrev pub HearsAll : Bool → List ℕ → Option (List ℕ) → List Item → List Given → Option (List Heard) → Option (List Heard) → Type 0
HearsAll wants script held items given None new = Unit {0}
HearsAll wants script held items given (Some old) None = ⊥
HearsAll wants script held items given (Some old) (Some all) = (more : List Heard) × (all ≡ old ++ more) × IsHeard wants script held [] items given more
