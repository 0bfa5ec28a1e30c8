-- Each script has a lawful session, and what was begun is the beginning of one. A session's tickets have 64 bits, so both are said of scripts that are
-- not too long for them, as is each that is read (`MOST_SCRIPT_BYTES`), and of configurations in range.
use Rattle.std.specs.Prelude.{◌≡◌, ℕ, ◌<◌, ◌^◌, List, ◌++◌, map, length, take}
use Rattle.trace_command.specs.Configs.{IsInRange}
use Rattle.trace_command.specs.declared.command.Config.{Config}
use Rattle.script_reader.specs.Items.{Item, items_of}
use Rattle.trace_session.specs.Fronts.{HasGiven}
use Rattle.trace_session.specs.Parts.{Given, IsSession, IsBegun}
use Rattle.trace_session.specs.Sessions.{Progress, Session, beginning}

-- a script has a session
abbrev pub EachScriptHasASession : Type 0
EachScriptHasASession = (g : Config) (script : List ℕ) → IsInRange g → length script < 2 ^ 63 → (one : Session) × IsSession g script one

-- these texts are the first that some session of the script writes
abbrev pub BeginsASession : Config → List ℕ → List (List ℕ) → Type 0
BeginsASession g script texts = (one : Session) × IsSession g script one × (count : ℕ) × (texts ≡ take count one.texts)

-- what the first items of a script gave, as many as a session came to: whatever order the commands of its parts had
abbrev pub BegunSessionsGoOn : Type 0
BegunSessionsGoOn = (g : Config) (script : List ℕ) (texts : List (List ℕ)) → IsInRange g → length script < 2 ^ 63
    → IsBegun g script texts → BeginsASession g script texts

-- what items in turn gave, none of them a fault, as those before a part at which a gate stopped the session (`IsStopped`)
abbrev pub StoppedSessionsGoOn : Type 0
StoppedSessionsGoOn = (g : Config) (script : List ℕ) (done rest : List Item) (given : List Given) (after : Progress) → IsInRange g → length script < 2 ^ 63
    → items_of script ≡ done ++ rest → HasGiven g beginning done given after → BeginsASession g script (map (λ (one : Given). one.text) given)
