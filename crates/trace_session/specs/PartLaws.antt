-- What the sessions of scripts with parts come to.
use Rattle.std.specs.Prelude.{◌≡◌, ◌↔◌, ℕ, List, take}
use Rattle.trace_command.specs.declared.command.Config.{Config}
use Rattle.script_reader.specs.Items.{HasNoPart}
use Rattle.trace_session.specs.Parts.{IsSession, IsBegun}
use Rattle.trace_session.specs.Sessions.{Session, session}

-- a script without parts has one session
abbrev pub OneThreadHasOneSession : Type 0
OneThreadHasOneSession = (g : Config) (script : List ℕ) (one : Session) → HasNoPart script → IsSession g script one ↔ (one ≡ session g script)

-- and what a script without parts began to write is the first texts of that session
abbrev pub OneThreadBeginsOneSession : Type 0
OneThreadBeginsOneSession = (g : Config) (script : List ℕ) (texts : List (List ℕ)) → HasNoPart script → IsBegun g script texts
    → (count : ℕ) × (texts ≡ take count (session g script).texts)
