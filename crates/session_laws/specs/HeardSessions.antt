-- What a listener heard of a session.
use Rattle.std.specs.Prelude.{◌≡◌, ℕ, false, List, [], Some}
use Rattle.std.specs.List.{concat}
use Rattle.trace_command.specs.declared.command.Config.{Config}
use Rattle.script_reader.specs.Items.{items_of}
use Rattle.trace_session.specs.Heard.{Heard, heard_of, IsHeard}
use Rattle.trace_session.specs.Parts.{IsSession}
use Rattle.trace_session.specs.Sessions.{Session}
use Rattle.trace_session.specs.declared.status.Status.{Status}
use Rattle.session_laws.specs.declared.heard_lines.HeardLine.{HeardLine}

-- what was heard of a line, where the bytes that were written by then are known
abbrev pub heard_in : HeardLine → Heard
heard_in line = heard_of line.number line.line.bytes line.outcome.value (Some line.held.value.bytes)

-- A sink that held nothing and had heard nothing was written all that a lawful session of the script writes. It heard of each item what became of its
-- lines, in order, and of nothing else; of a refusal or a fault once all texts up to it were written.
abbrev pub HasHeard : Config → List ℕ → Status → List ℕ → List Heard → Type 0
HasHeard g script status written heard =
    (session : Session) × (is : IsSession g script session) × (status ≡ session.status) × (written ≡ concat session.texts)
    × IsHeard false script (Some []) [] (items_of script) is.0 heard
