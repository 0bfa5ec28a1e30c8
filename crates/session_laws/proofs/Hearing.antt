-- What a sink that had heard nothing has heard of a session.
use Rattle.std.proofs.Common.{◌≡◌, ℕ, false, List, [], ◌++◌, sym, ap, ◌∙◌, subst}
use Rattle.std.specs.Prelude.{Some}
use Rattle.std.specs.List.{concat}
use Rattle.std.specs.Io.KnownBytes.{Appends}
use Rattle.trace_command.specs.declared.command.Config.{Config}
use Rattle.script_reader.specs.Items.{items_of}
use Rattle.trace_session.specs.Heard.{Heard, HearsAll, IsHeard}
use Rattle.trace_session.specs.Parts.{IsSession}
use Rattle.trace_session.specs.Sessions.{Session}
use Rattle.trace_session.specs.declared.status.Status.{Status}
use Rattle.session_laws.specs.HeardSessions.{HasHeard}

pub has_heard : (g : Config) (script : List ℕ) (status : Status) (before written : List ℕ) (first heard : List Heard) (session : Session)
    (is : IsSession g script session) → before ≡ [] → first ≡ [] → status ≡ session.status → Appends (Some before) (Some written) (concat session.texts)
    → HearsAll false script (Some before) (items_of script) is.0 (Some first) (Some heard) → HasHeard g script status written heard
has_heard g script status before written first heard session is none unheard told grown (more, all, hears) =
    let only : heard ≡ more = all ∙ ap (λ (hs : List Heard). hs ++ more) unheard in
    let empty : IsHeard false script (Some []) [] (items_of script) is.0 more =
    subst (λ (held : List ℕ). IsHeard false script (Some held) [] (items_of script) is.0 more) none hears in (
      session,
      is,
      told,
      grown ∙ ap (λ (xs : List ℕ). xs ++ concat session.texts) none,
      subst (λ (hs : List Heard). IsHeard false script (Some []) [] (items_of script) is.0 hs) (sym only) empty,
    )
