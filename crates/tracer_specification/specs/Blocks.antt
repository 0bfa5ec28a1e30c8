-- What several callers asked of one history side by side, and what they were answered: the trail of each, over the same entries.
use Rattle.std.specs.Prelude.{◌≡◌, ◌≢◌, ℕ, List, ◌++◌, All, Any, AllPairs, Result, Err}
use Rattle.tracer_specification.specs.History.{IsLegal}
use Rattle.tracer_specification.specs.Trails.{IsTrail}
use Rattle.trace_command.specs.Commands.{Command}
use Rattle.trace_command.specs.declared.command.Config.{Config}
use Rattle.trace_command.specs.declared.command.Entry.{Entry}
use Rattle.trace_command.specs.declared.command.Reply.{Reply}
use Rattle.trace_command.specs.declared.refusal.Refusal.{Refusal}
use Rattle.trace_command.specs.declared.refusal.Refusal.TheVariants.{Worn}

-- a caller's number, what it asked, and what it was answered
pub record Trail : Type 0 where
  pub by : ℕ
  pub commands : List Command
  pub replies : List (Result Reply Refusal)

-- what the caller asked and was answered stands in the history that was `before` and went on by `after`
abbrev pub StandsIn : Config → List Entry → List Entry → Trail → Type 0
StandsIn g before after trail = IsTrail g trail.by before after trail.commands trail.replies

-- Several callers' trails over one history: each stands in it, no two callers have one number, each entry since is of one of them, and the
-- history is legal.
pub record IsBlock (g : Config) (before after : List Entry) (trails : List Trail) : Type 0 where
  pub each : All (StandsIn g before after) trails
  pub distinct : AllPairs (λ (one other : Trail). one.by ≢ other.by) trails
  pub callers : All (λ (entry : Entry). Any (λ (trail : Trail). trail.by ≡ entry.by) trails) after
  pub legal : IsLegal g (before ++ after)

-- no reply is Worn
abbrev pub IsUnworn : List (Result Reply Refusal) → Type 0
IsUnworn replies = All (λ (reply : Result Reply Refusal). reply ≢ Err Worn) replies
