-- What contracts see of consoles and passes, and what is true of their fields.
use Rattle.std.specs.Prelude.{◌≡◌, ℕ, List, Option, Some, None, IfSome, IsSome, is_some}
use Rattle.std.specs.Arc.{arc_value}
use Rattle.shared_mount.specs.MountCallers.{caller_view, line_view, terms_of, IsCallerOf, IsInLineOf}
use Rattle.shared_mount.specs.declared.caller.Caller.{Caller}
use Rattle.library_tracer.specs.ConsolesSeen.{ConsoleSeen, Known}
use Rattle.library_tracer.specs.Sentences.{words_of}
use Rattle.library_tracer.specs.ShownReplies.{IsShownTo}
use Rattle.library_tracer.specs.declared.console.Console.TheInside.{Inside}
use Rattle.library_tracer.specs.declared.last.Last.{Last}
use Rattle.library_tracer.specs.declared.queued.Queued.{Queued}

-- what a caller knows
abbrev pub known_by : Caller → Known
known_by caller = record { view = caller_view caller }

-- and one that is in line
abbrev pub known_in : Queued → Known
known_in queued = record { view = line_view queued.line }

-- by the caller that is idle, or by the one that is in line
abbrev pub known_of : Option Caller → Option Queued → Option Known
known_of (Some caller) queued = Some (known_by caller)
known_of None (Some queued) = Some (known_in queued)
known_of None None = None

-- the words that are kept, if the last call was not done
abbrev pub words_in : Last → List ℕ
words_in last = words_of last.outcome last.words.now

abbrev pub seen : Inside → ConsoleSeen
seen c = record {
  tracer = (arc_value c.tracer).lock.table.shared.table_id;
  terms = terms_of (arc_value c.tracer);
  has = known_of c.idle c.queued;
  is_in_line = is_some c.queued;
  last = c.last.outcome;
  words = words_in c.last;
}

-- The caller is one of its tracer's, and idle or in line. A text that is kept is its file's after all turns that the caller has seen.
pub record IsSound (c : Inside) : Type 0 where
  pub idle : IfSome c.idle (IsCallerOf (arc_value c.tracer))
  pub in_line : IfSome c.queued (λ queued. IsInLineOf (arc_value c.tracer) queued.line)
  pub one : IsSome c.idle → c.queued ≡ None
  pub shown : IfSome c.shown (IsShownTo (seen c))
