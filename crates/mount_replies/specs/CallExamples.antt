-- A call of the program at a mounted tracer of one CPU, worked by hand: `cat trace_pipe` waits, the program emits, and what `cat` reads is owed then. The
-- checker computes it.
use Rattle.std.specs.Prelude.{◌≡◌, pos, List, [], ◌∷◌, ◌++◌, Some, None, Ok, map, codes}
use Rattle.fuse_wire.specs.declared.reply.Reply.TheVariants.{Data, Opened}
use Rattle.trace_command.specs.Requests.{Emission, Request}
use Rattle.trace_command.specs.declared.command.Reply.TheVariants.{Done}
use Rattle.trace_command.specs.declared.file_name.TopFile.TheVariants as top_files
use Rattle.tracer.specs.Lives.{live_answer}
use Rattle.file_list.specs.declared.file.File.TheVariants.{OfInstance}
use Rattle.mount_replies.specs.Calls.{after_call}
use Rattle.mount_replies.specs.ComputedSteps.{Replied, Turn, Waited, messages, turned}
use Rattle.mount_replies.specs.MountExamples.{Exchange, asks, asks_in_vain, declares, for_reading, reads, sets_events, terms}
use Rattle.mount_replies.specs.Owed.{ReplyAt, owed}
use Rattle.mount_replies.specs.PastLaws.{just_mounted}
use Rattle.mount_replies.specs.Services.{Service, Terms}

-- what a mounted tracer is after these turns, where no memory is refused
abbrev pub after_turns : Terms → Service → List Turn → Service
after_turns g s [] = s
after_turns g s (turn ∷ turns) = after_turns g (turned g s turn).now turns

-- cat trace_pipe, of an event that is enabled
abbrev pub waits_to_read : List Exchange
waits_to_read =
    asks 30 (OfInstance top_files.TracePipe) for_reading (Opened 0 53)
    ∷ asks_in_vain 32 (OfInstance top_files.TracePipe) (reads 0)
    ∷ []

abbrev pub before_call : Service
before_call = after_turns terms just_mounted (map (λ (one : Exchange). one.turn) (declares ++ sets_events ++ waits_to_read))

-- the program, process 7, emits the event
abbrev pub emission : Request
emission = Emission (codes "tick") 0 (pos 7) (record { name = codes "n"; value = codes "5" } ∷ [])

abbrev pub after_emission : Service
after_emission = after_call terms emission (live_answer terms.config before_call.past emission) before_call

pub record CallsWakeReaders : Type 0 where
  pub quiet : owed terms before_call ≡ None
  pub answer : live_answer terms.config before_call.past emission ≡ Ok Done
  pub owes : owed terms after_emission ≡ Some (ReplyAt 0)
  pub tells : messages terms after_emission (Waited ∷ []) ≡ Replied 32 (Data (codes "7 [000] 1: tick: n=5\n")) ∷ []
