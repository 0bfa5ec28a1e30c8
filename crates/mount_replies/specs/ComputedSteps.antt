-- What a mounted tracer does and tells, request by request, where no memory is refused: computed, for worked sessions.
use Rattle.std.specs.Prelude.{ℕ, List, [], ◌∷◌, Option, Some, None, Result, Ok, Err}
use Rattle.std.specs.List.{slice_get}
use Rattle.fuse_wire.specs.declared.reply.Reply.{Reply}
use Rattle.fuse_wire.specs.declared.request.Operation.{Operation}
use Rattle.trace_command.specs.Requests.{Request}
use Rattle.trace_command.specs.declared.command.Reply.{Reply as Answer}
use Rattle.trace_command.specs.declared.refusal.Refusal.{Refusal}
use Rattle.tracer.specs.Lives.{live_answer}
use Rattle.mount_tree.specs.declared.node.Node.{Node}
use Rattle.mount_replies.specs.Mounted.{Does, after_count, after_noting, after_outcome, all_done, past_after, stopped_at}
use Rattle.mount_replies.specs.Owed.{Owed, ReplyAt, WakeupAt, owed, step_of_parked}
use Rattle.mount_replies.specs.Served.{step_of}
use Rattle.mount_replies.specs.Services.{Service, Terms, wakeup_at, with_interrupted, with_read, without_read, without_wakeup}
use Rattle.mount_replies.specs.Steps.{Asking, Asks, AsksFor, AsksLines, AsksNothing, AsksNoting, Counts, Interrupts, IsTooLong, IsWrongLine, LineAsked, Noting, Outcome, Parks, Plain, Ran, Step, Takes, Tells}
use Rattle.mount_replies.specs.declared.fault.LineFault.TheVariants.{NoCommand, Refused, TooLong}
use Rattle.mount_replies.specs.declared.parked.Parked.{Parked}

-- ---- lines

abbrev pub answered_line : List Request → ℕ → List ℕ → Request → (List Request → Ran) → Result Answer Refusal → Ran
answered_line past done text request more (Ok answer) = more (request ∷ past)
answered_line past done text request more (Err refusal) = stopped_at past done text (Refused refusal)

abbrev pub run_line : Terms → List Request → ℕ → List ℕ → (List Request → Ran) → Asking → Ran
run_line g past done text more AsksNothing = more past
run_line g past done text more IsWrongLine = stopped_at past done text NoCommand
run_line g past done text more IsTooLong = stopped_at past done text TooLong
run_line g past done text more (AsksFor request) = answered_line past done text request more (live_answer g.config past request)

abbrev pub run_lines : Terms → List Request → ℕ → List LineAsked → Ran
run_lines g past done [] = all_done past done
run_lines g past done (line ∷ lines) =
    run_line g past done line.text (λ (now : List Request). run_lines g now line.end lines) line.asking

-- ---- steps

pub record Did : Type 0 where
  pub reply : Option Reply
  pub now : Service

abbrev pub did_answered : Service → Request → (Result Answer Refusal → Outcome) → Result Answer Refusal → Did
did_answered s request outcome answer =
    record { reply = (outcome answer).reply; now = after_outcome (past_after answer request s.past) (outcome answer) s }

abbrev pub did_noted : Service → Request → (Result Answer Refusal → Outcome) → (Result Answer Refusal → Noting) → Result Answer Refusal → Did
did_noted s request outcome noting answer =
    record { reply = (outcome answer).reply; now = after_noting (past_after answer request s.past) (outcome answer) (noting answer) s }

abbrev pub did_lines : Service → (Ran → Outcome) → (Ran → Noting) → Ran → Did
did_lines s outcome noting ran = record { reply = (outcome ran).reply; now = after_noting ran.past (outcome ran) (noting ran) s }

abbrev pub did : Terms → Service → Step → Did
did g s (Plain outcome) = record { reply = outcome.reply; now = after_outcome s.past outcome s }
did g s (Takes outcome) = record { reply = outcome.reply; now = after_outcome s.past outcome s }
did g s (Asks request outcome) = did_answered s request outcome (live_answer g.config s.past request)
did g s (Parks read) = record { reply = None; now = with_read read s }
did g s (Interrupts unique) = record { reply = None; now = with_interrupted unique s }
did g s (AsksNoting request takes outcome noting) = did_noted s request outcome noting (live_answer g.config s.past request)
did g s (Tells noting takes outcome) = record { reply = outcome.reply; now = after_noting s.past outcome noting s }
did g s (AsksLines lines outcome noting) = did_lines s outcome noting (run_lines g s.past 0 lines)
did g s (Counts count outcome) = record { reply = outcome.reply; now = after_count count outcome s }

-- a step does so
abbrev pub StepsAreComputed : Type 0
StepsAreComputed = (g : Terms) (s : Service) (step : Step) → Does g s step (did g s step).reply (did g s step).now

-- ---- sessions

-- a request of this number by this process, about a node; or none, so that what is owed is told
pub data Turn : Type 0 where
  Asked : (unique pid : ℕ) (node : Node) (operation : Operation) → Turn
  Waited : Turn

-- nothing, the reply to the request of this number, or to a poll that a file is ready
pub data Message : Type 0 where
  Silence : Message
  Replied : (unique : ℕ) (reply : Reply) → Message
  Woken : (wakeup : ℕ) → Message

abbrev pub message_of : ℕ → Option Reply → Message
message_of unique None = Silence
message_of unique (Some reply) = Replied unique reply

pub record Turned : Type 0 where
  pub message : Message
  pub now : Service

abbrev pub turned_by : ℕ → Did → Turned
turned_by unique done = record { message = message_of unique done.reply; now = done.now }

abbrev pub told_read : Terms → Service → ℕ → Option Parked → Turned
told_read g s index None = record { message = Silence; now = s }
told_read g s index (Some read) = turned_by read.unique (did g (without_read index s) (step_of_parked g s read))

abbrev pub told_poll : Service → ℕ → Option ℕ → Turned
told_poll s handle None = record { message = Silence; now = s }
told_poll s handle (Some wakeup) = record { message = Woken wakeup; now = record s { files = without_wakeup handle s.files } }

abbrev pub told_owed : Terms → Service → Option Owed → Turned
told_owed g s None = record { message = Silence; now = s }
told_owed g s (Some (ReplyAt index)) = told_read g s index (slice_get s.parked index)
told_owed g s (Some (WakeupAt handle)) = told_poll s handle (wakeup_at handle s.files)

abbrev pub turned : Terms → Service → Turn → Turned
turned g s (Asked unique pid node operation) = turned_by unique (did g s (step_of g s unique pid (Some node) operation))
turned g s Waited = told_owed g s (owed g s)

-- what is told in each of these turns, one after another
abbrev pub messages : Terms → Service → List Turn → List Message
messages g s [] = []
messages g s (turn ∷ turns) = (turned g s turn).message ∷ messages g (turned g s turn).now turns
