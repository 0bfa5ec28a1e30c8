-- The worked sessions, computed, and the one in bytes by its turns. Each definition that they need and that doesn't unfold by itself is named once.
use Rattle.std.proofs.Common.{◌≡◌, ℕ, true, List, [], ◌∷◌, map, refl, subst}
use Rattle.std.specs.Prelude.{codes}
use Rattle.std.specs.Fmt.{digits}
use Rattle.trace_record.specs.Record.{head_bytes, head_of, timestamp}
use Rattle.page_ring.specs.Account.{account, has_waiting, readings_of, stats_of}
use Rattle.page_ring.specs.Cut.{cut}
use Rattle.trace_buffer.specs.Orders.{merged}
use Rattle.trace_format.specs.Operands.{operand_named}
use Rattle.trace_format.specs.Reading.{definition_of, step}
use Rattle.trace_format.specs.Rows.{row_of, value_of}
use Rattle.record_text.specs.BufferText.{pipe_text, taken_lines}
use Rattle.record_text.specs.FieldText.{field_text}
use Rattle.record_text.specs.RecordText.{cell_text, line_start, record_line, row_line}
use Rattle.record_text.specs.TraceText.{lost_line}
use Rattle.trace_command.specs.Paths.{address_of, below_mount_point, cpu_file, event_file, events_file, instance_of, mount_point, option_file, system_file, top_file}
use Rattle.trace_trigger.specs.TriggerTexts.{count_of, said_of, snapshot_said, snapshot_trigger_of}
use Rattle.trace_script.specs.Lines.{asked_of, emission_of, line_of, named_command, named_line, pair_of, pairs_of, process_id, spoken}
use Rattle.trace_script.specs.Tokens.{tokens_of}
use Rattle.tracer_specification.specs.Emissions.{filter_holds, record_bytes}
use Rattle.tracer_specification.specs.FileTexts.{shown_pipe}
use Rattle.tracer_specification.specs.History.{declaration_answer, emission_answer, switch_answer, trigger_answer}
use Rattle.tracer_specification.specs.Settings.{written_flag}
use Rattle.tracer_specification.specs.Waiting.{waiting}
use Rattle.tracer.specs.Lives.{limited_answer}
use Rattle.file_list.specs.Files.{event_folder}
use Rattle.mount_replies.specs.Injections.{left_out, pairs_of_line}
use Rattle.mount_replies.specs.Lines.{command_lines, stream_lines}
use Rattle.fuse_wire.specs.Parts.{number_bytes}
use Rattle.fuse_wire.specs.declared.request.Operation.{Operation}
use Rattle.fuse_wire.specs.declared.request.Operation.TheVariants.{Flush, Read, Release, Write}
use Rattle.refusal_explanations.specs.Words.{refusal_words, trigger_words}
use Rattle.trace_command.specs.declared.file_name.EventFile.TheVariants as per_event
use Rattle.trace_command.specs.declared.file_name.TopFile.TheVariants as top_files
use Rattle.mount_tree.specs.Nodes.{number_of}
use Rattle.file_list.specs.declared.file.File.{File}
use Rattle.file_list.specs.declared.file.File.TheVariants.{ErrorLog, Inject, OfEvent, OfInstance, SyntheticEvents}
use Rattle.mount_tree.specs.declared.node.Node.TheVariants as nodes
use Rattle.mount_tree.specs.declared.node.Owner.TheVariants.{Top}
use Rattle.mount_replies.proofs.ServedTurns.{AreAskedBy, come, is_asked, message_bytes, turns_are_served}
use Rattle.mount_replies.specs.CallExamples.{CallsWakeReaders}
use Rattle.mount_replies.specs.ComputedSteps.{Asked, Turn, Waited, messages}
use Rattle.mount_replies.specs.MountExamples.{SessionsAreServed, for_reading, for_writing, terms}
use Rattle.mount_replies.specs.Mounted.{Serves}
use Rattle.mount_replies.specs.PastLaws.{just_mounted}
use Rattle.mount_replies.specs.Services.{Service}
use Rattle.mount_replies.specs.SessionBytes.{ByteExchange, SessionIsServed, session}

-- ---- the turns of the session in bytes

-- by process 7, but a RELEASE by none
abbrev asks : ℕ → File → Operation → Turn
asks unique file operation = Asked unique 7 (nodes.File Top file) operation

abbrev releases : ℕ → File → ℕ → Turn
releases unique file handle = Asked unique 0 (nodes.File Top file) (Release handle)

abbrev trigger : File
trigger = OfEvent 0 per_event.Trigger

abbrev enable : File
enable = OfEvent 0 per_event.Enable

abbrev pipe : File
pipe = OfInstance top_files.TracePipe

abbrev turns : List Turn
turns =
    asks 2 SyntheticEvents for_writing ∷ asks 4 SyntheticEvents (Write 0 0 9 (codes "tick u64 n\n")) ∷ releases 6 SyntheticEvents 0
    ∷ asks 8 enable for_writing ∷ asks 10 enable (Write 0 0 9 (codes "1\n")) ∷ releases 12 enable 0
    ∷ asks 14 trigger for_writing ∷ asks 16 trigger (Write 0 0 9 (codes "garbage\n")) ∷ releases 18 trigger 0
    ∷ asks 20 pipe for_reading ∷ asks 22 pipe (Read 0 0 4096 2 32768)
    ∷ asks 24 (Inject 0) for_writing ∷ asks 26 (Inject 0) (Write 1 0 9 (codes "n=5\n")) ∷ Waited
    ∷ asks 28 (Inject 0) (Flush 1 9) ∷ releases 30 (Inject 0) 1 ∷ releases 32 pipe 0
    ∷ asks 34 ErrorLog for_reading ∷ asks 36 ErrorLog (Read 0 0 4096 2 32768) ∷ releases 38 ErrorLog 0
    ∷ []

abbrev requests : List (List ℕ)
requests = map (λ (one : ByteExchange). one.asked) session

are_asked : AreAskedBy requests turns
unfolding number_bytes number_of
are_asked = (
  is_asked 2 7 SyntheticEvents for_writing _ _ tt refl refl,
  (
    is_asked 4 7 SyntheticEvents (Write 0 0 9 (codes "tick u64 n\n")) _ _ tt refl refl,
    (
      is_asked 6 0 SyntheticEvents (Release 0) _ _ tt refl refl,
      (
        is_asked 8 7 enable for_writing _ _ tt refl refl,
        (
          is_asked 10 7 enable (Write 0 0 9 (codes "1\n")) _ _ tt refl refl,
          (
            is_asked 12 0 enable (Release 0) _ _ tt refl refl,
            (
              is_asked 14 7 trigger for_writing _ _ tt refl refl,
              (
                is_asked 16 7 trigger (Write 0 0 9 (codes "garbage\n")) _ _ tt refl refl,
                (
                  is_asked 18 0 trigger (Release 0) _ _ tt refl refl,
                  (
                    is_asked 20 7 pipe for_reading _ _ tt refl refl,
                    (
                      is_asked 22 7 pipe (Read 0 0 4096 2 32768) _ _ tt refl refl,
                      (
                        is_asked 24 7 (Inject 0) for_writing _ _ tt refl refl,
                        (
                          is_asked 26 7 (Inject 0) (Write 1 0 9 (codes "n=5\n")) _ _ tt refl refl,
                          (
                            tt,
                            (
                              is_asked 28 7 (Inject 0) (Flush 1 9) _ _ tt refl refl,
                              (
                                is_asked 30 0 (Inject 0) (Release 1) _ _ tt refl refl,
                                (
                                  is_asked 32 0 pipe (Release 0) _ _ tt refl refl,
                                  (
                                    is_asked 34 7 ErrorLog for_reading _ _ tt refl refl,
                                    (
                                      is_asked 36 7 ErrorLog (Read 0 0 4096 2 32768) _ _ tt refl refl,
                                      (
                                        is_asked 38 0 ErrorLog (Release 0) _ _ tt refl refl,
                                        (
                                            tt),
                                      ),
                                    ),
                                  ),
                                ),
                              ),
                            ),
                          ),
                        ),
                      ),
                    ),
                  ),
                ),
              ),
            ),
          ),
        ),
      ),
    ),
  ),
)

-- ---- what is computed

pub record AreComputed : Type 0 where
  pub sessions : SessionsAreServed
  pub calls : CallsWakeReaders
  pub come : come terms just_mounted turns ≡ true
  pub told : map message_bytes (messages terms just_mounted turns) ≡ map (λ (one : ByteExchange). one.told) session

pub are_computed : AreComputed
unfolding digits head_bytes head_of timestamp account has_waiting readings_of stats_of cut merged operand_named definition_of step row_of value_of
    pipe_text taken_lines field_text cell_text line_start record_line row_line lost_line
    address_of below_mount_point cpu_file event_file events_file instance_of mount_point option_file system_file top_file
    asked_of emission_of line_of named_command named_line pair_of pairs_of process_id spoken tokens_of
    filter_holds record_bytes shown_pipe declaration_answer emission_answer switch_answer written_flag waiting limited_answer
    event_folder left_out pairs_of_line command_lines stream_lines
    number_bytes number_of trigger_answer said_of snapshot_said snapshot_trigger_of count_of refusal_words trigger_words
are_computed = record {
  sessions = record {
    events = refl;
    pipes = refl;
    pages = refl;
  };
  calls = record {
    quiet = refl;
    answer = refl;
    owes = refl;
    tells = refl;
  };
  come = refl;
  told = refl;
}

pub session_is_served : SessionIsServed
session_is_served =
    let P : List (List ℕ) → Type 0 = λ told. (after : Service) × Serves terms just_mounted requests told after in
    subst P are_computed.told (turns_are_served terms just_mounted requests turns are_asked are_computed.come)
