-- The scripts with faults in their parts, computed.
use Rattle.std.proofs.Common.{◌≡◌, ℕ, List, refl, ◌∙◌, sym}
use Rattle.std.specs.Fmt.{digits}
use Rattle.trace_command.specs.declared.command.Config.{Config}
use Rattle.script_reader.specs.Items.{item_at, items_of}
use Rattle.trace_script.specs.Lines.{process_id, pair_of, pairs_of, emission_of, write_of, read_of, take_of, mkdir_of, rmdir_of, named_command, named_line, asked_of, spoken, line_of}
use Rattle.trace_script.specs.Rendering.{detail_of, fault_name, refusal_line, fault_line}
use Rattle.trace_script.specs.Tokens.{tokens_of}
use Rattle.trace_session.proofs.PartSessions.{ArePlain, plain_given, plain_sessions}
use Rattle.trace_session.specs.Parts.{session_with}
use Rattle.trace_session.specs.PartExamples.{HasOnly, end_out_of_place, end_out_of_place_session, part_without_end, part_without_end_session, part_in_a_part, part_in_a_part_session, command_before_threads, command_before_threads_session, fault_in_a_part, fault_in_a_part_session, nine_threads, nine_threads_session}
use Rattle.trace_session.specs.Sessions.{Session, beginning, turn_of}

has_only : (script : List ℕ) (lawful : Session) → ArePlain (items_of script) → ((g : Config) → session_with (plain_given g beginning (items_of script)) ≡ lawful)
    → HasOnly script lawful
has_only script lawful plain is g one =
    let both = plain_sessions g script one plain in
    (λ h. both.0 h ∙ is g, λ h. both.1 (h ∙ sym (is g)))

pub record ArePlayed : Type 0 where
  pub end : HasOnly end_out_of_place end_out_of_place_session
  pub endless : HasOnly part_without_end part_without_end_session
  pub inner : HasOnly part_in_a_part part_in_a_part_session
  pub command : HasOnly command_before_threads command_before_threads_session
  pub fault : HasOnly fault_in_a_part fault_in_a_part_session
  pub nine : HasOnly nine_threads nine_threads_session

pub examples_are_played : ArePlayed
unfolding item_at items_of turn_of digits process_id pair_of pairs_of emission_of write_of read_of take_of mkdir_of rmdir_of named_command named_line asked_of
    spoken line_of detail_of fault_name refusal_line fault_line tokens_of
examples_are_played = record {
  end = has_only end_out_of_place end_out_of_place_session tt (λ g. refl);
  endless = has_only part_without_end part_without_end_session tt (λ g. refl);
  inner = has_only part_in_a_part part_in_a_part_session tt (λ g. refl);
  command = has_only command_before_threads command_before_threads_session tt (λ g. refl);
  fault = has_only fault_in_a_part fault_in_a_part_session tt (λ g. refl);
  nine = has_only nine_threads nine_threads_session tt (λ g. refl);
}
