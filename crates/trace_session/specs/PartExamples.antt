-- Scripts with faults in their parts, and the one session that each may have. The checker computes them.
use Rattle.std.specs.Prelude.{◌≡◌, ◌↔◌, ℕ, List, [], ◌∷◌, codes}
use Rattle.trace_command.specs.declared.command.Config.{Config}
use Rattle.trace_session.specs.Parts.{IsSession}
use Rattle.trace_session.specs.Sessions.{Session}
use Rattle.trace_session.specs.declared.status.Status.TheVariants as statuses

-- the script has this session and no other
abbrev pub HasOnly : List ℕ → Session → Type 0
HasOnly script lawful = (g : Config) (one : Session) → IsSession g script one ↔ (one ≡ lawful)

-- the session writes this for its lines and parts, and ends with a fault
abbrev pub ends_with_fault : List (List ℕ) → Session
ends_with_fault texts = record { texts = texts; status = statuses.Fault }

-- `end` outside of a part
abbrev pub end_out_of_place : List ℕ
end_out_of_place = codes "# nothing\nend\ncat trace\n"

abbrev pub end_out_of_place_session : Session
end_out_of_place_session = ends_with_fault ([] ∷ codes "! 2: script BlockOutOfPlace\n" ∷ [])

-- a part that has no end, since `end x` is none: told at its first line, before the fault behind it
abbrev pub part_without_end : List ℕ
part_without_end = codes "parallel\nthread\nend x\n"

abbrev pub part_without_end_session : Session
part_without_end_session = ends_with_fault (codes "! 1: script BlockOutOfPlace\n" ∷ [])

-- a part in a part
abbrev pub part_in_a_part : List ℕ
part_in_a_part = codes "parallel\nthread\nparallel\nend\nend\n"

abbrev pub part_in_a_part_session : Session
part_in_a_part_session = ends_with_fault (codes "! 3: script BlockOutOfPlace\n" ∷ [])

-- a command of a part before its first thread, and no fault of a line behind it
abbrev pub command_before_threads : List ℕ
command_before_threads = codes "parallel\n\nmkdir instances/a\nthread\nfoo\nend\n"

abbrev pub command_before_threads_session : Session
command_before_threads_session = ends_with_fault (codes "! 3: script BlockOutOfPlace\n" ∷ [])

-- a fault of a line in a part: nothing of the part is asked
abbrev pub fault_in_a_part : List ℕ
fault_in_a_part = codes "parallel\nthread\nmkdir instances/a\nthread\nfoo\nend\ncat trace\n"

abbrev pub fault_in_a_part_session : Session
fault_in_a_part_session = ends_with_fault (codes "! 5: script UnknownCommand\n" ∷ [])

-- nine threads, at the ninth
abbrev pub nine_threads : List ℕ
nine_threads =
    codes "parallel\nthread\nthread\nmkdir instances/a\nthread\nthread\nthread\nthread\nthread\nthread\nthread\nmkdir instances/b\nend\ncat trace\n"

abbrev pub nine_threads_session : Session
nine_threads_session = ends_with_fault (codes "! 11: script TooManyThreads\n" ∷ [])
