-- No record goes to two readers, whatever a mounted tracer served (ftrace.rst, "The File System", `trace_pipe`).
use Rattle.std.specs.Prelude.{◌≡◌, ◌≢◌, ◌⊎◌, ℕ, ◌==◌, ◌≤◌, true, List, [], ◌∷◌, Option, Some, Ok}
use Rattle.std.specs.List.{count_by}
use Rattle.trace_record.specs.Record.{timestamp}
use Rattle.trace_command.specs.Configs.{IsInRange}
use Rattle.trace_command.specs.Paths as paths
use Rattle.trace_command.specs.Requests.{ReadFile}
use Rattle.trace_command.specs.declared.command.Reply.{Reply as Answer}
use Rattle.tracer_specification.specs.History.{answer_with_room}
use Rattle.history_laws.specs.ReadOnce.{read_records}
use Rattle.history_laws.specs.ReadsInParts.{is_pipe}
use Rattle.file_list.specs.FileKinds.{kind_of_file}
use Rattle.file_list.specs.declared.file.File.{File}
use Rattle.file_list.specs.declared.file.FileKind.TheVariants as kinds
use Rattle.mount_replies.specs.Mounted.{IsExchanged, Serves}
use Rattle.mount_replies.specs.ParkedLaws.{taken_for}
use Rattle.mount_replies.specs.PastLaws.{instance_of, just_mounted}
use Rattle.mount_replies.specs.Pipes.{pipe_meant}
use Rattle.mount_replies.specs.Services.{OpenSeen, Service, Terms, file_at, scene_of}
use Rattle.mount_replies.specs.Sizes.{text_in}

-- Of the records of a CPU that the reads of an instance's pipes took, by all commands that were done, at most one has a given timestamp: each emission
-- has its own, so no record was taken twice, whatever was emptied, exchanged or made again in between.
abbrev pub NoRecordIsTakenTwice : Type 0
NoRecordIsTakenTwice =
    (g : Terms) (requests messages : List (List ℕ)) (after : Service) (instance : Option (List ℕ)) (cpu time : ℕ)
    → Serves g just_mounted requests messages after
    → count_by (λ r. timestamp r.rec == time) (read_records g.config instance cpu after.past) ≤ 1

-- reads of a file consume records: it is a pipe, or has the binary pages of a CPU's
abbrev pub ReadsConsume : File → Type 0
ReadsConsume file = (kind_of_file file ≡ kinds.Pipe) ⊎ (kind_of_file file ≡ kinds.RawPipe)

-- this text is what a read of an open file's pipe answers, of so many records at most, and the exchange did this command and no other
pub record IsTakenByRead (g : Terms) (before after : Service) (file : OpenSeen) (text : List ℕ) : Type 0 where
  pub pipe : paths.File
  pub meant : pipe_meant (scene_of g before) file.file ≡ Some pipe
  pub piped : is_pipe pipe ≡ true
  pub limit : ℕ
  pub answer : Answer
  pub answered : answer_with_room g.config before.past (ReadFile (instance_of g before file) (Some pipe) (Some limit)) ≡ Ok answer
  pub is : text ≡ text_in answer
  pub now : after.past ≡ ReadFile (instance_of g before file) (Some pipe) (Some limit) ∷ before.past

-- What an exchange took for a file that is open and whose reads consume is the text of one such read. Of binary pages the records that this text tells are
-- taken, and the page tells them.
abbrev pub TakenIsOfOneRead : Type 0
TakenIsOfOneRead =
    (g : Terms) (requests messages : List (List ℕ)) (before : Service) (asked bytes : List ℕ) (after : Service) (exchanged : IsExchanged g before asked bytes after)
    (handle : ℕ) (file : OpenSeen)
    → IsInRange g.config → Serves g just_mounted requests messages before → file_at handle before.files ≡ Some file → ReadsConsume file.file
    → (taken_for handle g before asked bytes after exchanged ≡ [])
    ⊎ IsTakenByRead g before after file (taken_for handle g before asked bytes after exchanged)

-- and it is for one handle alone
abbrev pub ExchangesTakeForOne : Type 0
ExchangesTakeForOne =
    (g : Terms) (before : Service) (asked bytes : List ℕ) (after : Service) (exchanged : IsExchanged g before asked bytes after) (handle other : ℕ)
    → taken_for handle g before asked bytes after exchanged ≢ [] → taken_for other g before asked bytes after exchanged ≢ [] → handle ≡ other
