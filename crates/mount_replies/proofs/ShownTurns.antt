-- Turns in which a request was served of a text that was made beside the turns.
use Rattle.std.proofs.Common.{◌≡◌, inl, inr, ℕ, Bool, true, false, if◌then◌else◌, List, Option, Some, None, refl, sym, ap, ◌∙◌}
use Rattle.std.specs.Option.{option_map}
use Rattle.std.proofs.lemmas.Bool.{false≢true}
use Rattle.std.proofs.lemmas.Option.{none-some}
use Rattle.fuse_wire.specs.declared.reply.Reply.{Reply}
use Rattle.fuse_wire.specs.declared.request.Operation.{Operation}
use Rattle.fuse_wire.specs.declared.request.Operation.TheVariants as operations
use Rattle.trace_command.specs.Requests.{Request}
use Rattle.trace_command.specs.declared.file_name.CpuFile.TheVariants as per_cpu
use Rattle.trace_command.specs.declared.file_name.EventFile.TheVariants as per_event
use Rattle.trace_command.specs.declared.file_name.TopFile.TheVariants as top
use Rattle.file_list.specs.FileKinds.{kind_of_file}
use Rattle.file_list.specs.declared.file.File.{File}
use Rattle.file_list.specs.declared.file.File.TheVariants.{OfCpu, OfEvent, OfInstance}
use Rattle.file_list.specs.declared.file.FileKind.{FileKind}
use Rattle.file_list.specs.declared.file.FileKind.TheVariants as kinds
use Rattle.mount_tree.specs.Children.{is_there}
use Rattle.mount_tree.specs.Scenes.{SceneSeen}
use Rattle.mount_tree.specs.declared.node.Node.{Node}
use Rattle.mount_replies.proofs.AskedSteps.{IsOfThere}
use Rattle.mount_replies.specs.Mounted.{Does}
use Rattle.mount_replies.specs.Services.{OpenSeen, Service, Terms, file_at, node_of}
use Rattle.mount_replies.specs.ShownTexts.{count_then, shown_step, shows_long_text, text_wanted, long_text_node}
use Rattle.mount_replies.specs.Told.{known}
use Rattle.mount_replies.specs.declared.counted.Counted.{Counted}
use Rattle.mount_replies.specs.declared.shown.ShownText.{ShownText}

-- ---- what such a turn leaves as it was

pub record Rests (before after : Service) : Type 0 where
  pub past : after.past ≡ before.past
  pub parked : after.parked ≡ before.parked
  pub errors : after.errors ≡ before.errors

same-rests : (before after now : Service) → after ≡ now → Rests before now → Rests before after
same-rests before after now is rest = record {
  past = ap (λ (s : Service). s.past) is ∙ rest.past;
  parked = ap (λ (s : Service). s.parked) is ∙ rest.parked;
  errors = ap (λ (s : Service). s.errors) is ∙ rest.errors;
}

all-rest : (s : Service) (files : List (Option OpenSeen)) (counted : List Counted) → Rests s (record s { files = files; counted = counted })
all-rest s files counted = record { past = refl; parked = refl; errors = refl }

pub shown-rests : (g : Terms) (before : Service) (unique : ℕ) (shown : ShownText) (operation : Operation) (reply : Option Reply) (after : Service)
    → Does g before (shown_step g before unique shown operation) reply after → Rests before after
shown-rests g before unique shown (operations.Lookup name) reply after (inl does) = same-rests before after _ does.1 (all-rest before _ _)
shown-rests g before unique shown (operations.Lookup name) reply after (inr does) = same-rests before after before does.1 (all-rest before before.files before.counted)
shown-rests g before unique shown (operations.Read handle offset size read_flags flags) reply after does = same-rests before after _ does.1 (all-rest before _ _)
shown-rests g before unique shown _ reply after (inl does) = same-rests before after _ does.1 (all-rest before _ _)
shown-rests g before unique shown _ reply after (inr does) = same-rests before after before does.1 (all-rest before before.files before.counted)

-- it asks nothing, and counts the text alone
pub shown-there : (P : Request → Type 0) (C : Counted → Type 0) (scene : SceneSeen) (g : Terms) (s : Service) (unique : ℕ) (shown : ShownText)
    (operation : Operation) → C (count_then shown) → IsOfThere P C scene (shown_step g s unique shown operation)
shown-there P C scene g s unique shown (operations.Lookup name) is = is
shown-there P C scene g s unique shown (operations.Read handle offset size read_flags flags) is = tt
shown-there P C scene g s unique shown _ is = is

-- ---- whose text it is

-- such a file is no pipe, and no log
pub trace-kind : (P : FileKind → Type 0) (file : File) → shows_long_text file ≡ true → P kinds.Text → P kinds.Trace → P (kind_of_file file)
trace-kind P (OfInstance top.Trace) is text trace = trace
trace-kind P (OfInstance top.Snapshot) is text trace = text
trace-kind P (OfCpu cpu per_cpu.Trace) is text trace = trace
trace-kind P (OfEvent event per_event.Hist) is text trace = text
trace-kind P _ is text trace = absurd (false≢true is)

abbrev pub is_pipe : FileKind → Bool
is_pipe kinds.Pipe = true
is_pipe kinds.RawPipe = true
is_pipe _ = false

-- a pipe, or a file of binary pages
pub no-pipe-shows : (file : File) → is_pipe (kind_of_file file) ≡ true → shows_long_text file ≡ true → ⊥
no-pipe-shows file pipe shows =
    let no : is_pipe (kind_of_file file) ≡ false = trace-kind (λ (k : FileKind). is_pipe k ≡ false) file shows refl refl in
    false≢true (sym no ∙ pipe)

-- what an open pipe shows is not wanted
pub pipe-unwanted : (scene : SceneSeen) (files : List (Option OpenSeen)) (target : Option Node) (handle offset size read_flags flags : ℕ) (file : OpenSeen) (node : Node)
    → file_at handle files ≡ Some file → (shows_long_text file.file ≡ true → ⊥)
    → text_wanted scene files target (operations.Read handle offset size read_flags flags) ≡ Some node → ⊥
pipe-unwanted scene files target handle offset size read_flags flags file node there no-trace is = by _ is
  where
    by_file : (b : Bool) → shows_long_text file.file ≡ b → (if b then Some (node_of file) else None) ≡ Some node → ⊥
    by_file false e one = none-some node one
    by_file true e one = no-trace e

    by_node : (t : Bool) → long_text_node (if t then Some (node_of file) else None) ≡ Some node → ⊥
    by_node false e = none-some node e
    by_node true e = by_file (shows_long_text file.file) refl e

    by : (b : Bool) → (if b then long_text_node (known scene (option_map node_of (file_at handle files))) else None) ≡ Some node → ⊥
    by false e = none-some node e
    by true e =
        by_node (is_there scene (node_of file)) (ap (λ (o : Option OpenSeen). long_text_node (known scene (option_map node_of o))) (sym there) ∙ e)
