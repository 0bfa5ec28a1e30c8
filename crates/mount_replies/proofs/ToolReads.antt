-- Reads of files that show their text without a command, and reads that go on.
use Rattle.std.proofs.Common.{◌≡◌, inl, inr, ℕ, zero, suc, nat_lt, min, Bool, true, false, List, [], take, Option, Some, refl, sym, ap, subst, ◌∙◌}
use Rattle.std.proofs.lemmas.Bool.{false≢true, le-ltb}
use Rattle.fuse_wire.specs.declared.reply.Reply.{Reply}
use Rattle.fuse_wire.specs.declared.reply.Reply.TheVariants as replies
use Rattle.error_log.specs.Logs.{log_text}
use Rattle.mount_tree.proofs.SoundLemmas.{scene-sound}
use Rattle.mount_tree.specs.Children.{is_there}
use Rattle.file_list.specs.FileKinds.{kind_of_file}
use Rattle.file_list.specs.declared.file.FileKind.{FileKind}
use Rattle.file_list.specs.declared.file.FileKind.TheVariants as kinds
use Rattle.mount_stub_files.specs.ToolTexts.{tool_text}
use Rattle.mount_replies.proofs.DoneLemmas.{events-are, pasts_are_done}
use Rattle.mount_replies.proofs.PartLaws.{drop-nil}
use Rattle.mount_replies.specs.Mounted.{Does, bytes_of_reply}
use Rattle.mount_replies.specs.PastLaws.{LaterReadsGoOn, ReadsEndWithTheText, ServedScenesAreSound, ShowsNow, ToolReadsShowThePast, is_shown}
use Rattle.mount_replies.specs.Served.{goes_on_in, is_cached, makes_text, part_of, read_file, read_kind, read_shown, read_there}
use Rattle.mount_replies.specs.Services.{OpenSeen, Service, Terms, file_at, most_data, node_of, read_of_pipe, scene_of, with_reading}
use Rattle.mount_replies.specs.Steps.{Step, taking}
use Rattle.mount_replies.specs.declared.parked.Parked.{Parked}

-- ---- scenes

pub served_scenes_are_sound : ServedScenesAreSound
served_scenes_are_sound g turns after ranges served =
    let was = pasts_are_done g turns after served in
    scene-sound g.config after.past ranges.few_cpus was.done (events-are g.config after.past was.done)

-- ---- a file that is there

-- the step of a READ of an open file that is there
pub there-step : (g : Terms) (s : Service) (read : Parked) (offset : ℕ) (cached : Bool) (flags : ℕ) (file : OpenSeen) (found : Option OpenSeen) (kind : FileKind)
    → found ≡ Some file → kind_of_file file.file ≡ kind → is_there (scene_of g s) (node_of file) ≡ true
    → read_file g s read offset cached flags found ≡ read_kind g s read offset cached flags file kind
there-step g s read offset cached flags file found kind opened is there =
    ap (λ (f : Option OpenSeen). read_file g s read offset cached flags f) opened ∙ by (is_there (scene_of g s) (node_of file)) refl there
    ∙ ap (λ (k : FileKind). read_kind g s read offset cached flags file k) is
  where
    by : (t : Bool) → is_there (scene_of g s) (node_of file) ≡ t → t ≡ true
        → read_there g s read offset cached flags file ≡ read_kind g s read offset cached flags file (kind_of_file file.file)
    by true at is = rw at refl
    by false at is = absurd (false≢true is)

-- ---- texts that no command reads

-- at its beginning the text is made
shown-step : (handle size : ℕ) (file : OpenSeen) (files : List (Option OpenSeen)) (shown : Option (List ℕ)) (text : List ℕ) → shown ≡ Some text
    → read_shown handle 0 size file files shown ≡ taking (replies.Data (part_of 0 size text)) (with_reading 0 size text handle files)
shown-step handle size file files shown text is = ap (λ (t : Option (List ℕ)). read_shown handle 0 size file files t) is

pub tool-step : (g : Terms) (s : Service) (read : Parked) (cached : Bool) (flags : ℕ) (file : OpenSeen) (text : List ℕ) → cached ≡ false
    → tool_text g.config s.past file.owner file.file ≡ Some text
    → read_kind g s read 0 cached flags file kinds.Tool
    ≡ taking (replies.Data (part_of 0 read.size text)) (with_reading 0 read.size text read.handle s.files)
tool-step g s read true flags file text direct is = absurd (false≢true (sym direct))
tool-step g s read false flags file text direct is = shown-step read.handle read.size file s.files (tool_text g.config s.past file.owner file.file) text is

pub log-step : (g : Terms) (s : Service) (read : Parked) (cached : Bool) (flags : ℕ) (file : OpenSeen) → cached ≡ false
    → read_kind g s read 0 cached flags file kinds.ErrorLog
    ≡ taking (replies.Data (part_of 0 read.size (log_text file.owner s.errors))) (with_reading 0 read.size (log_text file.owner s.errors) read.handle s.files)
log-step g s read true flags file direct = absurd (false≢true (sym direct))
log-step g s read false flags file direct = refl

pub shows-now : (g : Terms) (before after : Service) (unique handle size : ℕ) (text bytes : List ℕ) (reply : Option Reply) (step : Step)
    → bytes ≡ bytes_of_reply unique reply → step ≡ taking (replies.Data (part_of 0 size text)) (with_reading 0 size text handle before.files)
    → Does g before step reply after → ShowsNow before unique handle size text bytes after
shows-now g before after unique handle size text bytes reply step told is does =
    by (subst (λ (s : Step). Does g before s reply after) is does)
  where
    by : Does g before (taking (replies.Data (part_of 0 size text)) (with_reading 0 size text handle before.files)) reply after
        → ShowsNow before unique handle size text bytes after
    by (inl shown) = inl (told ∙ ap (bytes_of_reply unique) shown.0, shown.1)
    by (inr refused) = inr (told ∙ ap (bytes_of_reply unique) refused.0, refused.1)

pub tool_reads_show_the_past : ToolReadsShowThePast
tool_reads_show_the_past g before after request bytes handle size read_flags flags file text is asks direct opened kind there shows =
    let read = read_of_pipe request.unique handle size in
    shows-now g before after request.unique handle size text bytes is.reply
    (read_file g before read 0 (is_cached read_flags) flags (file_at handle before.files)) is.told
    (there-step g before read 0 (is_cached read_flags) flags file (file_at handle before.files) kinds.Tool opened kind there
    ∙ tool-step g before read (is_cached read_flags) flags file text direct shows) (rw asks at is.does)

-- ---- reads that go on

goes-on : (g : Terms) (s : Service) (read : Parked) (offset : ℕ) (cached : Bool) (flags : ℕ) (file : OpenSeen) (kind : FileKind) → cached ≡ false
    → is_shown kind ≡ true → makes_text offset file ≡ false
    → read_kind g s read offset cached flags file kind ≡ goes_on_in read.handle offset read.size file s.files
goes-on g s read offset true flags file kind direct whole made = absurd (false≢true (sym direct))
goes-on g s read offset false flags file kinds.Text direct whole made = rw made refl
goes-on g s read offset false flags file kinds.Trace direct whole made = rw made refl
goes-on g s read offset false flags file kinds.Tool direct whole made = rw made refl
goes-on g s read offset false flags file kinds.ErrorLog direct whole made = rw made refl
goes-on g s read offset false flags file kinds.Pipe direct whole made = absurd (false≢true whole)
goes-on g s read offset false flags file kinds.RawPipe direct whole made = absurd (false≢true whole)
goes-on g s read offset false flags file kinds.Inject direct whole made = absurd (false≢true whole)

goes-on-step : (g : Terms) (s : Service) (read : Parked) (offset : ℕ) (cached : Bool) (flags : ℕ) (file : OpenSeen) (found : Option OpenSeen)
    → found ≡ Some file → cached ≡ false → is_shown (kind_of_file file.file) ≡ true → is_there (scene_of g s) (node_of file) ≡ true
    → makes_text offset file ≡ false → read_file g s read offset cached flags found ≡ goes_on_in read.handle offset read.size file s.files
goes-on-step g s read offset cached flags file found opened direct whole there made =
    there-step g s read offset cached flags file found (kind_of_file file.file) opened refl there
    ∙ goes-on g s read offset cached flags file (kind_of_file file.file) direct whole made

pub later_reads_go_on : LaterReadsGoOn
later_reads_go_on g before after request bytes handle offset size read_flags flags file text is asks direct later opened whole keeps there =
    let read = read_of_pipe request.unique handle size in
    let made : makes_text offset file ≡ false = rw (later, keeps) refl in
    let step = goes-on-step g before read offset (is_cached read_flags) flags file (file_at handle before.files) opened direct whole there made in
    let does = subst (λ (s : Step). Does g before s is.reply after) step (rw asks at is.does) in
    let did = rw keeps at does in
    (is.told ∙ ap (bytes_of_reply request.unique) did.0, did.1)

none-taken : (n : ℕ) → take {A = ℕ} n [] ≡ []
none-taken zero = refl
none-taken (suc n) = refl

part-of-none : (offset size : ℕ) → part_of offset size [] ≡ []
part-of-none offset size = ap (λ (l : List ℕ). take (min size most_data) l) (drop-nil offset) ∙ none-taken (min size most_data)

-- a text that was read to its end is not made anew there
pub reads_end_with_the_text : ReadsEndWithTheText
reads_end_with_the_text g before after request bytes handle offset size read_flags flags end file is asks direct later opened whole none ended over there =
    let read = read_of_pipe request.unique handle size in
    let past_end : nat_lt offset end ≡ false = le-ltb offset end over in
    let made : makes_text offset file ≡ false = rw (later, none, ended, past_end) refl in
    let step = goes-on-step g before read offset (is_cached read_flags) flags file (file_at handle before.files) opened direct whole there made in
    let does = subst (λ (s : Step). Does g before s is.reply after) step (rw asks at is.does) in
    let did = rw none at does in
    (is.told ∙ ap (bytes_of_reply request.unique) (did.0 ∙ ap (λ (part : List ℕ). Some (replies.Data part)) (part-of-none offset size)), did.1)
