-- What opening a file comes to, and a command that was refused, which is noted.
use Rattle.std.proofs.Common.{◌≡◌, ℕ, Bool, true, false, if◌then◌else◌, List, [], ◌∷◌, ◌++◌, Option, Some, Err, codes, refl, sym, ap, subst, ◌∙◌, inl, inr}
use Rattle.std.proofs.lemmas.Bool.{and_parts}
use Rattle.fuse_wire.specs.declared.errno.Errno.TheVariants.{EACCES, ENOMEM}
use Rattle.fuse_wire.specs.declared.reply.Reply.{Reply}
use Rattle.fuse_wire.specs.declared.reply.Reply.TheVariants as replies
use Rattle.trace_command.specs.Requests.{Request}
use Rattle.trace_command.specs.declared.file_name.TopFile.TheVariants as top_files
use Rattle.trace_command.specs.declared.refusal.Refusal.{Refusal}
use Rattle.tracer_specification.specs.Settings.{now_of}
use Rattle.error_log.specs.Errors.{ErrorSeen, begun}
use Rattle.file_list.specs.FileKinds.{access_of_file, kind_of_file}
use Rattle.file_list.specs.declared.file.File.{File}
use Rattle.file_list.specs.declared.file.File.TheVariants as files
use Rattle.file_list.specs.declared.file.FileKind.{FileKind}
use Rattle.file_list.specs.declared.file.FileKind.TheVariants as kinds
use Rattle.file_list.specs.declared.files.ToolFile.TheVariants as tools
use Rattle.mount_tree.specs.Children.{file_is_there, is_there, owner_is_there}
use Rattle.mount_tree.specs.NodePaths.{path_of}
use Rattle.mount_tree.specs.Scenes.{SceneSeen}
use Rattle.mount_tree.specs.declared.node.Node.{Node}
use Rattle.mount_tree.specs.declared.node.Node.TheVariants as nodes
use Rattle.mount_tree.specs.declared.node.Owner.{Owner}
use Rattle.mount_replies.specs.Lines.{noted_answer}
use Rattle.mount_replies.specs.Mounted.{HasLedTo, IsAsked, IsStep, MountSeen}
use Rattle.mount_replies.specs.Served.{AsksNone, AsksToWrite, Emptying, clears, emptying_by_kind, emptying_of, handed_out, open_flags, opened, opened_file, opened_unless_emptied}
use Rattle.mount_replies.specs.Services.{OpenSeen, free_handle, just_opened, with_file}
use Rattle.mount_replies.specs.Steps.{Forgets, Outcome, Takes, Tells, errors_after, failed}
use Rattle.mount_replies.specs.Told.{empties, may, wants_read, wants_write}
use Rattle.mount_replies.specs.private.Notings.{IsAskedNoting}
use Rattle.mount_replies.proofs.Steps.{plain-step}
use Rattle.mount_replies.proofs.WriteLemmas.{noted-refused}

-- ---- OPEN

-- whether it may be
by-leave : (past : List Request) (old new : MountSeen) (flags : ℕ) (owner : Owner) (file : File) (reply : Reply) (leave : Bool)
    → may (access_of_file file) (wants_read flags) (wants_write flags) ≡ leave
    → IsStep past old new (if leave then opened_file old.scene (now_of past) flags (just_opened owner file (empties flags)) old.files else failed EACCES old.files) (Some reply)
    → IsStep past old new (opened old.scene (now_of past) flags (Some (nodes.File owner file)) old.files) (Some reply)
by-leave past old new flags owner file reply leave is step =
    subst (λ (t : Bool). IsStep past old new (if t then opened_file old.scene (now_of past) flags (just_opened owner file (empties flags)) old.files
    else failed EACCES old.files) (Some reply)) (sym is) step

pub no-leave : (past : List Request) (old : MountSeen) (flags : ℕ) (owner : Owner) (file : File) → HasLedTo past old
    → may (access_of_file file) (wants_read flags) (wants_write flags) ≡ false
    → IsStep past old old (opened old.scene (now_of past) flags (Some (nodes.File owner file)) old.files) (Some (replies.Error EACCES))
no-leave past old flags owner file mounted leave =
    by-leave past old old flags owner file (replies.Error EACCES) false leave (plain-step past old (replies.Error EACCES) old.files old.files mounted refl)

-- by what is asked to empty it
pub by-emptying : (past : List Request) (old new : MountSeen) (flags : ℕ) (owner : Owner) (file : File) (reply : Reply) (emptying : Emptying)
    → may (access_of_file file) (wants_read flags) (wants_write flags) ≡ true → emptying_of file (empties flags) ≡ emptying
    → IsStep past old new (opened_unless_emptied old.scene (now_of past) flags (just_opened owner file (empties flags)) old.files emptying) (Some reply)
    → IsStep past old new (opened old.scene (now_of past) flags (Some (nodes.File owner file)) old.files) (Some reply)
by-emptying past old new flags owner file reply emptying leave is step =
    by-leave past old new flags owner file reply true leave
    (subst (λ (e : Emptying). IsStep past old new (opened_unless_emptied old.scene (now_of past) flags (just_opened owner file (empties flags)) old.files e) (Some reply))
    (sym is) step)

never-asked : (asked : File) (text : List ℕ) → AsksNone ≡ AsksToWrite asked text → ⊥
never-asked asked text wrong = cc

-- the file that is written then is there
pub asked-there : (scene : SceneSeen) (owner : Owner) (file asked : File) (empty : Bool) (text : List ℕ) → emptying_of file empty ≡ AsksToWrite asked text
    → is_there scene (nodes.File owner file) ≡ true → is_there scene (nodes.File owner asked) ≡ true
asked-there scene owner file asked false text is there = absurd (never-asked asked text is)
asked-there scene owner file asked true text is there = by file (kind_of_file file) is there
  where
    by : (f : File) (kind : FileKind) → emptying_by_kind f kind ≡ AsksToWrite asked text → is_there scene (nodes.File owner f) ≡ true
        → is_there scene (nodes.File owner asked) ≡ true
    by f kinds.Trace same known =
        let one : AsksToWrite f [] ≡ AsksToWrite asked text = same in
        let own : f ≡ asked = cc in
        subst (λ (x : File). is_there scene (nodes.File owner x) ≡ true) own known
    by (files.Tool tools.SetEvent) kind same known =
        let one : AsksToWrite (files.OfInstance top_files.EventsEnable) (codes "0") ≡ AsksToWrite asked text = same in
        let own : files.OfInstance top_files.EventsEnable ≡ asked = cc in
        subst (λ (x : File). is_there scene (nodes.File owner x) ≡ true) own
        (rw (and_parts (owner_is_there scene owner) (file_is_there scene owner (files.Tool tools.SetEvent)) known).0 refl)
    by f kind same known = absurd (never-asked asked text same)

-- where nothing is asked, errors may be forgotten
pub unasked : (past : List Request) (old new : MountSeen) (flags : ℕ) (owner : Owner) (file : File) (reply : Reply) (forgets : Bool)
    → may (access_of_file file) (wants_read flags) (wants_write flags) ≡ true → emptying_of file (empties flags) ≡ AsksNone → clears file flags ≡ forgets
    → IsStep past old new (if forgets then Tells (Forgets owner) true (handed_out (just_opened owner file (empties flags)) old.files)
    else Takes (handed_out (just_opened owner file (empties flags)) old.files)) (Some reply)
    → IsStep past old new (opened old.scene (now_of past) flags (Some (nodes.File owner file)) old.files) (Some reply)
unasked past old new flags owner file reply forgets leave none is step =
    by-emptying past old new flags owner file reply AsksNone leave none
    (subst (λ (t : Bool). IsStep past old new (if t then Tells (Forgets owner) true (handed_out (just_opened owner file (empties flags)) old.files)
    else Takes (handed_out (just_opened owner file (empties flags)) old.files)) (Some reply)) (sym is) step)

-- the file is handed out
pub opened-step : (past : List Request) (old : MountSeen) (own given : OpenSeen) (handle flags : ℕ) (kind : FileKind) (now : List (Option OpenSeen)) (reply : Reply)
    → HasLedTo past old → handle ≡ free_handle old.files → now ≡ with_file handle given old.files → given ≡ own → flags ≡ open_flags kind
    → kind ≡ kind_of_file own.file → reply ≡ replies.Opened handle flags
    → IsStep past old (record old { files = now }) (Takes (handed_out own old.files)) (Some reply)
opened-step past old own given handle flags kind now reply mounted lowest put is flags_are kind_is told = record {
  after = past;
  mounted = record { lives = mounted.lives; scene = mounted.scene };
  terms = refl;
  does = inl (
    ap (λ (r : Reply). Some r) (told ∙ ap (λ (h : ℕ). replies.Opened h flags) lowest
        ∙ ap (λ (f : ℕ). replies.Opened (free_handle old.files) f) (flags_are ∙ ap open_flags kind_is)),
    ap (λ (f : List (Option OpenSeen)). record { past = past; files = f; parked = old.parked; errors = old.errors; counted = old.counted })
        (put ∙ ap (λ (h : ℕ). with_file h given old.files) lowest ∙ ap (λ (g : OpenSeen). with_file (free_handle old.files) g old.files) is),
  );
}

-- or there is no memory to
pub unopened : (past : List Request) (old : MountSeen) (outcome : Outcome) (now : List (Option OpenSeen)) (reply : Reply) → HasLedTo past old
    → now ≡ old.files → reply ≡ replies.Error ENOMEM → IsStep past old (record old { files = now }) (Takes outcome) (Some reply)
unopened past old outcome now reply mounted same told = record {
  after = past;
  mounted = record { lives = mounted.lives; scene = mounted.scene };
  terms = refl;
  does = inr (
    ap (λ (r : Reply). Some r) told,
    ap (λ (f : List (Option OpenSeen)). record { past = past; files = f; parked = old.parked; errors = old.errors; counted = old.counted }) same,
  );
}

-- ---- a refusal

pub noted-last : (past : List Request) (old mid noted : MountSeen) (request : Request) (refusal : Refusal) (owner : Owner) (node asked : Node)
    (path text shown : List ℕ) (at : ℕ) (now : List ErrorSeen) → IsAsked past old mid request (Err refusal) → mid.scene ≡ old.scene
    → noted ≡ record mid { errors = mid.errors ++ begun owner (now_of past) (path_of mid.scene node) ∷ [] } → path ≡ path_of mid.scene asked
    → ((before : List ErrorSeen) (error : ErrorSeen) → noted.errors ≡ before ++ error ∷ []
    → now ≡ errors_after (noted_answer error path text shown at (Err refusal)) before)
    → IsAskedNoting past old (record noted { errors = now }) request false
    (noted_answer (begun owner (now_of past) (path_of old.scene node)) (path_of old.scene asked) text shown at) (Err refusal)
noted-last past old mid noted request refusal owner node asked path text shown at now was same is path_is notes =
    let error = begun owner (now_of past) (path_of mid.scene node) in
    let step = noted-refused past old mid request refusal error path text shown at now was (notes mid.errors error (ap (λ (m : MountSeen). m.errors) is)) in
    subst (λ (m : MountSeen). IsAskedNoting past old m request false
    (noted_answer (begun owner (now_of past) (path_of old.scene node)) (path_of old.scene asked) text shown at) (Err refusal))
    (sym (ap (λ (m : MountSeen). record m { errors = now }) is))
    (subst (λ (s : SceneSeen). IsAskedNoting past old (record mid { errors = now }) request false
    (noted_answer (begun owner (now_of past) (path_of s node)) (path_of s asked) text shown at) (Err refusal)) same
    (subst (λ (p : List ℕ). IsAskedNoting past old (record mid { errors = now }) request false (noted_answer error p text shown at) (Err refusal)) path_is step))
