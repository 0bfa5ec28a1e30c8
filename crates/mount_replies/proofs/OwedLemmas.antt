-- What telling what is owed comes to.
use Rattle.std.proofs.Common.{◌≡◌, ◌≢◌, inl, inr, ℕ, ◌<◌, ◌==◌, nat_lt, zero, suc, Bool, true, false, not, ◌&&◌, ◌||◌, if◌then◌else◌, is_some, List, [], ◌∷◌, length, get_or, Option, Some, None, unwrap_or, Ok, Err, Result, refl, sym, ap, ◌∙◌, arith}
use Rattle.std.proofs.lemmas.List.Quantifiers.{position-Some}
use Rattle.std.specs.List.{position, remove, slice_get, slice_index_or}
use Rattle.std.specs.Option.{option_and_then}
use Rattle.fuse_wire.specs.Replies.{reply_bytes}
use Rattle.fuse_wire.specs.declared.errno.Errno.TheVariants.{EAGAIN, EINTR, EINVAL, ENOENT}
use Rattle.fuse_wire.specs.declared.reply.Reply.{Reply}
use Rattle.fuse_wire.specs.declared.reply.Reply.TheVariants as replies
use Rattle.mount_tree.specs.Children.{is_there}
use Rattle.file_list.specs.declared.file.FileKind.{FileKind}
use Rattle.file_list.specs.declared.file.FileKind.TheVariants as kinds
use Rattle.file_list.specs.FileKinds.{kind_of_file}
use Rattle.file_list.specs.FileTable.{file_index}
use Rattle.kernel_pages.specs.Pages.{page_of}
use Rattle.trace_command.specs.Requests.{Request}
use Rattle.trace_command.specs.declared.command.Reply.{Reply as Answer}
use Rattle.trace_command.specs.declared.refusal.Refusal.{Refusal}
use Rattle.error_log.specs.Logs.{log_text}
use Rattle.mount_stub_files.specs.ToolTexts.{tool_text}
use Rattle.mount_replies.specs.Mounted.{Does, HasLedTo, IsMounted, IsOwedCalled, IsReplying, IsTold, IsWaking, MountSeen, bytes_of_reply, service_of, terms_of}
use Rattle.mount_replies.specs.Owed.{first_owed, is_due, is_ready, owed, step_of_parked}
use Rattle.mount_replies.specs.Pipes.{ends, has_news, is_dry, is_used_up, waits_at, would_wait}
use Rattle.mount_replies.specs.RawPages.{next_page}
use Rattle.mount_replies.specs.Served.{given_counted, given_page, given_records, given_text, given_tool, goes_on_in, makes_text, part_of, read_anew, read_dry, read_file, read_kind, read_log, read_no_page, read_page, read_pages, read_pipe, read_pipe_directly, read_raw, read_records, read_shown, read_text, read_there, read_tool, read_whole_page, taken_records, text_counted, unless_counted}
use Rattle.mount_replies.specs.Services.{OpenSeen, Service, Terms, file_at, node_of, scene_of, wakeup_at, with_dry_read, without_read}
use Rattle.mount_replies.specs.Steps.{Asks, Outcome, Plain, Step, failed, taking}
use Rattle.mount_replies.specs.declared.parked.Parked.{Parked}

-- ---- a read that would not wait has a reply

abbrev HasReply : Option Reply → Type 0
HasReply reply = (r : Reply) × (reply ≡ Some r)

-- every answer gives one
abbrev AlwaysReplies : (Result Answer Refusal → Outcome) → Type 0
AlwaysReplies outcome = (answer : Result Answer Refusal) → HasReply (outcome answer).reply

asks-reply : (g : Terms) (before after : Service) (request : Request) (outcome : Result Answer Refusal → Outcome) (reply : Option Reply)
    → AlwaysReplies outcome → Does g before (Asks request outcome) reply after → HasReply reply
asks-reply g before after request outcome reply always (answer, answered, is, now) = ((always answer).0, is ∙ (always answer).1)

taken-always : (handle size : ℕ) (files : List (Option OpenSeen)) → AlwaysReplies (taken_records handle size files)
taken-always handle size files (Ok answer) = (_, refl)
taken-always handle size files (Err refusal) = (_, refl)

text-always : (handle offset size : ℕ) (files : List (Option OpenSeen)) → AlwaysReplies (given_text handle offset size files)
text-always handle offset size files (Ok answer) = (_, refl)
text-always handle offset size files (Err refusal) = (_, refl)

text-replies : (g : Terms) (s before after : Service) (read : Parked) (offset : ℕ) (file : OpenSeen) (reply : Option Reply)
    → Does g before (read_text (scene_of g s) read.handle offset read.size file s.files) reply after → HasReply reply
text-replies g s before after read offset file reply = by (makes_text offset file)
  where
    by : (t : Bool) → Does g before (if t then read_anew (scene_of g s) read.handle offset read.size (node_of file) s.files
        else goes_on_in read.handle offset read.size file s.files) reply after → HasReply reply
    by true does = asks-reply g before after _ _ reply (text-always read.handle offset read.size s.files) does
    by false does = (_, does.0)

pipe-replies : (g : Terms) (s before after : Service) (read : Parked) (flags : ℕ) (file : OpenSeen) (reply : Option Reply)
    → (is_used_up file && is_dry g s file.owner file.file && not (ends g s file)) ≡ false
    → Does g before (read_pipe g s read flags file) reply after → HasReply reply
pipe-replies g s before after read flags file reply = by (is_used_up file) (is_dry g s file.owner file.file) (ends g s file)
  where
    by : (used dry ended : Bool) → (used && dry && not ended) ≡ false
        → Does g before (if used
        then (if dry then read_dry read flags ended s.files else read_records (scene_of g s) read.handle read.size (node_of file) s.files)
        else Plain (given_records read.handle read.size (unwrap_or file.text []) s.files)) reply after → HasReply reply
    by false dry ended waits does = (_, does.0)
    by true false ended waits does = asks-reply g before after _ _ reply (taken-always read.handle read.size s.files) does
    by true true true waits does = (_, does.0)
    by true true false waits does = absurd (cc)

given-replies : (g : Terms) (before after : Service) (handle offset size : ℕ) (files : List (Option OpenSeen)) (shown : Option (List ℕ))
    (reply : Option Reply) → Does g before (given_tool handle offset size files shown) reply after → HasReply reply
given-replies g before after handle offset size files None reply (inl does) = (_, does.0)
given-replies g before after handle offset size files None reply (inr does) = (_, does.0)
given-replies g before after handle offset size files (Some text) reply (inl does) = (_, does.0)
given-replies g before after handle offset size files (Some text) reply (inr does) = (_, does.0)

shown-replies : (g : Terms) (before after : Service) (read : Parked) (offset : ℕ) (file : OpenSeen) (files : List (Option OpenSeen))
    (shown : Option (List ℕ)) (reply : Option Reply)
    → Does g before (read_shown read.handle offset read.size file files shown) reply after → HasReply reply
shown-replies g before after read offset file files shown reply = by (makes_text offset file)
  where
    by : (t : Bool) → Does g before (if t then given_tool read.handle offset read.size files shown
        else goes_on_in read.handle offset read.size file files) reply after → HasReply reply
    by true does = given-replies g before after read.handle offset read.size files shown reply does
    by false does = (_, does.0)

counted-replies : (g : Terms) (s before after : Service) (read : Parked) (cached : Bool) (offset : ℕ) (file : OpenSeen) (otherwise : Step)
    (reply : Option Reply) → (Does g before otherwise reply after → HasReply reply)
    → Does g before (unless_counted s read cached offset file otherwise) reply after → HasReply reply
counted-replies g s before after read cached offset file otherwise reply others = by (cached && offset == 0) (text_counted file s.counted)
  where
    by : (t : Bool) (text : Option (List ℕ))
        → Does g before (if t then given_counted read.handle read.size s.files otherwise text else otherwise) reply after → HasReply reply
    by false text does = others does
    by true None does = others does
    by true (Some text) (inl does) = (_, does.0)
    by true (Some text) (inr does) = (_, does.0)

directly-replies : (g : Terms) (s before after : Service) (read : Parked) (cached : Bool) (flags : ℕ) (file : OpenSeen) (reply : Option Reply)
    → would_wait g s file ≡ false → Does g before (read_pipe_directly g s read cached flags file) reply after → HasReply reply
directly-replies g s before after read true flags file reply waits does = (_, does.0)
directly-replies g s before after read false flags file reply waits does = pipe-replies g s before after read flags file reply waits does

-- of binary pages
page-always : (handle size : ℕ) (page : List ℕ) (files : List (Option OpenSeen)) → AlwaysReplies (given_page handle size page files)
page-always handle size page files (Ok answer) = (_, refl)
page-always handle size page files (Err refusal) = (_, refl)

page-replies : (g : Terms) (s before after : Service) (read : Parked) (file : OpenSeen) (reply : Option Reply)
    → Does g before (read_page g s read file) reply after → HasReply reply
page-replies g s before after read file reply does =
    asks-reply g before after _ _ reply (page-always read.handle read.size (next_page g s file.owner (file_index file.file)) s.files) does

no-page-replies : (g : Terms) (s before after : Service) (read : Parked) (file : OpenSeen) (reply : Option Reply)
    → Does g before (read_no_page read file s.files) reply after → HasReply reply
no-page-replies g s before after read file reply = by file.polls.told_ready
  where
    by : (t : Bool) → Does g before (if t then taking (replies.Data (part_of 0 read.size (page_of []))) (with_dry_read false read.handle s.files)
        else failed EAGAIN (with_dry_read false read.handle s.files)) reply after → HasReply reply
    by true (inl does) = (_, does.0)
    by true (inr does) = (_, does.0)
    by false does = (_, does.0)

whole-replies : (g : Terms) (s before after : Service) (read : Parked) (file : OpenSeen) (reply : Option Reply)
    → Does g before (read_whole_page g s read file) reply after → HasReply reply
whole-replies g s before after read file reply = by (nat_lt read.size 4096) (is_dry g s file.owner file.file)
  where
    by : (small dry : Bool) → Does g before (if small then failed EINVAL s.files
        else if dry then read_no_page read file s.files else read_page g s read file) reply after → HasReply reply
    by true dry does = (_, does.0)
    by false true does = no-page-replies g s before after read file reply does
    by false false does = page-replies g s before after read file reply does

pages-replies : (g : Terms) (s before after : Service) (read : Parked) (flags : ℕ) (file : OpenSeen) (reply : Option Reply)
    → (is_used_up file && is_dry g s file.owner file.file && not (ends g s file)) ≡ false
    → Does g before (read_pages g s read flags file) reply after → HasReply reply
pages-replies g s before after read flags file reply = by (is_used_up file) (is_dry g s file.owner file.file) (ends g s file)
  where
    by : (used dry ended : Bool) → (used && dry && not ended) ≡ false
        → Does g before (if used then (if dry then read_dry read flags ended s.files else read_page g s read file)
        else Plain (given_records read.handle read.size (unwrap_or file.text []) s.files)) reply after → HasReply reply
    by false dry ended waits does = (_, does.0)
    by true false ended waits does = page-replies g s before after read file reply does
    by true true true waits does = (_, does.0)
    by true true false waits does = absurd (cc)

raw-replies : (g : Terms) (s before after : Service) (read : Parked) (cached : Bool) (flags : ℕ) (file : OpenSeen) (reply : Option Reply)
    → would_wait g s file ≡ false → Does g before (read_raw g s read cached flags file) reply after → HasReply reply
raw-replies g s before after read true flags file reply waits does = by (is_used_up file) does
  where
    by : (used : Bool) → Does g before (if used then read_whole_page g s read file else failed EINVAL s.files) reply after → HasReply reply
    by true does' = whole-replies g s before after read file reply does'
    by false does' = (_, does'.0)
raw-replies g s before after read false flags file reply waits does = pages-replies g s before after read flags file reply waits does

kind-replies : (g : Terms) (s before after : Service) (read : Parked) (offset : ℕ) (cached : Bool) (flags : ℕ) (file : OpenSeen) (kind : FileKind)
    (reply : Option Reply) → would_wait g s file ≡ false → Does g before (read_kind g s read offset cached flags file kind) reply after → HasReply reply
kind-replies g s before after read offset cached flags file kinds.Pipe reply waits does =
    directly-replies g s before after read cached flags file reply waits does
kind-replies g s before after read offset cached flags file kinds.RawPipe reply waits does =
    raw-replies g s before after read cached flags file reply waits does
kind-replies g s before after read offset cached flags file kinds.Inject reply waits does = (_, does.0)
kind-replies g s before after read offset cached flags file kinds.Tool reply waits does =
    counted-replies g s before after read cached offset file (read_tool g s read.handle offset read.size file) reply
    (λ shows. shown-replies g before after read offset file s.files (tool_text g.config s.past file.owner file.file) reply shows) does
kind-replies g s before after read offset cached flags file kinds.ErrorLog reply waits does =
    counted-replies g s before after read cached offset file (read_log s read.handle offset read.size file) reply
    (λ shows. shown-replies g before after read offset file s.files (Some (log_text file.owner s.errors)) reply shows) does
kind-replies g s before after read offset cached flags file kinds.Text reply waits does =
    counted-replies g s before after read cached offset file (read_text (scene_of g s) read.handle offset read.size file s.files) reply
    (λ shows. text-replies g s before after read offset file reply shows) does
kind-replies g s before after read offset cached flags file kinds.Trace reply waits does =
    counted-replies g s before after read cached offset file (read_text (scene_of g s) read.handle offset read.size file s.files) reply
    (λ shows. text-replies g s before after read offset file reply shows) does

there-replies : (g : Terms) (s before after : Service) (read : Parked) (offset : ℕ) (cached : Bool) (flags : ℕ) (file : OpenSeen) (reply : Option Reply)
    → would_wait g s file ≡ false → Does g before (read_there g s read offset cached flags file) reply after → HasReply reply
there-replies g s before after read offset cached flags file reply waits = by (is_there (scene_of g s) (node_of file))
  where
    by : (t : Bool) → Does g before (if t then read_kind g s read offset cached flags file (kind_of_file file.file) else failed ENOENT s.files) reply after
        → HasReply reply
    by true does = kind-replies g s before after read offset cached flags file (kind_of_file file.file) reply waits does
    by false does = (_, does.0)

pub replies-now : (g : Terms) (s before after : Service) (read : Parked) (offset : ℕ) (cached : Bool) (flags : ℕ) (slot : Option OpenSeen)
    (reply : Option Reply) → waits_at g s slot ≡ false → Does g before (read_file g s read offset cached flags slot) reply after → HasReply reply
replies-now g s before after read offset cached flags None reply waits does = (_, does.0)
replies-now g s before after read offset cached flags (Some file) reply waits does =
    there-replies g s before after read offset cached flags file reply waits does

-- ---- a parked read gets its reply

-- the read at an index
at-index : (reads : List Parked) (index : ℕ) (read : Parked) → index < length reads → read ≡ slice_index_or reads index read
    → slice_get reads index ≡ Some read
at-index [] index read within is = absurd (omega (arith, within))
at-index (first ∷ reads) zero read within is = ap (λ (r : Parked). Some r) (sym is)
at-index (first ∷ reads) (suc index) read within is = at-index reads index read (omega (arith, within)) is

-- the first one that is due is due
first-due : (p : Parked → Bool) (reads : List Parked) (index : ℕ) (read : Parked) → position p reads ≡ Some index
    → read ≡ slice_index_or reads index read → p read ≡ true
first-due p reads index read first is = ap p is ∙ (position-Some p reads index read first).1

pub interrupted-replying : (past : List Request) (old : MountSeen) (index : ℕ) (read : Parked) (now : List Parked)
    (files : List (Option OpenSeen)) (bytes : List ℕ) → HasLedTo past old → index < length old.parked → read ≡ slice_index_or old.parked index read
    → now ≡ remove old.parked index → files ≡ with_dry_read false read.handle old.files → read.interrupted ≡ true
    → bytes ≡ reply_bytes read.unique (replies.Error EINTR) → IsReplying past old (record old { parked = now; files = files }) index bytes
interrupted-replying past old index read now files bytes mounted within is left noted interrupted said = record {
  after = past;
  mounted = record { lives = mounted.lives; scene = mounted.scene };
  terms = refl;
  told = record {
    read = read;
    is = at-index old.parked index read within is;
    reply = replies.Error EINTR;
    does = rw interrupted (
      refl,
      ap (λ (f : List (Option OpenSeen)). record { past = past; files = f; parked = now; errors = old.errors; counted = old.counted }) noted
          ∙ ap (λ (p : List Parked). record { past = past; files = with_dry_read false read.handle old.files; parked = p; errors = old.errors; counted = old.counted }) left,
    );
    told = said;
  };
}

-- the step of one that was not interrupted is that of a read
does-read : (g : Terms) (before after s : Service) (read : Parked) (reply : Option Reply) → read.interrupted ≡ false
    → Does g before (read_file g s read 0 false 0 (file_at read.handle s.files)) reply after → Does g before (step_of_parked g s read) reply after
does-read g before after s read reply going does = by read.interrupted going
  where
    by : (t : Bool) → t ≡ false
        → Does g before (if t then failed EINTR (with_dry_read false read.handle s.files) else read_file g s read 0 false 0 (file_at read.handle s.files)) reply after
    by false e = does
    by true e = absurd (cc)

pub read-replying : (past : List Request) (old new : MountSeen) (index : ℕ) (read : Parked) (now : List Parked) (bytes : List ℕ)
    → index < length old.parked → read ≡ slice_index_or old.parked index read → now ≡ remove old.parked index → read.interrupted ≡ false
    → position (is_due (terms_of old) (service_of past old)) old.parked ≡ Some index
    → IsTold past (record old { parked = now }) new
    (read_file (terms_of old) (service_of past (record old { parked = now })) read 0 false 0 (file_at read.handle old.files)) read.unique bytes
    → IsReplying past old new index bytes
read-replying past old new index read now bytes within is left going first told =
    let g = terms_of old in
    let s = service_of past old in
    let due : is_due g s read ≡ true = first-due (is_due g s) old.parked index read first is in
    let waits : waits_at g s (file_at read.handle old.files) ≡ false = no-wait (waits_at g s (file_at read.handle old.files)) read.interrupted going due in
    let does : Does g (without_read index s) (read_file g s read 0 false 0 (file_at read.handle old.files)) told.reply (service_of told.is.after new) =
    rw left at told.is.does in
    let has = replies-now g s (without_read index s) (service_of told.is.after new) read 0 false 0 (file_at read.handle old.files) told.reply waits does in
    record {
      after = told.is.after;
      mounted = told.is.mounted;
      terms = told.is.terms;
      told = record {
        read = read;
        is = at-index old.parked index read within is;
        reply = has.0;
        does = does-read g (without_read index s) (service_of told.is.after new) s read (Some has.0) going (rw has.1 at does);
        told = told.bytes_are ∙ ap (λ (r : Option Reply). bytes_of_reply read.unique r) has.1;
      };
    }
  where
    no-wait : (w i : Bool) → i ≡ false → (i || not w) ≡ true → w ≡ false
    no-wait false i going due = refl
    no-wait true false going due = absurd (cc)
    no-wait true true going due = absurd (cc)

-- ---- a poll is told

-- the first file that is ready has a poll that is to be told
pub has-wakeup : (g : Terms) (s : Service) (files : List (Option OpenSeen)) (handle : ℕ) → position (is_ready g s) files ≡ Some handle
    → wakeup_at handle files ≢ None
has-wakeup g s files handle first none =
    let ready = (position-Some (is_ready g s) files handle None first).1 in
    no-ready (file_at handle files) none (ap (is_ready g s) (at-handle files handle) ∙ ready)
  where
    at-handle : (files : List (Option OpenSeen)) (handle : ℕ) → file_at handle files ≡ get_or files handle None
    at-handle [] zero = refl
    at-handle [] (suc handle) = refl
    at-handle (first ∷ files) zero = refl
    at-handle (first ∷ files) (suc handle) = at-handle files handle

    no-ready : (slot : Option OpenSeen) → option_and_then (λ (file : OpenSeen). file.polls.wakeup) slot ≡ None → is_ready g s slot ≡ true → ⊥
    no-ready None none ready = let no : false ≡ true = ready in cc
    no-ready (Some file) none ready = let no : false ≡ true = ap (λ (w : Option ℕ). is_some w && has_news g s file) (sym none) ∙ ready in cc

-- ---- calls

-- the rest of a call: what is owed was worked out
pub reply-called : (past : List Request) (old mid new : MountSeen) (index : ℕ) (bytes : List ℕ)
    → Some index ≡ position (is_due (terms_of old) (service_of past old)) old.parked → IsReplying past old mid index bytes
    → new ≡ record mid { owes = new.owes }
    → ((after : List Request) → HasLedTo after mid → new.owes ≡ is_some (owed (terms_of mid) (service_of after mid)))
    → IsOwedCalled past old new bytes
reply-called past old mid new index bytes first step rest owes =
    rw rest (record {
      after = step.after;
      mounted = record { lives = step.mounted.lives; scene = step.mounted.scene; owes = owes step.after step.mounted };
      terms = step.terms;
      told = rw (sym first) step.told;
    })

pub wake-called : (past : List Request) (old mid new : MountSeen) (bytes : List ℕ) → IsMounted past old → old.owes ≡ true
    → None ≡ position (is_due (terms_of old) (service_of past old)) old.parked
    → ((handle : ℕ) → position (is_ready (terms_of old) (service_of past old)) old.files ≡ Some handle → IsWaking past old mid handle bytes)
    → new ≡ record mid { owes = new.owes }
    → ((after : List Request) → HasLedTo after mid → new.owes ≡ is_some (owed (terms_of mid) (service_of after mid)))
    → IsOwedCalled past old new bytes
wake-called past old mid new bytes mounted owing none steps rest owes =
    by (position (is_ready (terms_of old) (service_of past old)) old.files) refl
  where
    by : (o : Option ℕ) → position (is_ready (terms_of old) (service_of past old)) old.files ≡ o → IsOwedCalled past old new bytes
    by None e =
        let wrong : true ≡ false =
        sym owing ∙ mounted.owes
        ∙ ap (λ (d : Option ℕ). is_some (first_owed d (position (is_ready (terms_of old) (service_of past old)) old.files))) (sym none)
        ∙ ap (λ (w : Option ℕ). is_some (first_owed None w)) e in
        absurd (cc)
    by (Some handle) e =
        let step = steps handle e in
        rw rest (record {
          after = past;
          mounted = record { lives = step.mounted.lives; scene = step.mounted.scene; owes = owes past step.mounted };
          terms = step.terms;
          told = rw (sym none, e) step.told;
        })
