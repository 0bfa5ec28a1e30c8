-- No record of a binary page is lost, or told twice, and the page cache gets whole pages.
use Rattle.std.proofs.Common.{◌≡◌, ◌⊎◌, inl, inr, ℕ, ◌≤◌, ◌==◌, ◌&&◌, nat_lt, Bool, true, false, if◌then◌else◌, List, [], ◌∷◌, ◌++◌, length, drop, min, Option, Some, None, unwrap_or, Ok, Err, refl, sym, ap, subst, ◌∙◌, append-nil, arith}
use Rattle.std.proofs.lemmas.Bool.{eqb-true, false≢true, ltb-false}
use Rattle.std.proofs.lemmas.List.{drop_all, take_all}
use Rattle.fuse_wire.specs.declared.errno.Errno.{Errno}
use Rattle.fuse_wire.specs.declared.errno.Errno.TheVariants.{EAGAIN, EINVAL, ENOENT, ENOMEM}
use Rattle.fuse_wire.specs.declared.reply.Reply.{Reply}
use Rattle.fuse_wire.specs.declared.reply.Reply.TheVariants as replies
use Rattle.fuse_wire.specs.declared.request.Operation.{Operation}
use Rattle.fuse_wire.specs.declared.request.Operation.TheVariants as operations
use Rattle.trace_command.specs.Requests.{Request}
use Rattle.trace_command.specs.declared.command.Reply.{Reply as Answer}
use Rattle.trace_command.specs.declared.refusal.Refusal.{Refusal}
use Rattle.kernel_pages.proofs.PageLemmas.{page_has_its_size}
use Rattle.kernel_pages.proofs.TakingLemmas.{taken_are_a_page}
use Rattle.kernel_pages.specs.Pages.{page_of}
use Rattle.file_list.specs.FileKinds.{kind_of_file}
use Rattle.file_list.specs.FileTable.{file_index}
use Rattle.file_list.specs.declared.file.FileKind.{FileKind}
use Rattle.file_list.specs.declared.file.FileKind.TheVariants as kinds
use Rattle.mount_tree.specs.Children.{is_there}
use Rattle.mount_tree.specs.declared.node.Node.{Node}
use Rattle.mount_replies.specs.Calls.{Called, Exchanged, Shows}
use Rattle.mount_replies.specs.Errnos.{errno_of}
use Rattle.mount_replies.specs.Mounted.{AreServed, Does, Right, TellsOwed, Unframed, Wrong}
use Rattle.mount_replies.specs.Owed.{Owed, ReplyAt, WakeupAt, owed, step_of_parked}
use Rattle.mount_replies.specs.PageTurns.{CachedReadsKeepNothing, GivesNoRecord, GivesPage, IsPageOfRead, NoPageIsLostOrToldTwice, PagesAreOfOneRead, cached_asked, is_cached_read_of, page_asked, page_by, page_next, page_told}
use Rattle.mount_replies.specs.ParkedLaws.{given_asked, given_by, given_told, is_read_of, kept_for}
use Rattle.mount_replies.specs.Pipes.{ends, is_dry, is_used_up}
use Rattle.mount_replies.specs.RawPages.{next_count, next_rows, pipe_node}
use Rattle.mount_replies.specs.Served.{given_records, is_cached, is_nonblocking, part_of, read_dry, read_file, read_kind, read_no_page, read_page, read_pages, read_raw, read_whole_page, step_of}
use Rattle.mount_replies.specs.Services.{OpenSeen, Service, Terms, armed, file_at, most_data, node_of, read_of_pipe, scene_of, text_at, with_dry_read, without_read, without_wakeup}
use Rattle.mount_replies.specs.ShownTexts.{shown_step}
use Rattle.mount_replies.specs.Steps.{Asks, Parks, Plain, Step, Takes, failed, read_of, taking}
use Rattle.mount_replies.specs.declared.parked.Parked.{Parked}
use Rattle.mount_replies.proofs.KeptTexts.{changed-text, either}
use Rattle.mount_replies.proofs.RecordsKept.{IsEven, append-none, does-keeps, dry-left, files-kept, kept-in, none-left, nothing-even, parked-keeps, records-even, same-even, step-keeps, text-is, to-even, wakeup-kept, shown-step-keeps}
use Rattle.mount_replies.proofs.ShownTurns.{is_pipe, no-pipe-shows}
use Rattle.mount_replies.proofs.WaitLaws.{records-kept}

-- ---- reads of a handle's binary pages

-- what was kept and the page that is taken are what is given and what is kept then
abbrev EvenStep : ℕ → List ℕ → List (Option OpenSeen) → Step → Type 0
EvenStep handle page files (Plain outcome) = IsEven handle files outcome.files [] (given_by outcome.reply)
EvenStep handle page files (Asks request outcome) =
    ((answer : Answer) → IsEven handle files (outcome (Ok answer)).files page (given_by (outcome (Ok answer)).reply))
    × ((refusal : Refusal) → IsEven handle files (outcome (Err refusal)).files [] (given_by (outcome (Err refusal)).reply))
EvenStep handle page files (Parks read) = Unit {0}
EvenStep handle page files _ = ⊥

does-even : (g : Terms) (before : Service) (file : OpenSeen) (step : Step) (reply : Option Reply) (after : Service) (handle : ℕ)
    (does : Does g before step reply after) → EvenStep handle (page_next g before file) before.files step
    → IsEven handle before.files after.files (page_by g before file step reply after does) (given_by reply)
does-even g before file (Plain outcome) reply after handle does even =
    to-even handle before.files outcome.files after.files [] outcome.reply reply (ap (λ (s : Service). s.files) does.1) does.0 even
does-even g before file (Asks request outcome) reply after handle (Ok answer, answered, told, same) even =
    to-even handle before.files (outcome (Ok answer)).files after.files (page_next g before file) (outcome (Ok answer)).reply reply
    (ap (λ (s : Service). s.files) same) told (even.0 answer)
does-even g before file (Asks request outcome) reply after handle (Err refusal, answered, told, same) even =
    to-even handle before.files (outcome (Err refusal)).files after.files [] (outcome (Err refusal)).reply reply (ap (λ (s : Service). s.files) same) told
    (even.1 refusal)
does-even g before file (Parks read) reply after handle (inl does) even =
    to-even handle before.files before.files after.files [] None reply (ap (λ (s : Service). s.files) does.1) does.0 (nothing-even handle before.files before.files refl)
does-even g before file (Parks read) reply after handle (inr does) even =
    to-even handle before.files before.files after.files [] _ reply (ap (λ (s : Service). s.files) does.1) does.0 (nothing-even handle before.files before.files refl)
does-even g before file _ reply after handle does even = absurd even

dry-even : (read : Parked) (page : List ℕ) (flags : ℕ) (has_ended : Bool) (files : List (Option OpenSeen))
    → EvenStep read.handle page files (read_dry read flags has_ended files)
dry-even read page flags has_ended files =
    either (EvenStep read.handle page files) has_ended _ _ (dry-left true read.handle files)
    (either (EvenStep read.handle page files) (is_nonblocking flags) _ _ (dry-left false read.handle files) tt)

page-even : (g : Terms) (s : Service) (read : Parked) (file : OpenSeen) → file_at read.handle s.files ≡ Some file → is_used_up file ≡ true
    → EvenStep read.handle (page_next g s file) s.files (read_page g s read file)
page-even g s read file there used =
    let none = text-is read.handle s.files file there ∙ none-left (unwrap_or file.text []) used in (
      λ answer. ap (λ (t : List ℕ). t ++ page_next g s file) none ∙ records-even read.handle read.size (page_next g s file) s.files file there,
      λ refusal. same-even read.handle s.files,
    )

new-even : (g : Terms) (s : Service) (read : Parked) (flags : ℕ) (file : OpenSeen) → file_at read.handle s.files ≡ Some file → is_used_up file ≡ true
    → EvenStep read.handle (page_next g s file) s.files (if is_dry g s file.owner file.file then read_dry read flags (ends g s file) s.files else read_page g s read file)
new-even g s read flags file there used =
    either (EvenStep read.handle (page_next g s file) s.files) (is_dry g s file.owner file.file) _ _ (dry-even read (page_next g s file) flags (ends g s file) s.files)
    (page-even g s read file there used)

pages-even : (g : Terms) (s : Service) (read : Parked) (flags : ℕ) (file : OpenSeen) → file_at read.handle s.files ≡ Some file
    → EvenStep read.handle (page_next g s file) s.files (read_pages g s read flags file)
pages-even g s read flags file there = by (is_used_up file) refl
  where
    by : (used : Bool) → is_used_up file ≡ used → EvenStep read.handle (page_next g s file) s.files
        (if used then (if is_dry g s file.owner file.file then read_dry read flags (ends g s file) s.files else read_page g s read file)
        else Plain (given_records read.handle read.size (unwrap_or file.text []) s.files))
    by false e =
        append-none (kept-in read.handle s.files) ∙ text-is read.handle s.files file there
        ∙ records-even read.handle read.size (unwrap_or file.text []) s.files file there
    by true e = new-even g s read flags file there e

-- one that is not by the page cache
kind-even : (g : Terms) (s : Service) (read : Parked) (offset flags : ℕ) (file : OpenSeen) (kind : FileKind) → kind ≡ kinds.RawPipe
    → file_at read.handle s.files ≡ Some file → EvenStep read.handle (page_next g s file) s.files (read_kind g s read offset false flags file kind)
kind-even g s read offset flags file kind raw there =
    subst (λ (k : FileKind). EvenStep read.handle (page_next g s file) s.files (read_kind g s read offset false flags file k)) (sym raw)
    (pages-even g s read flags file there)

read-even : (g : Terms) (s : Service) (read : Parked) (offset flags : ℕ) (file : OpenSeen) → kind_of_file file.file ≡ kinds.RawPipe
    → file_at read.handle s.files ≡ Some file
    → EvenStep read.handle (page_next g s file) s.files (read_file g s read offset false flags (file_at read.handle s.files))
read-even g s read offset flags file raw there =
    subst (λ (slot : Option OpenSeen). EvenStep read.handle (page_next g s file) s.files (read_file g s read offset false flags slot)) (sym there)
    (either (EvenStep read.handle (page_next g s file) s.files) (is_there (scene_of g s) (node_of file)) _ _
    (kind-even g s read offset flags file (kind_of_file file.file) raw there) (same-even read.handle s.files))

parked-even : (g : Terms) (s : Service) (read : Parked) (file : OpenSeen) → kind_of_file file.file ≡ kinds.RawPipe → file_at read.handle s.files ≡ Some file
    → EvenStep read.handle (page_next g s file) s.files (step_of_parked g s read)
parked-even g s read file raw there =
    either (EvenStep read.handle (page_next g s file) s.files) read.interrupted _ _ (dry-left false read.handle s.files) (read-even g s read 0 0 file raw there)

-- ---- exchanges

not-cached : (own cached : Bool) → own ≡ true → (own && cached) ≡ false → cached ≡ false
not-cached true cached is none = none
not-cached false cached is none = absurd (false≢true is)

even-read : (handle : ℕ) (g : Terms) (s : Service) (unique pid : ℕ) (target : Option Node) (operation : Operation) (file : OpenSeen)
    → is_read_of handle operation ≡ true → is_cached_read_of handle operation ≡ false → kind_of_file file.file ≡ kinds.RawPipe → file_at handle s.files ≡ Some file
    → EvenStep handle (page_next g s file) s.files (step_of g s unique pid target operation)
even-read handle g s unique pid target (operations.Read other offset size read_flags flags) file is none raw there =
    subst (λ (h : ℕ). EvenStep h (page_next g s file) s.files (read_file g s (read_of_pipe unique other size) offset (is_cached read_flags) flags (file_at other s.files)))
    (eqb-true other handle is)
    (subst (λ (c : Bool). EvenStep other (page_next g s file) s.files (read_file g s (read_of_pipe unique other size) offset c flags (file_at other s.files)))
    (sym (not-cached (other == handle) (is_cached read_flags) is none))
    (read-even g s (read_of_pipe unique other size) offset flags file raw (ap (λ (h : ℕ). file_at h s.files) (eqb-true other handle is) ∙ there)))
even-read handle g s unique pid target _ file is none raw there = absurd (false≢true is)

told-even : (handle : ℕ) (g : Terms) (before : Service) (what : Option Owed) (bytes : List ℕ) (after : Service) (told : TellsOwed g before what bytes after)
    (old new : OpenSeen) → file_at handle before.files ≡ Some old → kind_of_file old.file ≡ kinds.RawPipe → file_at handle after.files ≡ Some new
    → IsEven handle before.files after.files (page_told handle old g before what bytes after told) (given_told handle g before what bytes after told)
told-even handle g before None bytes after told old new was raw is = absurd told
told-even handle g before (Some (ReplyAt index)) bytes after told old new was raw is = by (told.read.handle == handle) refl
  where
    by : (t : Bool) → (told.read.handle == handle) ≡ t → IsEven handle before.files after.files
        (if t then page_by g (without_read index before) old (step_of_parked g before told.read) (Some told.reply) after told.does else [])
        (if t then given_by (Some told.reply) else [])
    by true e =
        does-even g (without_read index before) old (step_of_parked g before told.read) (Some told.reply) after handle told.does
        (subst (λ (h : ℕ). EvenStep h (page_next g before old) before.files (step_of_parked g before told.read)) (eqb-true told.read.handle handle e)
        (parked-even g before told.read old raw (ap (λ (h : ℕ). file_at h before.files) (eqb-true told.read.handle handle e) ∙ was)))
    by false e =
        nothing-even handle before.files after.files
        (does-keeps g (without_read index before) (step_of_parked g before told.read) (Some told.reply) after handle (parked-keeps handle g before told.read e) told.does
        old new was is)
told-even handle g before (Some (WakeupAt other)) bytes after told old new was raw is =
    nothing-even handle before.files after.files
    (files-kept handle before after (without_wakeup other before.files) (ap (λ (s : Service). s.files) told.now) (wakeup-kept handle other before.files) old new was is)

asked-even : (handle : ℕ) (g : Terms) (before : Service) (asked bytes : List ℕ) (after : Service) (served : AreServed g before asked bytes after)
    (old new : OpenSeen) → file_at handle before.files ≡ Some old → kind_of_file old.file ≡ kinds.RawPipe → file_at handle after.files ≡ Some new
    → cached_asked handle g before asked bytes after served ≡ false
    → IsEven handle before.files after.files (page_asked handle old g before asked bytes after served) (given_asked handle g before asked bytes after served)
asked-even handle g before asked bytes after (Right request framed served) old new was raw is none = by (is_read_of handle request.operation) refl
  where
    by : (t : Bool) → is_read_of handle request.operation ≡ t → IsEven handle before.files after.files
        (if t then page_by g before old (step_of g before request.unique request.pid served.node request.operation) served.reply after served.does else [])
        (if t then given_by served.reply else [])
    by true e =
        does-even g before old (step_of g before request.unique request.pid served.node request.operation) served.reply after handle served.does
        (even-read handle g before request.unique request.pid served.node request.operation old e none raw was)
    by false e =
        nothing-even handle before.files after.files
        (does-keeps g before (step_of g before request.unique request.pid served.node request.operation) served.reply after handle
        (step-keeps handle g before request.unique request.pid served.node request.operation e) served.does old new was is)
asked-even handle g before asked bytes after (Wrong opcode unique framed other told same) old new was raw is none =
    nothing-even handle before.files after.files (ap (λ (s : Service). text_at handle s.files) same)
asked-even handle g before asked bytes after (Unframed other told same) old new was raw is none =
    nothing-even handle before.files after.files (ap (λ (s : Service). text_at handle s.files) same)

pub no_page_is_lost_or_told_twice : NoPageIsLostOrToldTwice
no_page_is_lost_or_told_twice g before (Exchanged [] bytes) after told handle old new was raw is none =
    told-even handle g before (owed g before) bytes after told old new was raw is
no_page_is_lost_or_told_twice g before (Exchanged (byte ∷ asked) bytes) after (quiet, served) handle old new was raw is none =
    asked-even handle g before (byte ∷ asked) bytes after served old new was raw is none
no_page_is_lost_or_told_twice g before (Called limit request answer) after one handle old new was raw is none =
    append-nil (kept_for handle before) ∙ ap (λ (s : Service). kept_for handle s) (sym one.1)
no_page_is_lost_or_told_twice g before (Shows shown asked bytes) after one handle old new was raw is none =
    nothing-even handle before.files after.files
    (does-keeps g before (shown_step g before one.request.unique shown one.request.operation) one.reply after handle
    (shown-step-keeps handle g before one.request.unique one.node shown one.request.operation old was
    (no-pipe-shows old.file (ap is_pipe raw)) one.wanted) one.does old new was is)

-- ---- whole pages

page-whole : (g : Terms) (s : Service) (file : OpenSeen) → length (page_next g s file) ≡ 4096
page-whole g s file = page_has_its_size _ (taken_are_a_page (next_rows g s file.owner (file_index file.file)))

empty-whole : length (page_of []) ≡ 4096
empty-whole = page_has_its_size [] (taken_are_a_page [])

-- there is room for a whole page
all-given : (size : ℕ) (page : List ℕ) → 4096 ≤ size → length page ≡ 4096 → part_of 0 size page ≡ page
all-given size page room whole = take_all (min size most_data) page (omega (arith, room, whole))

none-kept : (size : ℕ) (page : List ℕ) → 4096 ≤ size → length page ≡ 4096 → drop (min size most_data) page ≡ []
none-kept size page room whole = drop_all (min size most_data) page (omega (arith, room, whole))

-- what a step of such a READ comes to
abbrev Gives : Terms → Service → ℕ → OpenSeen → Step → Type 0
Gives g before handle file step =
    (reply : Option Reply) (after : Service) → Does g before step reply after
    → GivesPage g before handle file reply after ⊎ GivesNoRecord before handle reply after

-- files that keep the same for the handle
same-kept-for : (handle : ℕ) (before after : Service) (files : List (Option OpenSeen)) → after.files ≡ files → text_at handle files ≡ text_at handle before.files
    → kept_for handle after ≡ kept_for handle before
same-kept-for handle before after files is same =
    ap (λ (f : List (Option OpenSeen)). kept-in handle f) is ∙ ap (λ (t : Option (List ℕ)). unwrap_or t []) same

fails : (g : Terms) (s : Service) (handle : ℕ) (file : OpenSeen) (errno : Errno) (files : List (Option OpenSeen))
    → text_at handle files ≡ text_at handle s.files → Gives g s handle file (failed errno files)
fails g s handle file errno files same reply after does = inr (record {
  told = inr (errno, does.0);
  took = ap (λ (a : Service). a.past) does.1;
  left = same-kept-for handle s after files (ap (λ (a : Service). a.files) does.1) same;
})

no-page-gives : (g : Terms) (s : Service) (read : Parked) (file : OpenSeen) → 4096 ≤ read.size → Gives g s read.handle file (read_no_page read file s.files)
no-page-gives g s read file room = by file.polls.told_ready
  where
    dry : text_at read.handle (with_dry_read false read.handle s.files) ≡ text_at read.handle s.files
    dry = changed-text (λ (f : OpenSeen). record f { polls = armed false f.polls }) (λ f. refl) s.files read.handle read.handle

    by : (ready : Bool) → Gives g s read.handle file
        (if ready then taking (replies.Data (part_of 0 read.size (page_of []))) (with_dry_read false read.handle s.files)
        else failed EAGAIN (with_dry_read false read.handle s.files))
    by true reply after (inl does) = inr (record {
      told = inl (does.0 ∙ ap (λ (page : List ℕ). Some (replies.Data page)) (all-given read.size (page_of []) room empty-whole), empty-whole);
      took = ap (λ (a : Service). a.past) does.1;
      left = same-kept-for read.handle s after (with_dry_read false read.handle s.files) (ap (λ (a : Service). a.files) does.1) dry;
    })
    by true reply after (inr does) = inr (record {
      told = inr (ENOMEM, does.0);
      took = ap (λ (a : Service). a.past) does.1;
      left = ap (λ (a : Service). kept_for read.handle a) does.1;
    })
    by false reply after does = fails g s read.handle file EAGAIN (with_dry_read false read.handle s.files) dry reply after does

page-gives : (g : Terms) (s : Service) (read : Parked) (file : OpenSeen) → 4096 ≤ read.size → file_at read.handle s.files ≡ Some file
    → is_used_up file ≡ true → Gives g s read.handle file (read_page g s read file)
page-gives g s read file room there used reply after (Ok answer, answered, told, same) =
    let page = page_next g s file in
    let whole = page-whole g s file in
    inl (record {
      page = told ∙ ap (λ (p : List ℕ). Some (replies.Data p)) (all-given read.size page room whole);
      whole = whole;
      took = ap (λ (a : Service). a.past) same;
      none = text-is read.handle s.files file there ∙ none-left (unwrap_or file.text []) used;
      left =
          ap (λ (a : Service). kept_for read.handle a) same
          ∙ (ap (λ (t : Option (List ℕ)). unwrap_or t []) (records-kept s.files read.handle (drop (min read.size most_data) page) file there)
          ∙ none-kept read.size page room whole);
    })
page-gives g s read file room there used reply after (Err refusal, answered, told, same) = inr (record {
  told = inr (errno_of refusal, told);
  took = ap (λ (a : Service). a.past) same;
  left = ap (λ (a : Service). kept_for read.handle a) same;
})

whole-gives : (g : Terms) (s : Service) (read : Parked) (file : OpenSeen) → file_at read.handle s.files ≡ Some file → is_used_up file ≡ true
    → Gives g s read.handle file (read_whole_page g s read file)
whole-gives g s read file there used = by (nat_lt read.size 4096) refl
  where
    by : (few : Bool) → nat_lt read.size 4096 ≡ few → Gives g s read.handle file
        (if few then failed EINVAL s.files else if is_dry g s file.owner file.file then read_no_page read file s.files else read_page g s read file)
    by true few = fails g s read.handle file EINVAL s.files refl
    by false few =
        let room = ltb-false read.size 4096 few in
        either (Gives g s read.handle file) (is_dry g s file.owner file.file) (read_no_page read file s.files) (read_page g s read file)
        (no-page-gives g s read file room) (page-gives g s read file room there used)

kind-gives : (g : Terms) (s : Service) (read : Parked) (offset flags : ℕ) (file : OpenSeen) (kind : FileKind) → kind ≡ kinds.RawPipe
    → file_at read.handle s.files ≡ Some file → Gives g s read.handle file (read_kind g s read offset true flags file kind)
kind-gives g s read offset flags file kind raw there =
    subst (λ (k : FileKind). Gives g s read.handle file (read_kind g s read offset true flags file k)) (sym raw)
    (by (is_used_up file) refl)
  where
    by : (used : Bool) → is_used_up file ≡ used → Gives g s read.handle file (if used then read_whole_page g s read file else failed EINVAL s.files)
    by true used = whole-gives g s read file there used
    by false used = fails g s read.handle file EINVAL s.files refl

read-gives : (g : Terms) (s : Service) (read : Parked) (offset flags : ℕ) (file : OpenSeen) → kind_of_file file.file ≡ kinds.RawPipe
    → file_at read.handle s.files ≡ Some file
    → Gives g s read.handle file (read_file g s read offset true flags (file_at read.handle s.files))
read-gives g s read offset flags file raw there =
    subst (λ (slot : Option OpenSeen). Gives g s read.handle file (read_file g s read offset true flags slot)) (sym there)
    (either (Gives g s read.handle file) (is_there (scene_of g s) (node_of file)) (read_kind g s read offset true flags file (kind_of_file file.file))
    (failed ENOENT s.files) (kind-gives g s read offset flags file (kind_of_file file.file) raw there) (fails g s read.handle file ENOENT s.files refl))

pub cached_reads_keep_nothing : CachedReadsKeepNothing
cached_reads_keep_nothing g before after request bytes handle offset size read_flags flags file served asks cached opened raw =
    subst (λ (c : Bool). Gives g before handle file (read_file g before read offset c flags (file_at handle before.files))) (sym cached)
    (read-gives g before read offset flags file raw opened) served.reply after (rw asks at served.does)
  where
    read : Parked
    read = read_of_pipe request.unique handle size

-- ---- a page is of one read

-- a step takes a page by the read of its pipe, or asks nothing
abbrev TakesPage : Terms → Service → OpenSeen → Step → Type 0
TakesPage g s file (Plain outcome) = Unit {0}
TakesPage g s file (Takes outcome) = Unit {0}
TakesPage g s file (Parks read) = Unit {0}
TakesPage g s file (Asks request outcome) =
    request ≡ read_of (scene_of g s) (pipe_node file) (Some (next_count g s file.owner (file_index file.file)))
TakesPage g s file _ = ⊥

abbrev NoneOrPage : Terms → Service → Service → OpenSeen → List ℕ → Type 0
NoneOrPage g before after file page = (page ≡ []) ⊎ IsPageOfRead g before after file page

does-take : (g : Terms) (before : Service) (file : OpenSeen) (step : Step) (reply : Option Reply) (after : Service) (does : Does g before step reply after)
    → TakesPage g before file step → NoneOrPage g before after file (page_by g before file step reply after does)
does-take g before file (Plain outcome) reply after does takes = inl refl
does-take g before file (Takes outcome) reply after does takes = inl refl
does-take g before file (Parks read) reply after does takes = inl refl
does-take g before file (Asks request outcome) reply after (Err refusal, answered, told, same) takes = inl refl
does-take g before file (Asks request outcome) reply after (Ok answer, answered, told, same) takes =
    inr (record { is = refl; took = ap (λ (s : Service). s.past) same ∙ ap (λ (r : Request). r ∷ before.past) takes })
does-take g before file _ reply after does takes = absurd takes

dry-takes : (g : Terms) (s : Service) (file : OpenSeen) (read : Parked) (flags : ℕ) (has_ended : Bool) → TakesPage g s file (read_dry read flags has_ended s.files)
dry-takes g s file read flags has_ended = either (TakesPage g s file) has_ended _ _ tt (either (TakesPage g s file) (is_nonblocking flags) _ _ tt tt)

raw-takes : (g : Terms) (s : Service) (file : OpenSeen) (read : Parked) (cached : Bool) (flags : ℕ) → TakesPage g s file (read_raw g s read cached flags file)
raw-takes g s file read cached flags =
    either (TakesPage g s file) cached _ _
    (either (TakesPage g s file) (is_used_up file) _ _
    (either (TakesPage g s file) (nat_lt read.size 4096) _ _ tt
    (either (TakesPage g s file) (is_dry g s file.owner file.file) _ _ (either (TakesPage g s file) file.polls.told_ready _ _ tt tt) refl)) tt)
    (either (TakesPage g s file) (is_used_up file) _ _
    (either (TakesPage g s file) (is_dry g s file.owner file.file) _ _ (dry-takes g s file read flags (ends g s file)) refl) tt)

read-takes : (g : Terms) (s : Service) (read : Parked) (offset : ℕ) (cached : Bool) (flags : ℕ) (file : OpenSeen) → kind_of_file file.file ≡ kinds.RawPipe
    → file_at read.handle s.files ≡ Some file → TakesPage g s file (read_file g s read offset cached flags (file_at read.handle s.files))
read-takes g s read offset cached flags file raw there =
    subst (λ (slot : Option OpenSeen). TakesPage g s file (read_file g s read offset cached flags slot)) (sym there)
    (either (TakesPage g s file) (is_there (scene_of g s) (node_of file)) _ _
    (subst (λ (k : FileKind). TakesPage g s file (read_kind g s read offset cached flags file k)) (sym raw) (raw-takes g s file read cached flags)) tt)

parked-takes : (g : Terms) (s : Service) (read : Parked) (file : OpenSeen) → kind_of_file file.file ≡ kinds.RawPipe → file_at read.handle s.files ≡ Some file
    → TakesPage g s file (step_of_parked g s read)
parked-takes g s read file raw there = either (TakesPage g s file) read.interrupted _ _ tt (read-takes g s read 0 false 0 file raw there)

request-takes : (handle : ℕ) (g : Terms) (s : Service) (unique pid : ℕ) (target : Option Node) (operation : Operation) (file : OpenSeen)
    → is_read_of handle operation ≡ true → kind_of_file file.file ≡ kinds.RawPipe → file_at handle s.files ≡ Some file
    → TakesPage g s file (step_of g s unique pid target operation)
request-takes handle g s unique pid target (operations.Read other offset size read_flags flags) file is raw there =
    read-takes g s (read_of_pipe unique other size) offset (is_cached read_flags) flags file raw
    (ap (λ (h : ℕ). file_at h s.files) (eqb-true other handle is) ∙ there)
request-takes handle g s unique pid target _ file is raw there = absurd (false≢true is)

told-take : (handle : ℕ) (g : Terms) (before : Service) (what : Option Owed) (bytes : List ℕ) (after : Service) (told : TellsOwed g before what bytes after)
    (file : OpenSeen) → file_at handle before.files ≡ Some file → kind_of_file file.file ≡ kinds.RawPipe
    → NoneOrPage g before after file (page_told handle file g before what bytes after told)
told-take handle g before None bytes after told file opened raw = inl refl
told-take handle g before (Some (WakeupAt other)) bytes after told file opened raw = inl refl
told-take handle g before (Some (ReplyAt index)) bytes after told file opened raw = by (told.read.handle == handle) refl
  where
    own : (page : List ℕ) → NoneOrPage g (without_read index before) after file page → NoneOrPage g before after file page
    own page (inl none) = inl none
    own page (inr taken) = inr (record { is = taken.is; took = taken.took })

    by : (t : Bool) → (told.read.handle == handle) ≡ t → NoneOrPage g before after file
        (if t then page_by g (without_read index before) file (step_of_parked g before told.read) (Some told.reply) after told.does else [])
    by false e = inl refl
    by true e =
        own (page_by g (without_read index before) file (step_of_parked g before told.read) (Some told.reply) after told.does)
        (does-take g (without_read index before) file (step_of_parked g before told.read) (Some told.reply) after told.does
        (parked-takes g before told.read file raw (ap (λ (h : ℕ). file_at h before.files) (eqb-true told.read.handle handle e) ∙ opened)))

asked-take : (handle : ℕ) (g : Terms) (before : Service) (asked bytes : List ℕ) (after : Service) (served : AreServed g before asked bytes after)
    (file : OpenSeen) → file_at handle before.files ≡ Some file → kind_of_file file.file ≡ kinds.RawPipe
    → NoneOrPage g before after file (page_asked handle file g before asked bytes after served)
asked-take handle g before asked bytes after (Wrong opcode unique framed none told same) file opened raw = inl refl
asked-take handle g before asked bytes after (Unframed none told same) file opened raw = inl refl
asked-take handle g before asked bytes after (Right request is served) file opened raw = by (is_read_of handle request.operation) refl
  where
    by : (t : Bool) → is_read_of handle request.operation ≡ t → NoneOrPage g before after file
        (if t then page_by g before file (step_of g before request.unique request.pid served.node request.operation) served.reply after served.does else [])
    by false e = inl refl
    by true e =
        does-take g before file (step_of g before request.unique request.pid served.node request.operation) served.reply after served.does
        (request-takes handle g before request.unique request.pid served.node request.operation file e raw opened)

pub pages_are_of_one_read : PagesAreOfOneRead
pages_are_of_one_read g before (Exchanged [] bytes) after told handle file opened raw =
    told-take handle g before (owed g before) bytes after told file opened raw
pages_are_of_one_read g before (Exchanged (byte ∷ asked) bytes) after (quiet, served) handle file opened raw =
    asked-take handle g before (byte ∷ asked) bytes after served file opened raw
pages_are_of_one_read g before (Called limit request answer) after one handle file opened raw = inl refl
pages_are_of_one_read g before (Shows shown asked bytes) after one handle file opened raw = inl refl
