-- What stays not owed: a look-up changes nothing that is owed, and a poll waits only for what is not there.
use Rattle.std.proofs.Common.{◌≡◌, ℕ, ◌<◌, ◌^◌, zero, suc, Bool, true, false, not, ◌&&◌, ◌||◌, if◌then◌else◌, is_some, List, [], ◌∷◌, length, set, Option, Some, None, refl, sym, ap, ◌∙◌, inl, inr, arith}
use Rattle.std.proofs.lemmas.Bool.{lt-ltb}
use Rattle.std.specs.List.{list_any, position, position_or_len}
use Rattle.std.specs.Option.{option_map}
use Rattle.fuse_wire.specs.declared.errno.Errno.TheVariants.{EINVAL}
use Rattle.fuse_wire.specs.declared.request.Operation.{Operation}
use Rattle.fuse_wire.specs.declared.request.Operation.TheVariants as operations
use Rattle.fuse_wire.specs.declared.request.Request.{Request as Asked}
use Rattle.fuse_wire.specs.declared.reply.Reply.{Reply}
use Rattle.fuse_wire.specs.declared.reply.Reply.TheVariants as replies
use Rattle.trace_command.specs.Requests.{Request}
use Rattle.trace_command.specs.declared.file_name.CpuFile.TheVariants as per_cpu
use Rattle.trace_command.specs.declared.file_name.EventFile.TheVariants as per_event
use Rattle.trace_command.specs.declared.file_name.TopFile.TheVariants as top
use Rattle.file_list.specs.FileKinds.{kind_of_file}
use Rattle.mount_tree.specs.Nodes.{number_of}
use Rattle.file_list.specs.declared.file.File.{File}
use Rattle.file_list.specs.declared.file.File.TheVariants as files
use Rattle.file_list.specs.declared.file.FileKind.{FileKind}
use Rattle.file_list.specs.declared.file.FileKind.TheVariants as kinds
use Rattle.mount_tree.specs.declared.node.Node.{Node}
use Rattle.mount_tree.specs.declared.node.Node.TheVariants as nodes
use Rattle.mount_tree.specs.declared.node.Owner.{Owner}
use Rattle.mount_replies.specs.Mounted.{Does, IsMounted, IsServedBy, IsSteppedBy, MountSeen, service_of, terms_of}
use Rattle.mount_replies.specs.Owed.{Owed, first_owed, is_due, is_ready, owed}
use Rattle.mount_replies.specs.Pipes.{ends, has_nothing, is_dry, is_used_up, tells_end, waits_at, would_wait}
use Rattle.mount_replies.specs.Served.{poll_file, poll_kind, step_of, wants_wakeup, with_wanted_poll}
use Rattle.mount_replies.specs.Services.{OpenSeen, Service, Terms, count_of, file_at, polled_by, scene_of, with_change, with_poll, with_told_ready}
use Rattle.mount_replies.specs.Sizes.{Telling, count_text, entry_number, get_attributes, is_recent, set_attributes, size_by_kind, size_counted, size_of_text, tell_attributes, tell_entry, tell_size}
use Rattle.mount_replies.specs.Steps.{failed, plain}
use Rattle.mount_replies.specs.Told.{attributes_of, found_in, known, sets_size}
use Rattle.mount_replies.specs.declared.counted.Counted.{Counted}
use Rattle.mount_replies.specs.declared.parked.Parked.{Parked}
use Rattle.mount_replies.specs.declared.polls.Polls.{Polls}
use Rattle.mount_replies.specs.private.StillReplies.{may_owe}
use Rattle.mount_replies.proofs.FileLemmas.{none-set}
use Rattle.mount_replies.proofs.Firsts.{no-first}

-- ---- nothing is owed where no read is due and no file is ready

-- an element that passes is before the end
any-len : {A : Type 0} (p : A → Bool) (xs : List A) → list_any p xs ≡ true → position_or_len p xs < length xs
any-len p [] some = absurd (cc)
any-len p (x ∷ xs) some = by (p x) refl (λ rest. any-len p xs rest)
  where
    by : (t : Bool) → p x ≡ t → (list_any p xs ≡ true → position_or_len p xs < length xs) → position_or_len p (x ∷ xs) < length (x ∷ xs)
    by true e more = rw e (omega arith)
    by false e more =
        let rest : list_any p xs ≡ true = rw e at some in
        let within : position_or_len p xs < length xs = more rest in
        rw e (omega (arith, within))

-- if none is the first, none passes
none-any : {A : Type 0} (p : A → Bool) (xs : List A) → position p xs ≡ None → list_any p xs ≡ false
none-any p xs none = by (list_any p xs) refl
  where
    by : (t : Bool) → list_any p xs ≡ t → t ≡ false
    by false e = refl
    by true e =
        let less = lt-ltb (position_or_len p xs) (length xs) (any-len p xs e) in
        absurd (let wrong : Some (position_or_len p xs) ≡ None = rw less at none in cc)

pub none-due : (g : Terms) (s : Service) → owed g s ≡ None → list_any (is_due g s) s.parked ≡ false
none-due g s none = none-any (is_due g s) s.parked (by (position (is_due g s) s.parked) (position (is_ready g s) s.files) none)
  where
    by : (due ready : Option ℕ) → first_owed due ready ≡ None → due ≡ None
    by None ready e = refl
    by (Some index) ready e = absurd (cc)

none-ready : (g : Terms) (s : Service) → owed g s ≡ None → list_any (is_ready g s) s.files ≡ false
none-ready g s none = none-any (is_ready g s) s.files (by (position (is_due g s) s.parked) (position (is_ready g s) s.files) none)
  where
    by : (due ready : Option ℕ) → first_owed due ready ≡ None → ready ≡ None
    by None None e = refl
    by None (Some handle) e = absurd (cc)
    by (Some index) ready e = absurd (cc)

pub still-none : (g : Terms) (s : Service) → list_any (is_due g s) s.parked ≡ false → list_any (is_ready g s) s.files ≡ false → owed g s ≡ None
still-none g s due ready =
    ap (λ (index : Option ℕ). first_owed index (position (is_ready g s) s.files)) (no-first (is_due g s) s.parked due)
    ∙ ap (λ (handle : Option ℕ). first_owed None handle) (no-first (is_ready g s) s.files ready)

-- ---- look-ups: what is counted is not looked at

plain-quiet : (g : Terms) (s after : Service) (told : Reply) (reply : Option Reply) → Does g s (plain told s.files) reply after → owed g after ≡ owed g s
plain-quiet g s after told reply does = ap (λ (x : Service). owed g x) does.1

count-quiet : (g : Terms) (s after : Service) (telling : Telling) (owner : Owner) (file : File) (reply : Option Reply)
    → Does g s (count_text g s telling owner file) reply after → owed g after ≡ owed g s
count-quiet g s after telling owner file reply (inl does) = ap (λ (x : Service). owed g x) does.1
count-quiet g s after telling owner file reply (inr does) = ap (λ (x : Service). owed g x) does.1

text-quiet : (g : Terms) (s after : Service) (telling : Telling) (owner : Owner) (file : File) (count : Option Counted) (reply : Option Reply)
    → Does g s (size_of_text g s telling owner file count) reply after → owed g after ≡ owed g s
text-quiet g s after telling owner file count reply = by (is_recent (length s.past) count)
  where
    by : (t : Bool) → Does g s (if t then plain (telling (size_counted count)) s.files else count_text g s telling owner file) reply after
        → owed g after ≡ owed g s
    by true does = plain-quiet g s after (telling (size_counted count)) reply does
    by false does = count-quiet g s after telling owner file reply does

kind-quiet : (g : Terms) (s after : Service) (telling : Telling) (pages : ℕ) (owner : Owner) (file : File) (kind : FileKind) (reply : Option Reply)
    → Does g s (size_by_kind g s telling pages owner file kind) reply after → owed g after ≡ owed g s
kind-quiet g s after telling pages owner file kinds.Pipe reply does = plain-quiet g s after (telling 1) reply does
kind-quiet g s after telling pages owner file kinds.RawPipe reply does = plain-quiet g s after (telling pages) reply does
kind-quiet g s after telling pages owner file kinds.Inject reply does = plain-quiet g s after (telling 0) reply does
kind-quiet g s after telling pages owner file kinds.ErrorLog reply does = count-quiet g s after telling owner file reply does
kind-quiet g s after telling pages owner file kinds.Tool reply does =
    text-quiet g s after telling owner file (count_of (number_of (nodes.File owner file)) s.counted) reply does
kind-quiet g s after telling pages owner file kinds.Text reply does =
    text-quiet g s after telling owner file (count_of (number_of (nodes.File owner file)) s.counted) reply does
kind-quiet g s after telling pages owner file kinds.Trace reply does =
    text-quiet g s after telling owner file (count_of (number_of (nodes.File owner file)) s.counted) reply does

size-quiet : (g : Terms) (s after : Service) (telling : Telling) (pages : ℕ) (node : Node) (reply : Option Reply)
    → Does g s (tell_size g s telling pages node) reply after → owed g after ≡ owed g s
size-quiet g s after telling pages (nodes.Folder owner folder) reply does = plain-quiet g s after (telling 0) reply does
size-quiet g s after telling pages (nodes.File owner file) reply does = kind-quiet g s after telling pages owner file (kind_of_file file) reply does

entry-quiet : (g : Terms) (s after : Service) (unique : ℕ) (node : Option Node) (reply : Option Reply)
    → Does g s (tell_entry g s unique node) reply after
    → owed g after ≡ owed g s
entry-quiet g s after unique None reply does = plain-quiet g s after _ reply does
entry-quiet g s after unique (Some node) reply does =
    size-quiet g s after (λ (size : ℕ). replies.Entry (entry_number unique node) (attributes_of g node size)) (2 ^ 40) node reply does

attributes-quiet : (g : Terms) (s after : Service) (node : Option Node) (reply : Option Reply) → Does g s (tell_attributes g s node) reply after
    → owed g after ≡ owed g s
attributes-quiet g s after None reply does = plain-quiet g s after _ reply does
attributes-quiet g s after (Some node) reply does = size-quiet g s after (λ (size : ℕ). replies.Attributes (attributes_of g node size)) 0 node reply does

set-quiet : (g : Terms) (s after : Service) (node : Option Node) (valid size : ℕ) (reply : Option Reply)
    → Does g s (set_attributes g s node valid size) reply after → owed g after ≡ owed g s
set-quiet g s after node valid size reply = by (sets_size valid size)
  where
    by : (t : Bool) → Does g s (if t then failed EINVAL s.files else get_attributes g s node) reply after → owed g after ≡ owed g s
    by true does = plain-quiet g s after _ reply does
    by false does = attributes-quiet g s after (known (scene_of g s) node) reply does

-- ---- polls

-- a look at a slot that a change does not alter
same-at : {A : Type 0} (look : Option OpenSeen → A) (change : OpenSeen → OpenSeen) → ((slot : Option OpenSeen) → look (option_map change slot) ≡ look slot)
    → (files : List (Option OpenSeen)) (handle other : ℕ) → look (file_at other (with_change change handle files)) ≡ look (file_at other files)
same-at look change same [] handle other = refl
same-at look change same (first ∷ files) zero zero = same first
same-at look change same (first ∷ files) zero (suc other) = refl
same-at look change same (first ∷ files) (suc handle) zero = refl
same-at look change same (first ∷ files) (suc handle) (suc other) = same-at look change same files handle other

-- none of the slots looks otherwise
same-any : (p : Option OpenSeen → Bool) (change : OpenSeen → OpenSeen) → ((slot : Option OpenSeen) → p (option_map change slot) ≡ p slot)
    → (files : List (Option OpenSeen)) (handle : ℕ) → list_any p (with_change change handle files) ≡ list_any p files
same-any p change same [] handle = refl
same-any p change same (first ∷ files) zero = ap (λ (b : Bool). b || list_any p files) (same first)
same-any p change same (first ∷ files) (suc handle) = ap (λ (rest : Bool). p first || rest) (same-any p change same files handle)

-- an open file whose polls are changed
abbrev with-polls : (Polls → Polls) → OpenSeen → OpenSeen
with-polls change file = record file { polls = change file.polls }

-- whether a read waits has nothing to do with polls
poll-waits : (g : Terms) (s : Service) (change : Polls → Polls) (slot : Option OpenSeen)
    → waits_at g s (option_map (with-polls change) slot) ≡ waits_at g s slot
poll-waits g s change None = refl
poll-waits g s change (Some file) = refl

same-due : (g : Terms) (s : Service) (change : Polls → Polls) (handle : ℕ) (reads : List Parked)
    → list_any (is_due g (record s { files = with_change (with-polls change) handle s.files })) reads ≡ list_any (is_due g s) reads
same-due g s change handle [] = refl
same-due g s change handle (read ∷ reads) =
    ap (λ (w : Bool). (read.interrupted || not w) || list_any (is_due g (record s { files = with_change (with-polls change) handle s.files })) reads)
    (same-at (waits_at g s) (with-polls change) (poll-waits g s change) s.files handle read.handle)
    ∙ ap (λ (rest : Bool). is_due g s read || rest) (same-due g s change handle reads)

-- that a poll was told that a read would not wait makes nothing ready
told-none : (g : Terms) (s : Service) (told : Bool) (handle : ℕ) → owed g s ≡ None → owed g (record s { files = with_told_ready told handle s.files }) ≡ None
told-none g s told handle none =
    still-none g (record s { files = with_told_ready told handle s.files })
    (same-due g s (λ (polls : Polls). record polls { told_ready = told }) handle s.parked ∙ none-due g s none)
    (same-any (is_ready g s) (with-polls (λ (polls : Polls). record polls { told_ready = told })) same s.files handle ∙ none-ready g s none)
  where
    same : (slot : Option OpenSeen) → is_ready g s (option_map (with-polls (λ (polls : Polls). record polls { told_ready = told })) slot) ≡ is_ready g s slot
    same None = refl
    same (Some file) = refl

-- a poll waits where nothing is there for it
poll-ready : (used dry tells ended told_end : Bool) (wakeup : ℕ) (before : Option ℕ)
    → (is_some before && (not (used && dry) || (tells && ended && not told_end))) ≡ false
    → (is_some (if used && dry && not ended then Some wakeup else before)
    && (not (used && dry) || (tells && ended && not (if used && dry && not ended then false else told_end)))) ≡ false
poll-ready false dry tells ended told_end wakeup before quiet = quiet
poll-ready true false tells ended told_end wakeup before quiet = quiet
poll-ready true true tells true told_end wakeup before quiet = quiet
poll-ready true true true false told_end wakeup before quiet = refl
poll-ready true true false false told_end wakeup before quiet = refl

ready-polled : (g : Terms) (s : Service) (wakeup : ℕ) (file : OpenSeen) → is_ready g s (Some file) ≡ false
    → is_ready g s (Some (record file { polls = polled_by wakeup (would_wait g s file) file.polls })) ≡ false
ready-polled g s wakeup file quiet =
    poll-ready (is_used_up file) (is_dry g s file.owner file.file) (tells_end file.file) (ends g s file) file.polls.told_end wakeup file.polls.wakeup quiet

-- and so does one of binary pages, which is not told their end
raw-ready : (used dry tells ended told_end : Bool) (wakeup : ℕ) (before : Option ℕ) → tells ≡ false
    → (is_some before && (not (used && dry) || (tells && ended && not told_end))) ≡ false
    → (is_some (if used && dry then Some wakeup else before)
    && (not (used && dry) || (tells && ended && not (if used && dry then false else told_end)))) ≡ false
raw-ready false dry tells ended told_end wakeup before raw quiet = quiet
raw-ready true false tells ended told_end wakeup before raw quiet = quiet
raw-ready true true false ended told_end wakeup before raw quiet = refl
raw-ready true true true ended told_end wakeup before raw quiet = absurd (cc)

raw-polled : (g : Terms) (s : Service) (wakeup : ℕ) (file : OpenSeen) → tells_end file.file ≡ false → is_ready g s (Some file) ≡ false
    → is_ready g s (Some (record file { polls = polled_by wakeup (has_nothing g s file) file.polls })) ≡ false
raw-polled g s wakeup file raw quiet =
    raw-ready (is_used_up file) (is_dry g s file.owner file.file) (tells_end file.file) (ends g s file) file.polls.told_end wakeup file.polls.wakeup raw quiet

none-at : (p : Option OpenSeen → Bool) (files : List (Option OpenSeen)) (handle : ℕ) (file : OpenSeen) → list_any p files ≡ false
    → file_at handle files ≡ Some file → p (Some file) ≡ false
none-at p [] zero file none found = absurd (cc)
none-at p [] (suc handle) file none found = absurd (cc)
none-at p (first ∷ files) zero file none found =
    let same : first ≡ Some file = found in
    let no : p first ≡ false = grind (arith, none) in
    ap p (sym same) ∙ no
none-at p (first ∷ files) (suc handle) file none found =
    let rest : list_any p files ≡ false = grind (arith, none) in none-at p files handle file rest found

poll-none : (g : Terms) (s : Service) (handle wakeup : ℕ) (waits : Bool) (file : OpenSeen)
    → (is_ready g s (Some file) ≡ false → is_ready g s (Some (record file { polls = polled_by wakeup waits file.polls })) ≡ false)
    → owed g s ≡ None → file_at handle s.files ≡ Some file → owed g (record s { files = with_poll wakeup waits handle s.files }) ≡ None
poll-none g s handle wakeup waits file polled none found =
    let quiet = none-ready g s none in
    let now : list_any (is_ready g s) (set s.files handle (Some (record file { polls = polled_by wakeup waits file.polls }))) ≡ false =
    none-set (is_ready g s) s.files handle (Some (record file { polls = polled_by wakeup waits file.polls })) quiet
    (polled (none-at (is_ready g s) s.files handle file quiet found)) in
    still-none g (record s { files = with_poll wakeup waits handle s.files }) (same-due g s (polled_by wakeup waits) handle s.parked ∙ none-due g s none)
    (ap (λ (slot : Option OpenSeen). list_any (is_ready g s) (set s.files handle
    (option_map (λ (f : OpenSeen). record f { polls = polled_by wakeup waits f.polls }) slot))) found ∙ now)

-- it may want to be told, or not
wanted-none : (g : Terms) (s : Service) (handle wakeup : ℕ) (wanted waits : Bool) (file : OpenSeen)
    → (is_ready g s (Some file) ≡ false → is_ready g s (Some (record file { polls = polled_by wakeup waits file.polls })) ≡ false)
    → owed g s ≡ None → file_at handle s.files ≡ Some file
    → owed g (record s { files = with_wanted_poll wanted wakeup waits handle s.files }) ≡ None
wanted-none g s handle wakeup false waits file polled none found = none
wanted-none g s handle wakeup true waits file polled none found = poll-none g s handle wakeup waits file polled none found

-- no poll is told the end of binary pages
abbrev is-raw : FileKind → Bool
is-raw kinds.RawPipe = true
is-raw kind = false

raw-tells : (file : File) → is-raw (kind_of_file file) ≡ not (tells_end file)
raw-tells (files.OfInstance top.TracePipe) = refl
raw-tells (files.OfCpu cpu per_cpu.TracePipe) = refl
raw-tells (files.OfEvent event per_event.Format) = refl
raw-tells (files.RawPipe cpu) = refl
raw-tells file = refl

tells-none : (file : File) → kind_of_file file ≡ kinds.RawPipe → tells_end file ≡ false
tells-none file raw = by (tells_end file) (sym (raw-tells file) ∙ ap is-raw raw)
  where
    by : (tells : Bool) → not tells ≡ true → tells ≡ false
    by false e = refl
    by true e = absurd (cc)

pipe-quiet : (g : Terms) (s after : Service) (handle wakeup flags : ℕ) (file : OpenSeen) (told : Reply) (reply : Option Reply) → owed g s ≡ None
    → file_at handle s.files ≡ Some file
    → Does g s (plain told (with_wanted_poll (wants_wakeup flags) wakeup (would_wait g s file) handle s.files)) reply after → owed g after ≡ None
pipe-quiet g s after handle wakeup flags file told reply none found does =
    ap (λ (x : Service). owed g x) does.1
    ∙ wanted-none g s handle wakeup (wants_wakeup flags) (would_wait g s file) file (ready-polled g s wakeup file) none found

raw-quiet : (g : Terms) (s after : Service) (handle wakeup flags : ℕ) (file : OpenSeen) (told : Reply) (reply : Option Reply)
    → tells_end file.file ≡ false → owed g s ≡ None → file_at handle s.files ≡ Some file
    → Does g s (plain told (with_told_ready (not (has_nothing g s file)) handle
    (with_wanted_poll (wants_wakeup flags) wakeup (has_nothing g s file) handle s.files))) reply after → owed g after ≡ None
raw-quiet g s after handle wakeup flags file told reply raw none found does =
    ap (λ (x : Service). owed g x) does.1
    ∙ told-none g (record s { files = with_wanted_poll (wants_wakeup flags) wakeup (has_nothing g s file) handle s.files }) (not (has_nothing g s file)) handle
    (wanted-none g s handle wakeup (wants_wakeup flags) (has_nothing g s file) file (raw-polled g s wakeup file raw) none found)

poll-quiet : (g : Terms) (s after : Service) (handle wakeup flags : ℕ) (file : OpenSeen) (kind : FileKind) (reply : Option Reply) → owed g s ≡ None
    → file_at handle s.files ≡ Some file → kind_of_file file.file ≡ kind → Does g s (poll_kind g s handle wakeup flags file kind) reply after
    → owed g after ≡ None
poll-quiet g s after handle wakeup flags file kinds.Pipe reply none found is does = pipe-quiet g s after handle wakeup flags file _ reply none found does
poll-quiet g s after handle wakeup flags file kinds.RawPipe reply none found is does =
    raw-quiet g s after handle wakeup flags file _ reply (tells-none file.file is) none found does
poll-quiet g s after handle wakeup flags file kinds.Inject reply none found is does = plain-quiet g s after _ reply does ∙ none
poll-quiet g s after handle wakeup flags file kinds.ErrorLog reply none found is does = plain-quiet g s after _ reply does ∙ none
poll-quiet g s after handle wakeup flags file kinds.Tool reply none found is does = plain-quiet g s after _ reply does ∙ none
poll-quiet g s after handle wakeup flags file kinds.Text reply none found is does = plain-quiet g s after _ reply does ∙ none
poll-quiet g s after handle wakeup flags file kinds.Trace reply none found is does = plain-quiet g s after _ reply does ∙ none

file-quiet : (g : Terms) (s after : Service) (handle wakeup flags : ℕ) (reply : Option Reply) → owed g s ≡ None
    → Does g s (poll_file g s handle wakeup flags (file_at handle s.files)) reply after → owed g after ≡ None
file-quiet g s after handle wakeup flags reply none = by (file_at handle s.files) refl
  where
    by : (slot : Option OpenSeen) → file_at handle s.files ≡ slot → Does g s (poll_file g s handle wakeup flags slot) reply after → owed g after ≡ None
    by None e does = plain-quiet g s after _ reply does ∙ none
    by (Some file) e does = poll-quiet g s after handle wakeup flags file (kind_of_file file.file) reply none e refl does

-- ---- all requests

stays-none : (g : Terms) (s after : Service) (unique pid : ℕ) (node : Option Node) (operation : Operation) (reply : Option Reply)
    → may_owe operation ≡ false → owed g s ≡ None → Does g s (step_of g s unique pid node operation) reply after → owed g after ≡ None
stays-none g s after unique pid node (operations.Lookup name) reply still none does =
    entry-quiet g s after unique (found_in (scene_of g s) name node) reply does ∙ none
stays-none g s after unique pid node operations.GetAttr reply still none does = attributes-quiet g s after (known (scene_of g s) node) reply does ∙ none
stays-none g s after unique pid node (operations.SetAttr valid size) reply still none does = set-quiet g s after node valid size reply does ∙ none
stays-none g s after unique pid node (operations.Poll handle wakeup flags events) reply still none does =
    file-quiet g s after handle wakeup flags reply none does
stays-none g s after unique pid node operations.Forget reply still none does = absurd (cc)
stays-none g s after unique pid node (operations.MkDir name) reply still none does = absurd (cc)
stays-none g s after unique pid node (operations.RmDir name) reply still none does = absurd (cc)
stays-none g s after unique pid node (operations.Open flags) reply still none does = absurd (cc)
stays-none g s after unique pid node (operations.Read handle offset size read_flags flags) reply still none does = absurd (cc)
stays-none g s after unique pid node (operations.Write handle offset lock_owner bytes) reply still none does = absurd (cc)
stays-none g s after unique pid node operations.StatFs reply still none does = absurd (cc)
stays-none g s after unique pid node (operations.Release handle) reply still none does = absurd (cc)
stays-none g s after unique pid node operations.Fsync reply still none does = absurd (cc)
stays-none g s after unique pid node (operations.GetXAttr name) reply still none does = absurd (cc)
stays-none g s after unique pid node operations.ListXAttr reply still none does = absurd (cc)
stays-none g s after unique pid node (operations.Flush handle lock_owner) reply still none does = absurd (cc)
stays-none g s after unique pid node (operations.Init major minor max_readahead flags) reply still none does = absurd (cc)
stays-none g s after unique pid node operations.OpenDir reply still none does = absurd (cc)
stays-none g s after unique pid node (operations.ReadDir handle offset size) reply still none does = absurd (cc)
stays-none g s after unique pid node (operations.ReleaseDir handle) reply still none does = absurd (cc)
stays-none g s after unique pid node (operations.Access mask) reply still none does = absurd (cc)
stays-none g s after unique pid node (operations.Interrupt number) reply still none does = absurd (cc)
stays-none g s after unique pid node operations.Destroy reply still none does = absurd (cc)
stays-none g s after unique pid node (operations.BatchForget count) reply still none does = absurd (cc)
stays-none g s after unique pid node (operations.Other opcode) reply still none does = absurd (cc)

-- such a request was served, and nothing was owed before
pub stayed : (past : List Request) (old mid : MountSeen) (request : Asked) (bytes : List ℕ) → IsMounted past old → old.owes ≡ false
    → may_owe request.operation ≡ false → IsSteppedBy past old mid request bytes → IsServedBy past old (record mid { owes = false }) request bytes
stayed past old mid request bytes mounted quiet still step =
    let g = terms_of old in
    let s = service_of past old in
    let before : owed g s ≡ None = by (owed g s) (sym quiet ∙ mounted.owes) in
    let now : owed g (service_of step.after mid) ≡ None =
    stays-none g s (service_of step.after mid) request.unique request.pid step.served.node request.operation step.served.reply still before step.served.does in
    let now_of_new : owed (terms_of mid) (service_of step.after mid) ≡ None =
    ap (λ (terms : Terms). owed terms (service_of step.after mid)) step.terms ∙ now in
    record {
      after = step.after;
      mounted = record { lives = step.mounted.lives; scene = step.mounted.scene; owes = ap (λ (o : Option Owed). is_some o) (sym now_of_new) };
      terms = step.terms;
      served = step.served;
    }
  where
    by : (o : Option Owed) → false ≡ is_some o → o ≡ None
    by None e = refl
    by (Some o) e = absurd (cc)
