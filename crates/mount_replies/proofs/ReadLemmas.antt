-- What reads come to.
use Rattle.std.proofs.Common.{◌≡◌, ◌≢◌, ℕ, ◌==◌, Bool, true, false, ◌||◌, if◌then◌else◌, List, [], drop, min, set, Option, Some, None, Result, Ok, Err, refl, sym, ap, ◌∙◌}
use Rattle.std.specs.Option.{option_and_then, option_map}
use Rattle.fuse_wire.specs.Replies.{reply_bytes}
use Rattle.fuse_wire.specs.declared.errno.Errno.{Errno}
use Rattle.fuse_wire.specs.declared.errno.Errno.TheVariants.{EBADF, ENOENT, ENOMEM}
use Rattle.fuse_wire.specs.declared.reply.Reply.{Reply}
use Rattle.fuse_wire.specs.declared.reply.Reply.TheVariants as replies
use Rattle.trace_command.specs.Requests.{Request}
use Rattle.trace_command.specs.declared.command.Reply.{Reply as Answer}
use Rattle.trace_command.specs.declared.refusal.Refusal.{Refusal}
use Rattle.mount_tree.specs.Children.{is_there}
use Rattle.file_list.specs.FileKinds.{kind_of_file}
use Rattle.mount_tree.specs.Nodes.{number_of}
use Rattle.mount_tree.specs.Scenes.{SceneSeen}
use Rattle.file_list.specs.declared.file.File.{File}
use Rattle.file_list.specs.declared.file.FileKind.{FileKind}
use Rattle.file_list.specs.declared.file.FileKind.TheVariants as kinds
use Rattle.mount_tree.specs.declared.node.Node.{Node}
use Rattle.mount_tree.specs.declared.node.Node.TheVariants as nodes
use Rattle.mount_tree.specs.declared.node.Owner.{Owner}
use Rattle.mount_replies.specs.Errnos.{errno_of}
use Rattle.mount_replies.specs.Mounted.{HasLedTo, IsAsked, IsStep, IsTold, MountSeen, service_of, terms_of}
use Rattle.mount_replies.specs.Served.{given_records, given_text, goes_on_in, is_before_end, makes_text, part_of, read_anew, read_file, read_kind, read_records, records_for, taken_records, text_counted, unless_counted, with_going_on}
use Rattle.mount_replies.specs.Services.{OpenSeen, armed, count_of, file_at, is_read_out, most_data, node_of, scene_of, text_at, with_change, with_reading, with_records}
use Rattle.mount_replies.specs.Sizes.{text_in}
use Rattle.mount_replies.specs.Steps.{Asks, Outcome, Plain, failed, plain, read_of, taking, told}
use Rattle.mount_replies.specs.private.TextReads.{cached_read, text_made, text_read}
use Rattle.mount_replies.specs.declared.counted.Counted.{Counted}
use Rattle.mount_replies.specs.declared.parked.Parked.{Parked}
use Rattle.mount_replies.proofs.Steps.{asked-step, memory-step, plain-step, told-step}
use Rattle.mount_replies.proofs.ToolLemmas.{takes-step}

-- a text was made
pub made-told : (past : List Request) (old mid : MountSeen) (scene : SceneSeen) (handle offset size : ℕ) (node : Node) (answer : Answer) (text : List ℕ)
    (now : List (Option OpenSeen)) (unique : ℕ) (bytes : List ℕ) → IsAsked past old mid (read_of scene node None) (Ok answer) → text ≡ text_in answer
    → now ≡ with_reading offset size text handle mid.files → bytes ≡ reply_bytes unique (replies.Data (part_of offset size text))
    → IsTold past old (record mid { files = now }) (read_anew scene handle offset size node old.files) unique bytes
made-told past old mid scene handle offset size node answer text now unique bytes asked is kept said =
    let files_are : now ≡ with_reading offset size (text_in answer) handle old.files =
    kept ∙ ap (λ (t : List ℕ). with_reading offset size t handle mid.files) is
    ∙ ap (λ (f : List (Option OpenSeen)). with_reading offset size (text_in answer) handle f) asked.files in
    told-step past old (record mid { files = now }) (read_anew scene handle offset size node old.files) unique bytes
    (replies.Data (part_of offset size (text_in answer)))
    (asked-step past old mid (read_of scene node None) (given_text handle offset size old.files) (Ok answer) now asked files_are)
    (said ∙ ap (λ (t : List ℕ). reply_bytes unique (replies.Data (part_of offset size t))) is)

-- records were taken
pub taken-told : (past : List Request) (old mid : MountSeen) (scene : SceneSeen) (handle size : ℕ) (node : Node) (answer : Answer) (text : List ℕ)
    (count : ℕ) (now : List (Option OpenSeen)) (unique : ℕ) (bytes : List ℕ) → IsAsked past old mid (read_of scene node (Some (records_for size))) (Ok answer)
    → text ≡ text_in answer → count ≡ min size most_data → now ≡ with_records (drop count text) handle mid.files
    → bytes ≡ reply_bytes unique (replies.Data (part_of 0 size text))
    → IsTold past old (record mid { files = now }) (read_records scene handle size node old.files) unique bytes
taken-told past old mid scene handle size node answer text count now unique bytes asked is many kept said =
    let files_are : now ≡ with_records (drop (min size most_data) (text_in answer)) handle old.files =
    kept ∙ ap (λ (n : ℕ). with_records (drop n text) handle mid.files) many
    ∙ ap (λ (t : List ℕ). with_records (drop (min size most_data) t) handle mid.files) is
    ∙ ap (λ (f : List (Option OpenSeen)). with_records (drop (min size most_data) (text_in answer)) handle f) asked.files in
    told-step past old (record mid { files = now }) (read_records scene handle size node old.files) unique bytes
    (replies.Data (part_of 0 size (text_in answer)))
    (asked-step past old mid (read_of scene node (Some (records_for size))) (taken_records handle size old.files) (Ok answer) now asked files_are)
    (said ∙ ap (λ (t : List ℕ). reply_bytes unique (replies.Data (part_of 0 size t))) is)

-- a command was refused
pub refused-told : (past : List Request) (old mid : MountSeen) (request : Request) (outcome : Result Answer Refusal → Outcome) (refusal : Refusal)
    (errno : Errno) (unique : ℕ) (bytes : List ℕ) → IsAsked past old mid request (Err refusal)
    → outcome (Err refusal) ≡ told (replies.Error (errno_of refusal)) old.files → errno ≡ errno_of refusal
    → bytes ≡ reply_bytes unique (replies.Error errno) → IsTold past old mid (Asks request outcome) unique bytes
refused-told past old mid request outcome refusal errno unique bytes asked comes is said =
    let step : IsStep past old mid (Asks request outcome) (outcome (Err refusal)).reply =
    asked-step past old mid request outcome (Err refusal) mid.files asked (asked.files ∙ sym (ap (λ (o : Outcome). o.files) comes)) in
    told-step past old mid (Asks request outcome) unique bytes (replies.Error (errno_of refusal))
    (rw (ap (λ (o : Outcome). o.reply) comes) at step)
    (said ∙ ap (λ (e : Errno). reply_bytes unique (replies.Error e)) is)

-- nothing was asked, and nothing changed
pub plain-told : (past : List Request) (old : MountSeen) (reply : Reply) (unique : ℕ) (bytes : List ℕ) → HasLedTo past old
    → bytes ≡ reply_bytes unique reply → IsTold past old old (plain reply old.files) unique bytes
plain-told past old reply unique bytes mounted said =
    told-step past old old (plain reply old.files) unique bytes reply (plain-step past old reply old.files old.files mounted refl) said

-- and this became of the open files
pub noted-told : (past : List Request) (old : MountSeen) (reply : Reply) (files now : List (Option OpenSeen)) (unique : ℕ) (bytes : List ℕ)
    → HasLedTo past old → now ≡ files → bytes ≡ reply_bytes unique reply → IsTold past old (record old { files = now }) (plain reply files) unique bytes
noted-told past old reply files now unique bytes mounted is said =
    told-step past old (record old { files = now }) (plain reply files) unique bytes reply (plain-step past old reply files now mounted is) said

-- a part of the text of a pipe was given
given-rest : (files : List (Option OpenSeen)) (handle count : ℕ) (text : List ℕ) → text_at handle files ≡ Some text
    → with_change (λ (file : OpenSeen). record file { text = option_map (drop count) file.text; has_read = true; polls = armed false file.polls }) handle files
    ≡ with_records (drop count text) handle files
given-rest files handle count text has = ap (λ (o : Option OpenSeen). set files handle o) (by (file_at handle files) has)
  where
    by : (o : Option OpenSeen) → option_and_then (λ (file : OpenSeen). file.text) o ≡ Some text
        → option_map (λ (file : OpenSeen). record file { text = option_map (drop count) file.text; has_read = true; polls = armed false file.polls }) o
        ≡ option_map (λ (file : OpenSeen). record file { text = Some (drop count text); has_read = true; polls = armed false file.polls }) o
    by None h = refl
    by (Some file) h =
        ap (λ (t : Option (List ℕ)). Some (record file { text = option_map (drop count) t; has_read = true; polls = armed false file.polls })) h

-- what was kept of a pipe is given
pub rest-told : (past : List Request) (old : MountSeen) (handle size count : ℕ) (text part : List ℕ) (now : List (Option OpenSeen)) (unique : ℕ) (bytes : List ℕ)
    → HasLedTo past old → text_at handle old.files ≡ Some text → part ≡ text → count ≡ min size most_data
    → now ≡ with_change (λ (file : OpenSeen). record file { text = option_map (drop count) file.text; has_read = true; polls = armed false file.polls }) handle old.files
    → bytes ≡ reply_bytes unique (replies.Data (part_of 0 size part))
    → IsTold past old (record old { files = now }) (Plain (given_records handle size text old.files)) unique bytes
rest-told past old handle size count text part now unique bytes mounted has is many gave said =
    let files_are : now ≡ with_records (drop (min size most_data) text) handle old.files =
    gave ∙ given-rest old.files handle count text has ∙ ap (λ (n : ℕ). with_records (drop n text) handle old.files) many in
    told-step past old (record old { files = now }) (Plain (given_records handle size text old.files)) unique bytes
    (replies.Data (part_of 0 size text))
    (plain-step past old (replies.Data (part_of 0 size text)) (with_records (drop (min size most_data) text) handle old.files) now mounted files_are)
    (said ∙ ap (λ (t : List ℕ). reply_bytes unique (replies.Data (part_of 0 size t))) is)

-- ---- READ of a file that is no pipe

own-text : (handle : ℕ) (own : OpenSeen) (files : List (Option OpenSeen)) (text : Option (List ℕ)) → file_at handle files ≡ Some own
    → text ≡ text_at handle files → own.text ≡ text
own-text handle own files text found has =
    sym (has ∙ ap (λ (o : Option OpenSeen). option_and_then (λ (file : OpenSeen). file.text) o) found)

-- a read goes on in the text of a file, which is given back at its end
pub on-told : (past : List Request) (old : MountSeen) (read : Parked) (offset : ℕ) (own : OpenSeen) (text : List ℕ) (now : List (Option OpenSeen))
    (bytes : List ℕ) → HasLedTo past old → file_at read.handle old.files ≡ Some own → Some text ≡ text_at read.handle old.files → (offset == 0) ≡ false
    → now ≡ with_going_on offset read.size (Some text) read.handle old.files
    → bytes ≡ reply_bytes read.unique (replies.Data (part_of offset read.size text))
    → IsTold past old (record old { files = now }) (text_read (terms_of old) (service_of past old) old.scene read offset own) read.unique bytes
on-told past old read offset own text now bytes mounted found has later is said =
    let there : own.text ≡ Some text = own-text read.handle own old.files (Some text) found has in
    rw (later, there) (told-step past old (record old { files = now })
    (plain (replies.Data (part_of offset read.size text)) (with_going_on offset read.size (Some text) read.handle old.files)) read.unique bytes
    (replies.Data (part_of offset read.size text))
    (plain-step past old (replies.Data (part_of offset read.size text)) (with_going_on offset read.size (Some text) read.handle old.files) now mounted is)
    said)

-- whether it comes to the end
pub given-back : (offset size handle : ℕ) (text : List ℕ) (files now : List (Option OpenSeen)) → is_read_out offset size text ≡ true
    → now ≡ with_reading offset size text handle files → now ≡ with_going_on offset size (Some text) handle files
given-back offset size handle text files now out kept = by (is_read_out offset size text) out
  where
    by : (t : Bool) → t ≡ true → now ≡ (if t then with_reading offset size text handle files else files)
    by true e = kept
    by false e = absurd (cc)

pub kept-on : (offset size handle : ℕ) (text : List ℕ) (files : List (Option OpenSeen)) → is_read_out offset size text ≡ false
    → files ≡ with_going_on offset size (Some text) handle files
kept-on offset size handle text files out = by (is_read_out offset size text) out
  where
    by : (t : Bool) → t ≡ false → files ≡ (if t then with_reading offset size text handle files else files)
    by true e = absurd (cc)
    by false e = refl

-- a read at or beyond the end of a text that was given back
pub ended-told : (past : List Request) (old : MountSeen) (read : Parked) (offset : ℕ) (own : OpenSeen) (bytes : List ℕ) → HasLedTo past old
    → file_at read.handle old.files ≡ Some own → None ≡ text_at read.handle old.files → (offset == 0) ≡ false → is_before_end offset own.ended ≡ false
    → bytes ≡ reply_bytes read.unique (replies.Data (part_of offset read.size []))
    → IsTold past old old (text_read (terms_of old) (service_of past old) old.scene read offset own) read.unique bytes
ended-told past old read offset own bytes mounted found has later ended said =
    let none : own.text ≡ None = own-text read.handle own old.files None found has in
    rw (later, none, ended) (plain-told past old (replies.Data (part_of offset read.size [])) read.unique bytes mounted said)

-- the text of a file is made
pub anew-told : (past : List Request) (old new : MountSeen) (read : Parked) (offset : ℕ) (own : OpenSeen) (owner : Owner) (file : File) (bytes : List ℕ)
    → makes_text offset own ≡ true → own.owner ≡ owner → own.file ≡ file
    → IsTold past old new (text_made (terms_of old) (service_of past old) old.scene read offset owner file (kind_of_file file)) read.unique bytes
    → IsTold past old new (text_read (terms_of old) (service_of past old) old.scene read offset own) read.unique bytes
anew-told past old new read offset own owner file bytes makes is_owner is_file told = rw (makes, is_owner, is_file) told

-- by a read at the beginning, or where none was made, or before the end of one that was given back
pub makes-first : (offset : ℕ) (own : OpenSeen) → offset ≡ 0 → makes_text offset own ≡ true
makes-first offset own first = rw first refl

pub makes-anew : (offset handle : ℕ) (own : OpenSeen) (files : List (Option OpenSeen)) → file_at handle files ≡ Some own → None ≡ text_at handle files
    → is_before_end offset own.ended ≡ true → makes_text offset own ≡ true
makes-anew offset handle own files found has before =
    let none : own.text ≡ None = own-text handle own files None found has in rw (none, before) (by (offset == 0))
  where
    by : (t : Bool) → (t || true) ≡ true
    by true = refl
    by false = refl

-- ---- READ by the page cache

-- the text that was counted for a file
pub counted-is : (own : OpenSeen) (owner : Owner) (file : File) (node : ℕ) (counted : List Counted) (text : Option (List ℕ)) → own.owner ≡ owner
    → own.file ≡ file → node ≡ number_of (nodes.File owner file)
    → text ≡ option_and_then (λ (count : Counted). count.text) (count_of node counted) → text_counted own counted ≡ text
counted-is own owner file node counted text is_owner is_file number is =
    ap (λ (o : Owner). option_and_then (λ (count : Counted). count.text) (count_of (number_of (nodes.File o own.file)) counted)) is_owner
    ∙ ap (λ (f : File). option_and_then (λ (count : Counted). count.text) (count_of (number_of (nodes.File owner f)) counted)) is_file
    ∙ ap (λ (n : ℕ). option_and_then (λ (count : Counted). count.text) (count_of n counted)) (sym number) ∙ sym is

-- of that it gets
pub counted-told : (past : List Request) (old : MountSeen) (read : Parked) (own : OpenSeen) (text : List ℕ) (now : List (Option OpenSeen)) (bytes : List ℕ)
    → HasLedTo past old → text_counted own old.counted ≡ Some text → now ≡ with_reading 0 read.size text read.handle old.files
    → bytes ≡ reply_bytes read.unique (replies.Data (part_of 0 read.size text))
    → IsTold past old (record old { files = now }) (cached_read (terms_of old) (service_of past old) old.scene read 0 own) read.unique bytes
counted-told past old read own text now bytes mounted has is said =
    rw has (told-step past old (record old { files = now })
    (taking (replies.Data (part_of 0 read.size text)) (with_reading 0 read.size text read.handle old.files)) read.unique bytes
    (replies.Data (part_of 0 read.size text))
    (takes-step past old (replies.Data (part_of 0 read.size text)) (with_reading 0 read.size text read.handle old.files) now mounted is) said)

-- or memory for it was refused
pub uncopied-told : (past : List Request) (old : MountSeen) (read : Parked) (own : OpenSeen) (text bytes : List ℕ) → HasLedTo past old
    → text_counted own old.counted ≡ Some text → bytes ≡ reply_bytes read.unique (replies.Error ENOMEM)
    → IsTold past old old (cached_read (terms_of old) (service_of past old) old.scene read 0 own) read.unique bytes
uncopied-told past old read own text bytes mounted has said =
    rw has (told-step past old old
    (taking (replies.Data (part_of 0 read.size text)) (with_reading 0 read.size text read.handle old.files)) read.unique bytes (replies.Error ENOMEM)
    (memory-step past old _ mounted) said)

-- ---- READ of any file

-- the handle is not in use
pub closed-told : (past : List Request) (old : MountSeen) (read : Parked) (offset : ℕ) (cached : Bool) (flags : ℕ) (bytes : List ℕ) → HasLedTo past old
    → None ≡ file_at read.handle old.files → bytes ≡ reply_bytes read.unique (replies.Error EBADF)
    → IsTold past old old (read_file (terms_of old) (service_of past old) read offset cached flags (file_at read.handle old.files)) read.unique bytes
closed-told past old read offset cached flags bytes mounted none said =
    rw (sym none) (plain-told past old (replies.Error EBADF) read.unique bytes mounted said)

-- the file is gone
pub missing-told : (past : List Request) (old : MountSeen) (read : Parked) (offset : ℕ) (cached : Bool) (flags : ℕ) (own : OpenSeen) (bytes : List ℕ)
    → HasLedTo past old → Some own ≡ file_at read.handle old.files → is_there old.scene (node_of own) ≡ false
    → bytes ≡ reply_bytes read.unique (replies.Error ENOENT)
    → IsTold past old old (read_file (terms_of old) (service_of past old) read offset cached flags (file_at read.handle old.files)) read.unique bytes
missing-told past old read offset cached flags own bytes mounted has gone said =
    let lost : is_there (scene_of (terms_of old) (service_of past old)) (node_of own) ≡ false =
    ap (λ (scene : SceneSeen). is_there scene (node_of own)) (sym mounted.scene) ∙ gone in
    rw (sym has) (by (is_there (scene_of (terms_of old) (service_of past old)) (node_of own)) lost)
  where
    by : (t : Bool) → t ≡ false
        → IsTold past old old (if t then read_kind (terms_of old) (service_of past old) read offset cached flags own (kind_of_file own.file)
        else failed ENOENT old.files) read.unique bytes
    by true e = absurd (cc)
    by false e = plain-told past old (replies.Error ENOENT) read.unique bytes mounted said

-- by the kind of the file
pub kind-told : (past : List Request) (old new : MountSeen) (read : Parked) (offset : ℕ) (cached : Bool) (flags : ℕ) (own : OpenSeen) (kind : FileKind)
    (bytes : List ℕ) → HasLedTo past old → Some own ≡ file_at read.handle old.files → is_there old.scene (node_of own) ≡ true
    → kind ≡ kind_of_file own.file
    → IsTold past old new (read_kind (terms_of old) (service_of past old) read offset cached flags own kind) read.unique bytes
    → IsTold past old new (read_file (terms_of old) (service_of past old) read offset cached flags (file_at read.handle old.files)) read.unique bytes
kind-told past old new read offset cached flags own kind bytes mounted has there is told =
    let exists : is_there (scene_of (terms_of old) (service_of past old)) (node_of own) ≡ true =
    ap (λ (scene : SceneSeen). is_there scene (node_of own)) (sym mounted.scene) ∙ there in
    rw (sym has) (by (is_there (scene_of (terms_of old) (service_of past old)) (node_of own)) exists (rw is at told))
  where
    by : (t : Bool) → t ≡ true
        → IsTold past old new (read_kind (terms_of old) (service_of past old) read offset cached flags own (kind_of_file own.file)) read.unique bytes
        → IsTold past old new (if t then read_kind (terms_of old) (service_of past old) read offset cached flags own (kind_of_file own.file)
        else failed ENOENT old.files) read.unique bytes
    by true e told = told
    by false e told = absurd (cc)

-- of a file that is no pipe
pub text-told : (past : List Request) (old new : MountSeen) (read : Parked) (offset : ℕ) (cached : Bool) (flags : ℕ) (own : OpenSeen) (kind : FileKind)
    (bytes : List ℕ) → HasLedTo past old → Some own ≡ file_at read.handle old.files → is_there old.scene (node_of own) ≡ true
    → kind ≡ kind_of_file own.file → kind ≢ kinds.Pipe → kind ≢ kinds.RawPipe → kind ≢ kinds.Inject
    → IsTold past old new (unless_counted (service_of past old) read cached offset own (text_read (terms_of old) (service_of past old) old.scene read offset own)) read.unique bytes
    → IsTold past old new (read_file (terms_of old) (service_of past old) read offset cached flags (file_at read.handle old.files)) read.unique bytes
text-told past old new read offset cached flags own kind bytes mounted has there is no_pipe no_raw no_inject told =
    kind-told past old new read offset cached flags own kind bytes mounted has there is (by kind no_pipe no_raw no_inject (rw (sym is) at told))
  where
    by : (kind : FileKind) → kind ≢ kinds.Pipe → kind ≢ kinds.RawPipe → kind ≢ kinds.Inject
        → IsTold past old new (unless_counted (service_of past old) read cached offset own (if makes_text offset own
        then text_made (terms_of old) (service_of past old) old.scene read offset own.owner own.file kind
        else goes_on_in read.handle offset read.size own old.files)) read.unique bytes
        → IsTold past old new (read_kind (terms_of old) (service_of past old) read offset cached flags own kind) read.unique bytes
    by kinds.Text no_pipe no_raw no_inject told = rw (sym mounted.scene) told
    by kinds.Trace no_pipe no_raw no_inject told = rw (sym mounted.scene) told
    by kinds.Tool no_pipe no_raw no_inject told = told
    by kinds.ErrorLog no_pipe no_raw no_inject told = told
    by kinds.Pipe no_pipe no_raw no_inject told = absurd (no_pipe refl)
    by kinds.RawPipe no_pipe no_raw no_inject told = absurd (no_raw refl)
    by kinds.Inject no_pipe no_raw no_inject told = absurd (no_inject refl)

-- ---- READ of a pipe
