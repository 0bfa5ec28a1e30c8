-- Sizes that look-ups tell, and the texts that they counted.
use Rattle.std.proofs.Common.{◌≡◌, ◌≢◌, ◌⊎◌, ℕ, ◌+◌, ◌-◌, ◌<◌, ◌≤◌, ◌==◌, zero, suc, Bool, true, false, if◌then◌else◌, nat_lt, List, [], ◌∷◌, ◌++◌, length, take, drop, set, get_or, Option, Some, None, Ok, inl, inr, refl, sym, ap, ◌∙◌, subst, arith, append-nil, length-drop}
use Rattle.std.proofs.lemmas.Bool.{lt-ltb}
use Rattle.std.proofs.lemmas.Bool.Decides.{nat_tests}
use Rattle.std.proofs.lemmas.List.{drop_all, take_all}
use Rattle.trace_command.specs.Refusals.{IsRefusal}
use Rattle.trace_command.specs.Requests.{Request}
use Rattle.trace_command.specs.declared.refusal.Refusal.{Refusal}
use Rattle.trace_command.specs.declared.refusal.Refusal.TheVariants.{Memory}
use Rattle.trace_command.specs.declared.command.Reply.{Reply as Answer}
use Rattle.fuse_wire.specs.declared.reply.Reply.{Reply}
use Rattle.tracer_specification.specs.History.{answer_with_room}
use Rattle.tracer.specs.Lives.{live_answer, most_done}
use Rattle.tracer.proofs.Limits.{limited-done}
use Rattle.file_list.specs.FileKinds.{kind_of_file}
use Rattle.mount_tree.specs.Scenes.{SceneSeen}
use Rattle.mount_tree.specs.Nodes.{number_of}
use Rattle.file_list.specs.declared.file.File.{File}
use Rattle.file_list.specs.declared.file.FileKind.{FileKind}
use Rattle.file_list.specs.declared.file.FileKind.TheVariants as kinds
use Rattle.mount_tree.specs.declared.node.Node.{Node}
use Rattle.mount_tree.specs.declared.node.Node.TheVariants as nodes
use Rattle.mount_tree.specs.declared.node.Owner.{Owner}
use Rattle.mount_replies.specs.Mounted.{HasLedTo, IsStep, MountSeen, service_of, terms_of}
use Rattle.mount_replies.specs.Services.{Service, Terms, count_of, latest_texts}
use Rattle.mount_replies.specs.Sizes.{answer_now, count_text, size_by_kind, size_of_text, text_answered, text_in}
use Rattle.mount_replies.specs.Steps.{Step, plain, read_of}
use Rattle.mount_replies.specs.declared.counted.Counted.{Counted}
use Rattle.mount_replies.specs.declared.sizes.Telling.{Telling}
use Rattle.mount_replies.specs.declared.sizes.Telling.TheVariants.{Entry, Attributes}
use Rattle.mount_replies.specs.private.Tellings.{size_of_pages, size_found, sized_step, telling_of}

-- ---- texts that are kept

-- one more keeps its text, or not
pub latest-more : (texts : List Counted) (i : ℕ) (now d : Counted) → i < length texts
    → now ≡ (if nat_lt (length (drop (i + 1) texts)) 8 then get_or texts i d else record (get_or texts i d) { text = None })
    → take (i + 1) (set texts i now) ++ latest_texts (drop (i + 1) (set texts i now)) ≡ take i texts ++ latest_texts (drop i texts)
unfolding latest_texts
latest-more [] i now d within is = absurd (omega (arith, within))
latest-more (count ∷ later) zero now d within is = ap (λ (c : Counted). c ∷ latest_texts later) is
latest-more (count ∷ later) (suc i) now d within is =
    let next : suc i + 1 ≡ suc (i + 1) = omega arith in
    let is' : now ≡ (if nat_lt (length (drop (i + 1) later)) 8 then get_or later i d else record (get_or later i d) { text = None }) =
    subst (λ (k : ℕ). now ≡ (if nat_lt (length (drop k (count ∷ later))) 8 then get_or later i d else record (get_or later i d) { text = None })) next is in
    rw next (ap (λ (l : List Counted). count ∷ l) (latest-more later i now d (omega (arith, within)) is'))

-- a text is forgotten that eight or more follow
pub latest-changed : (texts now : List Counted) (i : ℕ) (count : Counted) → i < length texts → 8 < length texts - i
    → now ≡ set texts i (record (get_or texts i count) { text = None })
    → take (i + 1) now ++ latest_texts (drop (i + 1) now) ≡ take i texts ++ latest_texts (drop i texts)
latest-changed texts now i count within many is =
    let long : 8 ≤ length (drop (i + 1) texts) = omega (arith, many, length-drop (i + 1) texts) in
    let no : nat_lt (length (drop (i + 1) texts)) 8 ≡ false = by (length (drop (i + 1) texts)) long in
    rw is (latest-more texts i (record (get_or texts i count) { text = None }) count within (rw no refl))
  where
    by : (n : ℕ) → 8 ≤ n → nat_lt n 8 ≡ false
    by n long' = grind (arith, nat_tests)

-- others are as they were
pub latest-same : (texts now : List Counted) (i : ℕ) (count : Counted) → i < length texts → length texts - i ≤ 8
    → now ≡ set texts i (get_or texts i count)
    → take (i + 1) now ++ latest_texts (drop (i + 1) now) ≡ take i texts ++ latest_texts (drop i texts)
latest-same texts now i count within few is =
    let short : length (drop (i + 1) texts) < 8 = omega (arith, few, within, length-drop (i + 1) texts) in
    let yes : nat_lt (length (drop (i + 1) texts)) 8 ≡ true = lt-ltb (length (drop (i + 1) texts)) 8 short in
    rw is (latest-more texts i (get_or texts i count) count within (rw yes refl))

-- all were looked at
pub latest-all : (texts old : List Counted) (i : ℕ) → length texts ≤ i → take i texts ++ latest_texts (drop i texts) ≡ latest_texts old
    → texts ≡ latest_texts old
unfolding latest_texts
latest-all texts old i all so_far =
    let rest : drop i texts ≡ [] = drop_all i texts all in
    let front : take i texts ≡ texts = take_all i texts all in
    let now : texts ++ latest_texts [] ≡ latest_texts old =
    sym (ap (λ (l : List Counted). l ++ latest_texts []) front) ∙ ap (λ (l : List Counted). take i texts ++ latest_texts l) (sym rest) ∙ so_far in
    sym (append-nil texts) ∙ now

-- ---- what is told

pub sized-file : (telling : Telling) (g : Terms) (s : Service) (owner : Owner) (file : File)
    → size_by_kind g s (telling_of telling g (nodes.File owner file)) (size_of_pages telling) owner file (kind_of_file file)
    ≡ sized_step telling g s (Some (nodes.File owner file))
sized-file (Entry unique) g s owner file = refl
sized-file Attributes g s owner file = refl

-- ---- sizes that are remembered

-- there is none, so the text is counted
pub no-recent-size : (g : Terms) (s : Service) (telling : ℕ → Reply) (owner : Owner) (file : File) (count : Option Counted)
    → None ≡ size_found (length s.past) count → size_of_text g s telling owner file count ≡ count_text g s telling owner file
no-recent-size g s telling owner file None found = refl
no-recent-size g s telling owner file (Some count) found = by (count.after == length s.past) found
  where
    by : (t : Bool) → None ≡ (if t then Some count.size else None)
        → (if t then plain (telling count.size) s.files else count_text g s telling owner file) ≡ count_text g s telling owner file
    by true same = absurd (cc)
    by false same = refl

-- ---- texts that are shown

-- the tracer's answer to a read of a file
answered-now : (past : List Request) (now : MountSeen) (owner : Owner) (file : File) (request : Request) → HasLedTo past now
    → request ≡ read_of now.scene (nodes.File owner file) None
    → live_answer now.live.config past request ≡ answer_now (terms_of now) (service_of past now) owner file
answered-now past now owner file request mounted is =
    ap (λ (r : Request). live_answer now.live.config past r)
    (is ∙ ap (λ (scene : SceneSeen). read_of scene (nodes.File owner file) None) mounted.scene)

-- it was prepared
pub shown-text : (past : List Request) (now : MountSeen) (owner : Owner) (file : File) (request : Request) (reply : Answer) (text : List ℕ) → HasLedTo past now
    → request ≡ read_of now.scene (nodes.File owner file) None → answer_with_room now.live.config past request ≡ Ok reply
    → now.live.done < most_done → text ≡ text_in reply
    → text ≡ text_answered (answer_now (terms_of now) (service_of past now) owner file)
shown-text past now owner file request reply text mounted is given room shows =
    let few : length past < most_done = subst (λ (n : ℕ). n < most_done) mounted.lives.count room in
    let done : live_answer now.live.config past request ≡ Ok reply = limited-done most_done now.live.config past request reply given few in
    shows ∙ ap text_answered (sym done ∙ answered-now past now owner file request mounted is)

-- or it is refused
pub shown-none : (past : List Request) (now : MountSeen) (owner : Owner) (file : File) (request : Request) (refusal : Refusal) (text : List ℕ) → HasLedTo past now
    → request ≡ read_of now.scene (nodes.File owner file) None → IsRefusal refusal (live_answer now.live.config past request) → refusal ≢ Memory → text ≡ []
    → text ≡ text_answered (answer_now (terms_of now) (service_of past now) owner file)
shown-none past now owner file request refusal text mounted is refused other none =
    none ∙ ap text_answered (sym (refused.0 other) ∙ answered-now past now owner file request mounted is)

-- ---- steps

-- a step is another one
pub step-is : (past : List Request) (old new : MountSeen) (step other : Step) (reply : Option Reply) → IsStep past old new step reply → step ≡ other
    → IsStep past old new other reply
step-is past old new step other reply does is = subst (λ (s : Step). IsStep past old new s reply) is does

-- a text is counted
pub kind-counted : (past : List Request) (old new : MountSeen) (telling : ℕ → Reply) (pages : ℕ) (owner : Owner) (file : File) (kind : FileKind) (reply : Reply)
    → kind ≡ kind_of_file file
    → size_by_kind (terms_of old) (service_of past old) telling pages owner file kind ≡ count_text (terms_of old) (service_of past old) telling owner file
    → IsStep past old new (count_text (terms_of old) (service_of past old) telling owner file) (Some reply)
    → IsStep past old new (size_by_kind (terms_of old) (service_of past old) telling pages owner file (kind_of_file file)) (Some reply)
kind-counted past old new telling pages owner file kind reply kind_is is does =
    step-is past old new (count_text (terms_of old) (service_of past old) telling owner file)
    (size_by_kind (terms_of old) (service_of past old) telling pages owner file (kind_of_file file)) (Some reply) does
    (sym is ∙ ap (λ (k : FileKind). size_by_kind (terms_of old) (service_of past old) telling pages owner file k) kind_is)

-- what reads show whole, but for the log, is counted unless its size is remembered
pub sized-whole : (g : Terms) (s : Service) (telling : ℕ → Reply) (pages : ℕ) (owner : Owner) (file : File) (kind : FileKind)
    → (kind ≡ kinds.Text) ⊎ ((kind ≡ kinds.Trace) ⊎ (kind ≡ kinds.Tool))
    → size_by_kind g s telling pages owner file kind ≡ size_of_text g s telling owner file (count_of (number_of (nodes.File owner file)) s.counted)
sized-whole g s telling pages owner file kind (inl is) = ap (λ (k : FileKind). size_by_kind g s telling pages owner file k) is
sized-whole g s telling pages owner file kind (inr (inl is)) = ap (λ (k : FileKind). size_by_kind g s telling pages owner file k) is
sized-whole g s telling pages owner file kind (inr (inr is)) = ap (λ (k : FileKind). size_by_kind g s telling pages owner file k) is

-- it is told of a node that is a file
pub told-file : (past : List Request) (old new : MountSeen) (telling : Telling) (owner : Owner) (file : File) (node : Option Node) (reply : Reply)
    → node ≡ Some (nodes.File owner file)
    → IsStep past old new
    (size_by_kind (terms_of old) (service_of past old) (telling_of telling (terms_of old) (nodes.File owner file)) (size_of_pages telling) owner file
    (kind_of_file file)) (Some reply)
    → IsStep past old new (sized_step telling (terms_of old) (service_of past old) node) (Some reply)
told-file past old new telling owner file node reply is does =
    step-is past old new
    (size_by_kind (terms_of old) (service_of past old) (telling_of telling (terms_of old) (nodes.File owner file)) (size_of_pages telling) owner file
    (kind_of_file file))
    (sized_step telling (terms_of old) (service_of past old) node) (Some reply) does
    (sized-file telling (terms_of old) (service_of past old) owner file
    ∙ ap (λ (n : Option Node). sized_step telling (terms_of old) (service_of past old) n) (sym is))

-- ---- copies
