-- Parts of a text, one after another.
use Rattle.std.proofs.Common.{◌≡◌, ℕ, ◌+◌, ◌<◌, zero, suc, List, [], ◌∷◌, ◌++◌, length, take, drop, min, refl, sym, ap, ◌∙◌, arith, length-append, append-nil}
use Rattle.std.proofs.Math.Seq.{take-add}
use Rattle.std.proofs.lemmas.List.{take-append-drop}
use Rattle.std.proofs.Common.{inl, inr, false, Option, Some, None, Result, Ok, Err, subst}
use Rattle.fuse_wire.specs.declared.reply.Reply.{Reply}
use Rattle.trace_command.specs.Requests.{Request}
use Rattle.trace_command.specs.declared.command.Reply.{Reply as Answer}
use Rattle.trace_command.specs.declared.refusal.Refusal.{Refusal}
use Rattle.mount_replies.proofs.RunLemmas.{Adds, adds-none, lines-add}
use Rattle.mount_replies.specs.MountLaws.{NothingLeftIsAll, ReadsGoOn, StepsDoCommands, given_together, most_commands}
use Rattle.mount_replies.specs.Mounted.{Does, past_after}
use Rattle.mount_replies.specs.Served.{part_of}
use Rattle.mount_replies.specs.Services.{OpenSeen, Service, Terms, after_reading, file_at, is_read_out, most_data, text_at, with_change, with_reading}
use Rattle.mount_replies.specs.Steps.{Asks, AsksLines, AsksNoting, Counts, Interrupts, Parks, Plain, Step, Takes, Tells}

-- a part is as long as it is
own-length : (n : ℕ) (l : List ℕ) → take n l ≡ take (length (take n l)) l
own-length zero l = refl
own-length (suc n) [] = refl
own-length (suc n) (x ∷ l) = ap (λ (r : List ℕ). x ∷ r) (own-length n l)

pub drop-nil : (n : ℕ) → drop {A = ℕ} n [] ≡ []
drop-nil zero = refl
drop-nil (suc n) = refl

drop-plus : (a b : ℕ) (l : List ℕ) → drop (a + b) l ≡ drop b (drop a l)
drop-plus zero b l = let same : 0 + b ≡ b = omega arith in rw same refl
drop-plus (suc a) b [] = let more : suc a + b ≡ suc (a + b) = omega arith in rw more (sym (drop-nil b))
drop-plus (suc a) b (x ∷ l) = let more : suc a + b ≡ suc (a + b) = omega arith in rw more (drop-plus a b l)

-- a part, and one that begins where it ends
joined : (part rest l : List ℕ) → part ≡ take (length part) l → rest ≡ take (length rest) (drop (length part) l)
    → part ++ rest ≡ take (length (part ++ rest)) l
joined part rest l first second =
    let long : length (part ++ rest) ≡ length part + length rest = length-append part rest in
    ap (λ (r : List ℕ). r ++ rest) first ∙ ap (λ (r : List ℕ). take (length part) l ++ r) second
    ∙ sym (take-add (length part) (length rest) l) ∙ ap (λ (n : ℕ). take n l) (sym long)

pub reads_go_on : ReadsGoOn
reads_go_on [] offset text = refl
reads_go_on (size ∷ sizes) offset text =
    let part = part_of offset size text in
    let rest = given_together sizes (offset + length part) text in
    joined part rest (drop offset text) (own-length (min size most_data) (drop offset text))
    (reads_go_on sizes (offset + length part) text ∙ ap (λ (l : List ℕ). take (length rest) l) (drop-plus offset (length part) text))

none-left : (k : ℕ) (l : List ℕ) → 0 < k → take k l ≡ [] → l ≡ []
none-left k [] some nothing = refl
none-left zero (x ∷ l) some nothing = absurd (omega (arith, some))
none-left (suc k) (x ∷ l) some nothing = absurd (let no : x ∷ take k l ≡ [] = nothing in cc)

all-given : (given l : List ℕ) → given ≡ take (length given) l → drop (length given) l ≡ [] → given ≡ l
all-given given l front none =
    front ∙ sym (append-nil (take (length given) l)) ∙ ap (λ (r : List ℕ). take (length given) l ++ r) (sym none) ∙ take-append-drop (length given) l

pub nothing_left_is_all : NothingLeftIsAll
nothing_left_is_all sizes size offset text some nothing =
    let given = given_together sizes offset text in
    let many : 0 < min size most_data = omega (arith, some) in
    all-given given (drop offset text) (reads_go_on sizes offset text)
    (sym (drop-plus offset (length given) text) ∙ none-left (min size most_data) (drop (offset + length given) text) many nothing)

-- a change of an open file that leaves it this text
pub text-kept : (change : OpenSeen → OpenSeen) (files : List (Option OpenSeen)) (handle : ℕ) (text : List ℕ) (file : OpenSeen)
    → file_at handle files ≡ Some file → (change file).text ≡ Some text → text_at handle (with_change change handle files) ≡ Some text
text-kept change [] zero text file there keeps = absurd (let no : None ≡ Some file = there in cc)
text-kept change [] (suc handle) text file there keeps = absurd (let no : None ≡ Some file = there in cc)
text-kept change (first ∷ files) zero text file there keeps = rw there keeps
text-kept change (first ∷ files) (suc handle) text file there keeps = text-kept change files handle text file there keeps

-- a text that was not read to its end is kept
pub reading-kept : (handle offset size : ℕ) (text : List ℕ) (file : OpenSeen) (files : List (Option OpenSeen)) → file_at handle files ≡ Some file
    → is_read_out offset size text ≡ false → text_at handle (with_reading offset size text handle files) ≡ Some text
reading-kept handle offset size text file files there going =
    text-kept (after_reading offset size text) files handle text file there (rw going refl)

-- ---- commands

asked-adds : (g : Terms) (past now : List Request) (request : Request) (answer : Result Answer Refusal) → now ≡ past_after answer request past → Adds past now 1
asked-adds g past now request (Ok answer) is = record { done = request ∷ []; is = is; few = omega arith }
asked-adds g past now request (Err refusal) is = adds-none past now 1 is

pub does-adds : (g : Terms) (before after : Service) (step : Step) (reply : Option Reply) → Does g before step reply after
    → Adds before.past after.past (most_commands step)
does-adds g before after (Plain outcome) reply does = adds-none before.past after.past 0 (ap (λ (s : Service). s.past) does.1)
does-adds g before after (Takes outcome) reply (inl does) = adds-none before.past after.past 0 (ap (λ (s : Service). s.past) does.1)
does-adds g before after (Takes outcome) reply (inr does) = adds-none before.past after.past 0 (ap (λ (s : Service). s.past) does.1)
does-adds g before after (Asks request outcome) reply (answer, answered, told, is) =
    asked-adds g before.past after.past request answer (ap (λ (s : Service). s.past) is)
does-adds g before after (Parks read) reply (inl does) = adds-none before.past after.past 0 (ap (λ (s : Service). s.past) does.1)
does-adds g before after (Parks read) reply (inr does) = adds-none before.past after.past 0 (ap (λ (s : Service). s.past) does.1)
does-adds g before after (Interrupts unique) reply does = adds-none before.past after.past 0 (ap (λ (s : Service). s.past) does.1)
does-adds g before after (AsksNoting request takes outcome noting) reply (answer, answered, told, is) =
    asked-adds g before.past after.past request answer (ap (λ (s : Service). s.past) is)
does-adds g before after (Tells noting takes outcome) reply (inl does) = adds-none before.past after.past 0 (ap (λ (s : Service). s.past) does.1)
does-adds g before after (Tells noting takes outcome) reply (inr (may, told, same)) = adds-none before.past after.past 0 (ap (λ (s : Service). s.past) same)
does-adds g before after (AsksLines lines outcome noting) reply (ran, runs, told, is) =
    subst (λ (now : List Request). Adds before.past now (length lines)) (sym (ap (λ (s : Service). s.past) is)) (lines-add g before.past lines ran runs)
does-adds g before after (Counts count outcome) reply (inl does) = adds-none before.past after.past 0 (ap (λ (s : Service). s.past) does.1)
does-adds g before after (Counts count outcome) reply (inr does) = adds-none before.past after.past 0 (ap (λ (s : Service). s.past) does.1)

pub steps_do_commands : StepsDoCommands
steps_do_commands g before after step reply does = let adds = does-adds g before after step reply does in (adds.done, adds.is, adds.few)
