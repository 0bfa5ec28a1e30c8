-- Replies, and their writes.
use Rattle.std.proofs.Common.{◌≡◌, ℕ, List, [], ◌∷◌, ◌++◌, length, map, take, Result, Ok, Err, inl, inr, refl, sym, ap, subst, ◌∙◌, arith, append_assoc, length-append}
use Rattle.std.proofs.lemmas.List.{append_cancel_left}
use Rattle.std.proofs.lemmas.List.Elements.{All-cons, All-head, All-nil, All-tail}
use Rattle.std.specs.List.{All}
use Rattle.std.specs.declared.io.Error.{Error}
use Rattle.fuse_serve.proofs.CallLemmas.{all_at, all_parts, no_call, split_push, taken-append, taken_one}
use Rattle.fuse_serve.specs.Calls.{Call, FailedFor, result_of, taken, taken_by}
use Rattle.fuse_serve.specs.Deliveries.{AreOffered, EndsIn, IsDelivered, LastOf}
use Rattle.fuse_serve.specs.Exchanges.{AreDelivered, Exchange, replies_in, with_bytes, writes_of}
use Rattle.fuse_serve.specs.ServiceLaws.{AllAreWritten, IsWhole, OneWriteEach, WholeWritesEndReplies}
use Rattle.fuse_serve.specs.declared.cause.Cause.TheVariants.{NoEntry}
use Rattle.fuse_serve.specs.declared.fate.Fate.{Fate}
use Rattle.fuse_serve.specs.declared.fate.Fate.TheVariants.{Written, Dropped, Cut}
use Rattle.fuse_serve.specs.declared.outcome.Outcome.{Outcome}
use Rattle.fuse_serve.specs.declared.outcome.Outcome.TheVariants as outcomes

abbrev Delivered : Exchange → Type 0
Delivered one = IsDelivered one.fate one.reply one.writes

-- ---- what was written

pub all_written : AllAreWritten
all_written [] h whole = refl
all_written (one ∷ more) h whole =
    let P : Exchange → Type 0 = λ x. x.fate ≡ Written in
    let ends : EndsIn Written one.reply one.writes = subst (λ (fate : Fate). EndsIn fate one.reply one.writes) (All-head P one more whole) (All-head Delivered one more h).ends in
    taken-append one.writes (writes_of more)
    ∙ (ap (λ (xs : List ℕ). xs ++ taken (writes_of more)) ends.0 ∙ ap (λ (xs : List ℕ). one.reply ++ xs) (all_written more (All-tail Delivered one more h) (All-tail P one more whole)))

abbrev Unfailed : Call → Type 0
Unfailed call = FailedFor NoEntry call.outcome → ⊥

unfailed : (fate : Fate) (reply : List ℕ) (writes : List Call) → EndsIn fate reply writes → (fate ≡ Cut → ⊥) → All Unfailed writes → fate ≡ Written
unfailed Written reply writes h uncut none = refl
unfailed Dropped reply writes h uncut none = absurd (all_at Unfailed writes h.0.earlier h.0.last [] h.0.are none h.2)
unfailed Cut reply writes h uncut none = absurd (uncut refl)

-- where no reply was cut, and no write failed by ENOENT, each was written
pub none_dropped : (exchanges : List Exchange) → AreDelivered exchanges → All (λ (one : Exchange). one.fate ≡ Cut → ⊥) exchanges → All Unfailed (writes_of exchanges)
    → All (λ (one : Exchange). one.fate ≡ Written) exchanges
none_dropped [] h uncut none = All-nil (λ (one : Exchange). one.fate ≡ Written)
none_dropped (one ∷ more) h uncut none =
    let parts = all_parts Unfailed one.writes (writes_of more) none in
    let Q : Exchange → Type 0 = λ x. x.fate ≡ Cut → ⊥ in
    All-cons (λ (x : Exchange). x.fate ≡ Written) one more (unfailed one.fate one.reply one.writes (All-head Delivered one more h).ends (All-head Q one more uncut) parts.0)
    (none_dropped more (All-tail Delivered one more h) (All-tail Q one more uncut) parts.1)

-- ---- one write each

empty : (xs : List ℕ) → length xs ≡ 0 → xs ≡ []
empty [] h = refl
empty (x ∷ xs) h = absurd (omega (arith, h))

-- after a write that took all that was left nothing is offered
last_write : (reply : List ℕ) (writes earlier : List Call) (one next : Call) (later : List Call) → AreOffered reply writes → writes ≡ earlier ++ one ∷ next ∷ later → IsWhole one → ⊥
last_write reply writes earlier one next later offered are whole =
    let first = offered earlier one (next ∷ later) are in
    let second = offered (earlier ++ one ∷ []) next later (are ∙ sym (append_assoc earlier (one ∷ []) (next ∷ later))) in
    let before : taken (earlier ++ one ∷ []) ≡ taken earlier ++ one.bytes =
    taken-append earlier (one ∷ []) ∙ ap (λ (xs : List ℕ). taken earlier ++ xs) (taken_one one ∙ whole) in
    let same : reply ≡ reply ++ next.bytes = second.0 ∙ ap (λ (xs : List ℕ). xs ++ next.bytes) (before ∙ sym first.0) in
    second.1 (empty next.bytes (omega (arith, ap length same, length-append reply next.bytes)))

-- a reply of no writes has no bytes
pub unwritten : (fate : Fate) (reply : List ℕ) → EndsIn fate reply [] → reply ≡ []
unwritten Written reply h = sym h.0
unwritten Dropped reply h = absurd (no_call h.0.earlier h.0.last [] h.0.are)
unwritten Cut reply h = absurd (no_call h.0.earlier h.0.last [] h.0.are)

with_some : (reply : List ℕ) (more : List (List ℕ)) → (reply ≡ [] → ⊥) → with_bytes reply more ≡ reply ∷ more
with_some [] more some = absurd (some refl)
with_some (byte ∷ bytes) more some = refl

-- one write, or none
single : (fate : Fate) (reply : List ℕ) (writes : List Call) (more : List (List ℕ)) → IsDelivered fate reply writes → All IsWhole writes
    → map (λ (call : Call). call.bytes) writes ++ more ≡ with_bytes reply more
single fate reply [] more h whole = ap (λ (xs : List ℕ). with_bytes xs more) (sym (unwritten fate reply h.ends))
single fate reply (one ∷ []) more h whole =
    let first = h.offered [] one [] refl in
    let same : reply ≡ one.bytes = first.0 in
    ap (λ (xs : List ℕ). xs ∷ more) (sym same) ∙ sym (with_some reply more (λ none. first.1 (sym same ∙ none)))
single fate reply (one ∷ next ∷ later) more h whole =
    absurd (last_write reply (one ∷ next ∷ later) [] one next later h.offered refl (All-head IsWhole one (next ∷ later) whole))

map_both : (xs ys : List Call) → map (λ (call : Call). call.bytes) (xs ++ ys) ≡ map (λ (call : Call). call.bytes) xs ++ map (λ (call : Call). call.bytes) ys
map_both [] ys = refl
map_both (x ∷ xs) ys = ap (λ (l : List (List ℕ)). x.bytes ∷ l) (map_both xs ys)

pub one_write_each : OneWriteEach
one_write_each [] h whole = refl
one_write_each (one ∷ more) h whole =
    let parts = all_parts IsWhole one.writes (writes_of more) whole in
    map_both one.writes (writes_of more)
    ∙ (ap (λ (l : List (List ℕ)). map (λ (call : Call). call.bytes) one.writes ++ l) (one_write_each more (All-tail Delivered one more h) parts.1)
    ∙ single one.fate one.reply one.writes (replies_in more) (All-head Delivered one more h) parts.0)

-- ---- a write that takes all

failed_takes : (bytes : List ℕ) (outcome : Outcome) (error : Error) → result_of outcome ≡ Err error → taken_by bytes outcome ≡ []
failed_takes bytes (outcomes.Read result) error h = refl
failed_takes bytes (outcomes.Written (Ok count)) error h = absurd (let no : ◌≡◌ {A = Result ℕ Error} (Ok count) (Err error) = h in cc)
failed_takes bytes (outcomes.Written (Err other)) error h = refl

none_takes : (bytes : List ℕ) (outcome : Outcome) → result_of outcome ≡ Ok 0 → taken_by bytes outcome ≡ []
none_takes bytes (outcomes.Read result) h = refl
none_takes bytes (outcomes.Written (Ok count)) h = let zero : count ≡ 0 = cc in ap (λ (n : ℕ). take n bytes) zero
none_takes bytes (outcomes.Written (Err error)) h = refl

too_few : (xs front : List Call) (x : Call) (rest : List Call) (last : Call) → xs ≡ front ++ x ∷ rest → xs ++ last ∷ [] ≡ front ++ x ∷ [] → ⊥
too_few xs front x rest last e same =
    omega (arith, ap length e, ap length same, length-append xs (last ∷ []), length-append front (x ∷ []), length-append front (x ∷ rest))

last_same : (writes earlier : List Call) (one : Call) (end : LastOf writes) → writes ≡ earlier ++ one ∷ [] → end.last ≡ one
last_same writes earlier one end are = elim (split_push end.earlier end.last earlier one [] (sym end.are ∙ are)) as (λ s. end.last ≡ one) [
  | inl h ↦ absurd (too_few end.earlier earlier one h.0 end.last h.1 (sym end.are ∙ are))
  | inr h ↦ sym h.1
]

-- then it was not dropped or cut
fate_of : (fate : Fate) (reply : List ℕ) (writes earlier : List Call) (one : Call) → EndsIn fate reply writes → writes ≡ earlier ++ one ∷ [] → IsWhole one → (one.bytes ≡ [] → ⊥) → fate ≡ Written
fate_of Written reply writes earlier one h are whole some = refl
fate_of Dropped reply writes earlier one h are whole some =
    let last = last_same writes earlier one h.0 are in
    absurd (some (sym whole ∙ subst (λ (call : Call). taken_by call.bytes call.outcome ≡ []) last (failed_takes h.0.last.bytes h.0.last.outcome h.2.0 h.2.1)))
fate_of Cut reply writes earlier one h are whole some =
    let last = last_same writes earlier one h.0 are in
    let nothing : taken_by h.0.last.bytes h.0.last.outcome ≡ [] = elim h.1 [
      | inl zero ↦ none_takes h.0.last.bytes h.0.last.outcome zero
      | inr failed ↦ failed_takes h.0.last.bytes h.0.last.outcome failed.0 failed.1
    ] in
    absurd (some (sym whole ∙ subst (λ (call : Call). taken_by call.bytes call.outcome ≡ []) last nothing))

-- some calls have a last one
last_of : (calls : List Call) → (calls ≡ [] → ⊥) → (earlier : List Call) × (last : Call) × (calls ≡ earlier ++ last ∷ [])
last_of [] some = absurd (some refl)
last_of (one ∷ []) some = ([], one, refl)
last_of (one ∷ next ∷ more) some =
    let rest = last_of (next ∷ more) (λ e. absurd (let no : next ∷ more ≡ [] = e in cc)) in
    (one ∷ rest.0, rest.1, ap (λ (calls : List Call). one ∷ calls) rest.2)

ends_whole : (reply : List ℕ) (writes : List Call) → AreOffered reply writes → taken writes ≡ reply → (reply ≡ [] → ⊥) → (earlier : List Call) × (last : Call) × (writes ≡ earlier ++ last ∷ []) × IsWhole last
ends_whole reply writes offered all some =
    let end = last_of writes (λ none. some (sym all ∙ ap taken none)) in
    let first = offered end.0 end.1 [] end.2 in
    let both : taken end.0 ++ taken_by end.1.bytes end.1.outcome ≡ taken end.0 ++ end.1.bytes =
    ap (λ (xs : List ℕ). taken end.0 ++ xs) (sym (taken_one end.1)) ∙ (sym (taken-append end.0 (end.1 ∷ [])) ∙ (ap taken (sym end.2) ∙ (all ∙ first.0))) in
    (end.0, end.1, end.2, append_cancel_left (taken end.0) (taken_by end.1.bytes end.1.outcome) end.1.bytes both)

pub whole_writes_end : WholeWritesEndReplies
whole_writes_end one h = (
  λ earlier write later are whole. at_last earlier write later are whole,
  λ fate some. ends_whole one.reply one.writes h.offered (let ends : EndsIn Written one.reply one.writes = subst (λ (f : Fate). EndsIn f one.reply one.writes) fate h.ends in ends.0) some,
)
  where
    at_last : (earlier : List Call) (write : Call) (later : List Call) → one.writes ≡ earlier ++ write ∷ later → IsWhole write → (later ≡ []) × (one.fate ≡ Written)
    at_last earlier write [] are whole = (refl, fate_of one.fate one.reply one.writes earlier write h.ends are whole (h.offered earlier write [] are).1)
    at_last earlier write (next ∷ later) are whole = absurd (last_write one.reply one.writes earlier write next later h.offered are whole)
