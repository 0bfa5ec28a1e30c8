-- Calls of a device that are a service's, and some that are none.
use Rattle.std.proofs.Common.{◌≡◌, ℕ, ◌≤◌, true, false, List, [], ◌∷◌, ◌++◌, length, take, drop, Ok, refl, sym, ap, subst, ◌∙◌, arith, lit≤}
use Rattle.std.proofs.lemmas.Bool.{false≢true}
use Rattle.std.proofs.lemmas.List.Elements.{All-cons, All-head, All-nil}
use Rattle.std.specs.List.{flat_map}
use Rattle.fuse_serve.proofs.CallLemmas.{all_parts, no_call}
use Rattle.fuse_serve.proofs.CutLemmas.{none_in_none}
use Rattle.fuse_serve.proofs.ReplyLemmas.{unwritten}
use Rattle.fuse_serve.specs.Calls.{Call, goes_on, is_read, read_call, taken, write_call}
use Rattle.fuse_serve.specs.Deliveries.{AreOffered, IsDelivered}
use Rattle.fuse_serve.specs.Exchanges.{AnswersAll, AreDelivered, Exchange, IsReadNext, writes_of}
use Rattle.fuse_serve.specs.Framing.{IsRequest, BeginsNoRequest}
use Rattle.fuse_serve.specs.ServiceExamples.{Echoes, MayMake, Tells, header, never, owes_at_one}
use Rattle.fuse_serve.specs.declared.fate.Fate.TheVariants.{Written}

is_request : IsRequest header
is_request = record { told = refl; header = lit≤ tt; most = lit≤ tt }

-- ---- one request

abbrev read : Call
read = read_call header (Ok 40)

abbrev reply : Call
reply = write_call header (Ok 40)

abbrev end : Call
end = read_call [] (Ok 0)

abbrev one : Exchange
one = record { request = header; reply = header; fate = Written; writes = reply ∷ [] }

same_second : (a b c x y : Call) (more : List Call) → a ∷ b ∷ c ∷ [] ≡ x ∷ y ∷ more → y ≡ b
same_second a b c x y more e = (cc)

same_first : (a b c x : Call) (more : List Call) → a ∷ b ∷ c ∷ [] ≡ x ∷ more → x ≡ a
same_first a b c x more e = (cc)

rest_of : (a b c x y z : Call) (more : List Call) → a ∷ b ∷ c ∷ [] ≡ x ∷ y ∷ z ∷ more → [] ≡ more
rest_of a b c x y z more e = (cc)

offered : AreOffered header (reply ∷ [])
offered [] x later e = let same : x ≡ reply = (cc) in subst (λ (call : Call). (header ≡ taken [] ++ call.bytes) × (call.bytes ≡ [] → ⊥)) (sym same) (refl, λ none. absurd (let no : length header ≡ length {A = ℕ} [] = ap length none in omega (arith, no)))
offered (y ∷ more) x later e = absurd (no_call more x later (let rest : [] ≡ more ++ x ∷ later = (cc) in rest))

delivered : IsDelivered Written header (reply ∷ [])
delivered = record {
  writes_only = All-cons (λ (call : Call). is_read call.outcome ≡ false) reply [] refl (All-nil (λ (call : Call). is_read call.outcome ≡ false));
  offered = offered;
  ends = (refl, All-cons (λ (call : Call). goes_on call.outcome ≡ true) reply [] refl (All-nil (λ (call : Call). goes_on call.outcome ≡ true)));
}

waits : (earlier : List Call) (call : Call) (later : List Call) → read ∷ reply ∷ end ∷ [] ≡ earlier ++ call ∷ later → is_read call.outcome ≡ true
    → IsReadNext Echoes never owes_at_one 0 0 earlier (one ∷ [])
waits [] call later e is = record {
  done = [];
  later = one ∷ [];
  are = refl;
  left = [];
  gave = refl;
  none_left = none_in_none;
  took = refl;
  now = 0;
  answered = refl;
  more = (refl, is_request, 0, (refl, refl), refl);
  waiting = (refl, refl);
}
waits (x ∷ []) call later e is = absurd (false≢true (subst (λ (c : Call). is_read c.outcome ≡ true) (same_second read reply end x call later e) is))
waits (x ∷ y ∷ []) call later e is =
    subst (λ (calls : List Call). IsReadNext Echoes never owes_at_one 0 0 calls (one ∷ []))
    (let first = same_first read reply end x (y ∷ call ∷ later) e in let second = same_second read reply end x y (call ∷ later) e in
    sym (ap (λ (c : Call). c ∷ y ∷ []) first ∙ ap (λ (c : Call). read ∷ c ∷ []) second))
    (record {
      done = one ∷ [];
      later = [];
      are = refl;
      left = [];
      gave = refl;
      none_left = none_in_none;
      took = refl;
      now = 0;
      answered = (refl, is_request, 0, (refl, refl), refl);
      more = refl;
      waiting = (refl, refl);
    })
waits (x ∷ y ∷ z ∷ more) call later e is = absurd (no_call more call later (rest_of read reply end x y z (more ++ call ∷ later) e))

pub answered : MayMake Echoes 0 (read ∷ reply ∷ end ∷ [])
answered = (
  0,
  one ∷ [],
  [],
  record {
    made = refl;
    gave = refl;
    answered = (refl, is_request, 0, (refl, refl), refl);
    took = refl;
    delivered = All-cons (λ (x : Exchange). IsDelivered x.fate x.reply x.writes) one [] delivered (All-nil (λ (x : Exchange). IsDelivered x.fate x.reply x.writes));
    in_order = waits;
    read = tt;
    written = tt;
  },
)

-- ---- calls that are none

no_writes : (first : List Call) (more : List Call) → [] ≡ first ++ more → first ≡ []
no_writes [] more e = refl
no_writes (x ∷ first) more e = absurd (let none : length {A = Call} [] ≡ length (x ∷ (first ++ more)) = ap length e in omega (arith, none))

-- where nothing was written, nothing was answered that has a reply
no_reply : (x : Exchange) (more : List Exchange) → AreDelivered (x ∷ more) → [] ≡ writes_of (x ∷ more) → x.reply ≡ []
no_reply x more h none =
    let first : IsDelivered x.fate x.reply x.writes = All-head (λ (y : Exchange). IsDelivered y.fate y.reply y.writes) x more h in
    let nothing : x.writes ≡ [] = no_writes x.writes (writes_of more) none in
    unwritten x.fate x.reply (subst (λ (writes : List Call). IsDelivered x.fate x.reply writes) nothing first).ends

no_request : (xs : List ℕ) → IsRequest xs → xs ≡ [] → ⊥
no_request xs h none = omega (arith, h.header, ap length none)

-- nothing was answered before the second read, though a request was read
not_yet : (done : List Exchange) (now : ℕ) (left : List ℕ) → AnswersAll Echoes never owes_at_one 0 done now → AreDelivered done → [] ≡ writes_of done
    → header ≡ flat_map (λ (x : Exchange). x.request) done ++ left → BeginsNoRequest left → ⊥
not_yet [] now left h all none gave begins = begins 40 (subst IsRequest (ap (take 40) gave) is_request)
not_yet (x ∷ more) now left h all none gave begins = no_request x.request h.1 (sym h.3.1 ∙ no_reply x more all none)

pub not_ahead : MayMake Echoes 0 (read ∷ read ∷ reply ∷ reply ∷ []) → ⊥
not_ahead h =
    let next = h.3.in_order (read ∷ []) read (reply ∷ reply ∷ []) refl refl in
    let all = all_parts (λ (x : Exchange). IsDelivered x.fate x.reply x.writes) next.done next.later (subst AreDelivered next.are h.3.delivered) in
    not_yet next.done next.now next.left next.answered all.0 next.took next.gave next.none_left

late : (done : List Exchange) (now : ℕ) → AnswersAll Tells never owes_at_one 1 done now → AreDelivered done → [] ≡ writes_of done → owes_at_one now ≡ false → ⊥
late [] now h all none waits = false≢true (sym waits ∙ ap owes_at_one h)
late (x ∷ more) now h all none waits = absurd (let no : 16 ∷ [] ≡ [] = sym h.3 ∙ no_reply x more all none in cc)

pub not_late : MayMake Tells 1 (read ∷ write_call (16 ∷ []) (Ok 1) ∷ []) → ⊥
not_late h =
    let next = h.3.in_order [] read (write_call (16 ∷ []) (Ok 1) ∷ []) refl refl in
    let all = all_parts (λ (x : Exchange). IsDelivered x.fate x.reply x.writes) next.done next.later (subst AreDelivered next.are h.3.delivered) in
    late next.done next.now next.answered all.0 next.took next.waiting.1

head_is : (first : Call) (more : List Call) (w : Call) (ws all : List Call) → first ∷ more ≡ (w ∷ ws) ++ all → w ≡ first
head_is first more w ws all e = (cc)

-- the first write of the first reply was offered half of it
halved : (exchanges : List Exchange) (after : ℕ) (more : List Call) → AnswersAll Echoes never owes_at_one 0 exchanges after → AreDelivered exchanges
    → write_call (take 20 header) (Ok 20) ∷ more ≡ writes_of exchanges → ⊥
halved [] after more h all took = absurd (let none : length (write_call (take 20 header) (Ok 20) ∷ more) ≡ length {A = Call} [] = ap length took in omega (arith, none))
halved (x ∷ rest) after more h all took =
    half x.fate x.reply x.writes (All-head (λ (y : Exchange). IsDelivered y.fate y.reply y.writes) x rest all) took
    (let same : x.reply ≡ x.request = h.3.1 in omega (arith, h.1.header, ap length same))
  where
    half : (fate : _) (reply : List ℕ) (writes : List Call) → IsDelivered fate reply writes → write_call (take 20 header) (Ok 20) ∷ more ≡ writes ++ writes_of rest → 40 ≤ length reply → ⊥
    half fate reply [] d same long = let none = unwritten fate reply d.ends in omega (arith, long, ap length none)
    half fate reply (w ∷ ws) d same long =
        let first : w ≡ write_call (take 20 header) (Ok 20) = head_is (write_call (take 20 header) (Ok 20)) more w ws (writes_of rest) same in
        let whole : reply ≡ w.bytes = (d.offered [] w ws refl).0 in
        let short : length reply ≡ 20 = ap length (whole ∙ ap (λ (c : Call). c.bytes) first) in
        omega (arith, long, short)

pub not_in_two : MayMake Echoes 0 (read ∷ write_call (take 20 header) (Ok 20) ∷ write_call (drop 20 header) (Ok 20) ∷ []) → ⊥
not_in_two h = halved h.1 h.0 (write_call (drop 20 header) (Ok 20) ∷ []) h.3.answered h.3.delivered h.3.took
