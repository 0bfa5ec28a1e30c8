-- A service, turn by turn.
use Rattle.std.proofs.Common.{◌≡◌, ℕ, ◌+◌, ◌-◌, Bool, true, false, List, [], ◌∷◌, ◌++◌, length, take, drop, Option, Some, Result, Ok, Err, inl, inr, refl, ap, sym, subst, ◌∙◌, arith, append_assoc, length-append, take-append-drop}
use Rattle.std.proofs.lemmas.Bool.{false≢true}
use Rattle.std.proofs.lemmas.Bool.Decides.{nat_tests}
use Rattle.std.proofs.lemmas.List.{append-nil}
use Rattle.std.proofs.lemmas.List.Concat.{flat_map-append}
use Rattle.std.proofs.lemmas.List.Elements.{All-append, All-nil}
use Rattle.std.specs.Io.KnownBytes.{Appends, Consumes}
use Rattle.std.specs.declared.io.Error.{Error}
use Rattle.fuse_serve.proofs.CallLemmas.{AreWrites, all_at, no_call, all_push, all_writes, given-append, given_one, no_reads, reads_in-append, split_append, split_push, taken-append, writes_give, writes_in-append}
use Rattle.fuse_serve.proofs.Transfers.{Appends_append, Appends_nothing, Consumes_append, Consumes_nothing}
use Rattle.fuse_serve.specs.Calls.{Call, ends_input, first_bytes, given, is_read, read_call, reads_in, taken, writes_in}
use Rattle.fuse_serve.specs.Deliveries.{IsDelivered}
use Rattle.fuse_serve.specs.Endings.{EndsAs, ReadsOn, StopsReading, StopsWriting, WritesOn}
use Rattle.fuse_serve.specs.Exchanges.{AnswersAll, Exchange, HasServed, IsNext, IsReadNext, IsWaiting, asked, device_seen, writes_of}
use Rattle.fuse_serve.specs.Framing.{IsRequest, BeginsNoRequest}
use Rattle.fuse_serve.specs.declared.fate.Fate.{Fate}
use Rattle.fuse_serve.specs.declared.fate.Fate.TheVariants.{Cut}
use Rattle.fuse_serve.specs.declared.fault.Ended.{Ended}
use Rattle.fuse_serve.specs.declared.fault.Ended.TheVariants.{AtEnd, Gone, Asked}
use Rattle.fuse_serve.specs.declared.fault.Fault.{Fault}
use Rattle.fuse_serve.specs.declared.fault.Fault.TheVariants.{Memory, Unframed, Read, Write}
use Rattle.fuse_serve.specs.declared.outcome.Outcome.TheVariants as outcomes
use Rattle.fuse_serve.specs.private.Turns.{HasAnswered, HasRead, Received}

-- ---- exchange by exchange

asked_more : (exchanges : List Exchange) (one : Exchange) → asked (exchanges ++ one ∷ []) ≡ asked exchanges ++ one.request
asked_more exchanges one =
    flat_map-append (λ (x : Exchange). x.request) exchanges (one ∷ []) ∙ ap (λ (xs : List ℕ). asked exchanges ++ xs) (append-nil one.request)

writes_more : (exchanges : List Exchange) (one : Exchange) → writes_of (exchanges ++ one ∷ []) ≡ writes_of exchanges ++ one.writes
writes_more exchanges one =
    flat_map-append (λ (x : Exchange). x.writes) exchanges (one ∷ []) ∙ ap (λ (xs : List Call). writes_of exchanges ++ xs) (append-nil one.writes)

-- what is owed comes next, or else a request
pub owed_next : (owes : Bool) → owes ≡ true → IsNext owes []
owed_next true h = refl
owed_next false h = absurd (false≢true h)

pub request_next : (owes : Bool) (request : List ℕ) → owes ≡ false → IsRequest request → IsNext owes request
request_next true request h whole = absurd (false≢true (sym h))
request_next false request h whole = whole

-- the exchange that a turn came to
abbrev pub exchanged : {S : Type 0} {answers : S → List ℕ → S → List ℕ → Type 0} {before after : S} {calls calls' : List Call} {contents contents' : Option (List ℕ)}
    → (request : List ℕ) (fate : Fate) → HasAnswered answers before after request fate calls calls' contents contents' → Exchange
exchanged request fate h = record { request = request; reply = h.reply; fate = fate; writes = h.delivered.writes }

module _ {S : Type 0} (answers : S → List ℕ → S → List ℕ → Type 0) (ends owes : S → Bool) where
  answers_more : (before : S) (exchanges : List Exchange) (now after : S) (one : Exchange) → AnswersAll answers ends owes before exchanges now → ends now ≡ false
      → IsNext (owes now) one.request → answers now one.request after one.reply → AnswersAll answers ends owes before (exchanges ++ one ∷ []) after
  answers_more before [] now after one h going whole answered =
      (subst (λ (s : S). ends s ≡ false) h going, subst (λ (s : S). IsNext (owes s) one.request) h whole, after, subst (λ (s : S). answers s one.request after one.reply) h answered, refl)
  answers_more before (first ∷ more) now after one h going whole answered =
      (h.0, h.1, h.2, h.3, answers_more h.2 more now after one h.4 going whole answered)

  -- nothing was read yet
  pub served_none : (before : S) (calls : List Call) (remaining contents : Option (List ℕ))
      → HasServed answers ends owes before before (device_seen calls remaining contents) (device_seen calls remaining contents) [] [] []
  served_none before calls remaining contents = record {
    made = sym (append-nil calls);
    gave = refl;
    answered = refl;
    took = refl;
    delivered = All-nil (λ (one : Exchange). IsDelivered one.fate one.reply one.writes);
    in_order = λ earlier one later e read. absurd (no_call earlier one later e);
    read = Consumes_nothing remaining;
    written = Appends_nothing contents;
  }

  -- a read came next still, of more exchanges
  next_still : (before now after : S) (calls : List Call) (exchanges : List Exchange) (one : Exchange) → IsReadNext answers ends owes before now calls exchanges
      → ends now ≡ false → IsNext (owes now) one.request → answers now one.request after one.reply
      → IsReadNext answers ends owes before after calls (exchanges ++ one ∷ [])
  next_still before now after calls exchanges one h going whole answered = record {
    done = h.done;
    later = h.later ++ one ∷ [];
    are = ap (λ (xs : List Exchange). xs ++ one ∷ []) h.are ∙ append_assoc h.done h.later (one ∷ []);
    left = h.left;
    gave = h.gave;
    none_left = h.none_left;
    took = h.took;
    now = h.now;
    answered = h.answered;
    more = answers_more h.now h.later now after one h.more going whole answered;
    waiting = h.waiting;
  }

  module _ (before now : S) (calls₀ calls : List Call) (r₀ r c₀ c : Option (List ℕ)) (made : List Call) (exchanges : List Exchange) (waited : List ℕ)
      (h : HasServed answers ends owes before now (device_seen calls₀ r₀ c₀) (device_seen calls r c) made exchanges waited) where
    -- some bytes were read, when nothing else was to be done
    pub served_read : (result : Result ℕ Error) (waits : List ℕ) (calls' : List Call) (r' c' : Option (List ℕ)) → c' ≡ c → (read : HasRead result waited waits calls calls' r r')
        → BeginsNoRequest waited → IsWaiting (ends now) (owes now)
        → HasServed answers ends owes before now (device_seen calls₀ r₀ c₀) (device_seen calls' r' c') (made ++ read_call read.buffer result ∷ []) exchanges waits
    served_read result waits calls' r' c' kept read none waiting =
        let one : Call = read_call read.buffer result in
        let came : given (made ++ one ∷ []) ≡ given made ++ first_bytes read.buffer result = given-append made (one ∷ []) ∙ ap (λ (xs : List ℕ). given made ++ xs) (given_one one) in record {
          made = read.made ∙ (ap (λ (xs : List Call). xs ++ one ∷ []) h.made ∙ append_assoc calls₀ made (one ∷ []));
          gave = came ∙ (ap (λ (xs : List ℕ). xs ++ first_bytes read.buffer result) h.gave ∙ (append_assoc (asked exchanges) waited (first_bytes read.buffer result) ∙ ap (λ (xs : List ℕ). asked exchanges ++ xs) (sym read.came)));
          answered = h.answered;
          took = writes_in-append made (one ∷ []) ∙ (append-nil (writes_in made) ∙ h.took);
          delivered = h.delivered;
          in_order = λ earlier call later e is. elim (split_push made one earlier call later e) as (λ s. IsReadNext answers ends owes before now earlier exchanges) [
            | inl old ↦ h.in_order earlier call old.0 old.1 is
            | inr new ↦ record {
              done = exchanges;
              later = [];
              are = sym (append-nil exchanges);
              left = waited;
              gave = subst (λ (xs : List Call). given xs ≡ asked exchanges ++ waited) (sym new.0) h.gave;
              none_left = none;
              took = subst (λ (xs : List Call). writes_in xs ≡ writes_of exchanges) (sym new.0) h.took;
              now = now;
              answered = h.answered;
              more = refl;
              waiting = waiting;
            }
          ];
          read = subst (Consumes r₀ r') (sym came) (Consumes_append r₀ r r' (given made) (first_bytes read.buffer result) h.read read.consumed);
          written = subst (λ (held : Option (List ℕ)). Appends c₀ held (taken (made ++ one ∷ []))) (sym kept) (subst (Appends c₀ c) (sym (taken-append made (one ∷ []) ∙ append-nil (taken made))) h.written);
        }

    -- a request was answered, or what was owed was told
    pub served_more : (after : S) (request waits : List ℕ) (fate : Fate) (calls' : List Call) (r' c' : Option (List ℕ)) → r' ≡ r → ends now ≡ false
        → IsNext (owes now) request → waited ≡ request ++ waits → (a : HasAnswered answers now after request fate calls calls' c c')
        → HasServed answers ends owes before after (device_seen calls₀ r₀ c₀) (device_seen calls' r' c') (made ++ a.delivered.writes) (exchanges ++ exchanged request fate a ∷ []) waits
    served_more after request waits fate calls' r' c' kept going whole e a =
        let writes = a.delivered.writes in
        let only : AreWrites writes = a.delivered.delivered.writes_only in
        let one : Exchange = exchanged request fate a in
        let came : given (made ++ writes) ≡ given made = given-append made writes ∙ (ap (λ (xs : List ℕ). given made ++ xs) (writes_give writes only) ∙ append-nil (given made)) in record {
          made = a.delivered.made ∙ (ap (λ (xs : List Call). xs ++ writes) h.made ∙ append_assoc calls₀ made writes);
          gave = came ∙ (h.gave ∙ (ap (λ (xs : List ℕ). asked exchanges ++ xs) e ∙ (sym (append_assoc (asked exchanges) request waits) ∙ ap (λ (xs : List ℕ). xs ++ waits) (sym (asked_more exchanges one)))));
          answered = answers_more before exchanges now after one h.answered going whole a.answered;
          took = writes_in-append made writes ∙ (ap (λ (xs : List Call). xs ++ writes_in writes) h.took ∙ (ap (λ (xs : List Call). writes_of exchanges ++ xs) (all_writes writes only) ∙ sym (writes_more exchanges one)));
          delivered = all_push (λ (x : Exchange). IsDelivered x.fate x.reply x.writes) exchanges one h.delivered a.delivered.delivered;
          in_order = λ earlier call later e is. elim (split_append made writes earlier call later e) as (λ s. IsReadNext answers ends owes before after earlier (exchanges ++ one ∷ [])) [
            | inl old ↦ next_still before now after earlier exchanges one (h.in_order earlier call old.0 old.1 is) going whole a.answered
            | inr new ↦ absurd (false≢true (sym (all_at (λ (x : Call). is_read x.outcome ≡ false) writes new.0 call later new.2 only) ∙ is))
          ];
          read = subst (λ (rest : Option (List ℕ)). Consumes r₀ rest (given (made ++ writes))) (sym kept) (subst (Consumes r₀ r) (sym came) h.read);
          written = subst (Appends c₀ c') (sym (taken-append made writes)) (Appends_append c₀ c c' (taken made) (taken writes) h.written a.delivered.written);
        }

-- the bytes that waited, without the request that they begin with
pub without_first : (size : ℕ) (waited waits : List ℕ) → waits ≡ drop size waited → waited ≡ take size waited ++ waits
without_first size waited waits e = sym (take-append-drop size waited) ∙ ap (λ (xs : List ℕ). take size waited ++ xs) (sym e)

-- ---- reads that go on, and writes

pub on_none : ReadsOn []
on_none = All-nil (λ (call : Call). ends_input call.outcome ≡ false)

pub on_read : (calls : List Call) (buffer : List ℕ) (result : Result ℕ Error) → ReadsOn calls → ends_input (outcomes.Read result) ≡ false → ReadsOn (calls ++ read_call buffer result ∷ [])
on_read calls buffer result h goes = all_push (λ (call : Call). ends_input call.outcome ≡ false) calls (read_call buffer result) h goes

write_goes_on : (outcome : _) → is_read outcome ≡ false → ends_input outcome ≡ false
write_goes_on (outcomes.Read result) h = absurd (false≢true (sym h))
write_goes_on (outcomes.Written result) h = refl

pub on_writes : (calls writes : List Call) → ReadsOn calls → AreWrites writes → ReadsOn (calls ++ writes)
on_writes calls writes h only =
    All-append (λ (call : Call). ends_input call.outcome ≡ false) calls writes h (λ k d lt. write_goes_on _ (only k d lt))

pub whole_none : WritesOn []
whole_none = All-nil (λ (one : Exchange). one.fate ≡ Cut → ⊥)

pub whole_more : (exchanges : List Exchange) (one : Exchange) → WritesOn exchanges → (one.fate ≡ Cut → ⊥) → WritesOn (exchanges ++ one ∷ [])
whole_more exchanges one h uncut = all_push (λ (x : Exchange). x.fate ≡ Cut → ⊥) exchanges one h uncut

-- the last reply was cut
pub cut_at_last : (calls : List Call) (exchanges : List Exchange) (one : Exchange) → WritesOn exchanges → one.fate ≡ Cut → StopsWriting (calls ++ one.writes) (exchanges ++ one ∷ [])
cut_at_last calls exchanges one h cut = record {
  before = exchanges;
  last = one;
  are = refl;
  on = h;
  cut = cut;
  earlier = calls;
  end = refl;
}

-- turns, by what they came to
pub turn_read : (calls : List Call) (buffer : List ℕ) (result : Result ℕ Error) → length (reads_in (calls ++ read_call buffer result ∷ [])) ≡ length (reads_in calls) + 1
turn_read calls buffer result = ap length (reads_in-append calls (read_call buffer result ∷ [])) ∙ (length-append (reads_in calls) (read_call buffer result ∷ []) ∙ omega arith)

pub turn_writes : (calls writes : List Call) → AreWrites writes → length (reads_in (calls ++ writes)) ≡ length (reads_in calls)
turn_writes calls writes only = ap length (reads_in-append calls writes ∙ (ap (λ (xs : List Call). reads_in calls ++ xs) (no_reads writes only) ∙ append-nil (reads_in calls)))

-- ---- the end of the input, or a failed read

nothing_came : (buffer : List ℕ) (result : Result ℕ Error) → ends_input (outcomes.Read result) ≡ true → first_bytes buffer result ≡ []
nothing_came buffer (Ok count) h = let zero : count ≡ 0 = grind (arith, nat_tests, h) in ap (λ (n : ℕ). take n buffer) zero
nothing_came buffer (Err error) h = refl

module _ (calls : List Call) (result : Result ℕ Error) (waited waits : List ℕ) (before after : List Call) (r r' : Option (List ℕ)) (read : HasRead result waited waits before after r r') where
  waits_still : ends_input (outcomes.Read result) ≡ true → waits ≡ waited
  waits_still stops = read.came ∙ (ap (λ (xs : List ℕ). waited ++ xs) (nothing_came read.buffer result stops) ∙ append-nil waited)

  abbrev stops_now : ReadsOn calls → ends_input (outcomes.Read result) ≡ true → StopsReading (calls ++ read_call read.buffer result ∷ []) waits
  stops_now on stops = record {
    earlier = calls;
    last = read_call read.buffer result;
    are = refl;
    on = on;
    ends = stops;
    room = read.room ∙ ap (λ (xs : List ℕ). 135168 - length xs) (sym (waits_still stops));
  }

  module _ (ends owes : Bool) (exchanges : List Exchange) (on : ReadsOn calls) (kept : WritesOn exchanges) (going : IsWaiting ends owes) (none : BeginsNoRequest waited) where
    pub stopped : (fault : Fault) → Received (Err fault) result waits r' → EndsAs (Err fault) ends owes r' (calls ++ read_call read.buffer result ∷ []) exchanges waits
    stopped Memory h = absurd h
    stopped Unframed h = (going, kept, inr (h.0, subst BeginsNoRequest (sym (waits_still h.1)) none, stops_now on h.1, h.2, h.3))
    stopped Read h = (kept, inl (going, subst BeginsNoRequest (sym (waits_still h.0)) none, stops_now on h.0, h.1))
    stopped Write h = absurd h

    pub ended : (how : Ended) → Received (Ok (Some how)) result waits r' → EndsAs (Ok how) ends owes r' (calls ++ read_call read.buffer result ∷ []) exchanges waits
    ended AtEnd h = (going, h.0, kept, stops_now on h.1, h.2)
    ended Gone h = (going, h.0, kept, stops_now on h.1, h.2)
    ended Asked h = absurd h.2
