-- A turn at the lock, in which the book is asked.
use Rattle.std.proofs.Common.{◌≡◌, ◌≢◌, inl, inr, ℕ, ◌+◌, ◌<◌, ◌≤◌, ◌^◌, true, nat_le, nat_lt, List, [], ◌∷◌, ◌++◌, drop, length, All, append-nil, Result, Ok, Err, IfOk, IfErr, OnOk, OnErr, refl, sym, ap, ◌∙◌, subst, arith}
use Rattle.std.proofs.lemmas.List.{drop_at}
use Rattle.std.proofs.lemmas.List.Elements.{filter-append, All-head, All-drop, All-same, All-weaker, All-push}
use Rattle.std.proofs.lemmas.Bool.Decides.{nat_tests}
use Rattle.ticket_lock.specs.Calls.{mine_of, IsDrawn, IsMet, Finds, IsBack, IsWorn, MayLeave}
use Rattle.ticket_lock.specs.Entries.{is_under, entries_under}
use Rattle.ticket_lock.specs.Views.{HasAllNames}
use Rattle.ticket_lock.specs.declared.views.View.{View}
use Rattle.tracer_specification.specs.History.{answer_to, IsLegal}
use Rattle.tracer_specification.specs.LateMemory.{TakesMemoryLate}
use Rattle.tracer_specification.proofs.Unworn.{worn_is_no_answer}
use Rattle.shared_book.specs.Bases.{numbers_of}
use Rattle.shared_book.proofs.SameBases.{numbers_of-determines}
use Rattle.trace_command.specs.Refusals.{OrMemory, IsFoundEarly}
use Rattle.trace_command.specs.Requests.{request_of}
use Rattle.trace_command.specs.Commands.{Command}
use Rattle.trace_command.specs.declared.command.Config.{Config}
use Rattle.trace_command.specs.declared.command.Entry.{Entry}
use Rattle.trace_command.specs.declared.command.Reply.{Reply}
use Rattle.trace_command.specs.declared.refusal.Refusal.{Refusal}
use Rattle.trace_command.specs.declared.refusal.Refusal.TheVariants.{Memory, Worn}
use Rattle.shared_book.specs.private.Turns.{Comes}
use Rattle.shared_book.specs.Asks.{caller_of, AreOthers, GoesOn, IsAhead, Rises, IsDone, IsRefused}

-- an entry under the first name is the pass's own
own_entry : (low end : ℕ) (entry : Entry) → entry.by ≡ low → low < end → entries_under caller_of low end (entry ∷ []) ≡ entry ∷ []
own_entry low end entry by named =
    let above : nat_le low entry.by ≡ true = rw by (grind (arith, nat_tests)) in
    let below : nat_lt entry.by end ≡ true = rw by (grind (arith, nat_tests)) in
    grind (arith, above, below)

-- where all entries are of callers, and none is under all names, there is none
none_of_all : (v : View Entry) (others : List Entry) → HasAllNames v → AreOthers v others → All (λ (e : Entry). e.by < 65536) others → others ≡ []
none_of_all v [] names none callers = refl
none_of_all v (e ∷ others) names none callers =
    let caller : e.by < 65536 = All-head (λ (e : Entry). e.by < 65536) e others callers in
    let above : nat_le v.low e.by ≡ true = rw names.0 (grind (arith, nat_tests)) in
    let below : nat_lt e.by v.end ≡ true = rw names.1 (grind (arith, nat_tests)) in
    absurd (grind (arith, none, above, below))

-- entries below a front are below a later one
pub ahead_of : (front later : ℕ) (entries : List Entry) → front ≤ later → All (λ (e : Entry). e.ticket < front) entries → All (λ (e : Entry). e.ticket < later) entries
ahead_of front later entries order =
    All-weaker (λ (e : Entry). e.ticket < front) (λ (e : Entry). e.ticket < later) (λ e below. omega (arith, below, order)) entries

-- what the lock's history has behind what was seen is of callers
others_are_callers : (seen others found : List Entry) → found ≡ seen ++ others → All (λ (e : Entry). e.by < 65536) found → All (λ (e : Entry). e.by < 65536) others
others_are_callers seen others found is all =
    All-same (λ (e : Entry). e.by < 65536) others (drop (length seen) (seen ++ others)) (sym (drop_at seen others (length seen) refl))
    (All-drop (λ (e : Entry). e.by < 65536) (length seen) (seen ++ others) (All-same (λ (e : Entry). e.by < 65536) (seen ++ others) found (sym is) all))

-- an answer that is a refusal is this one, where the same was told
told_same : (refusal : Refusal) (answer : Result Reply Refusal) → IfErr answer (λ told. ◌≡◌ {A = Result Reply Refusal} (Err refusal) (Err told))
    → IfErr answer (λ told. told ≡ refusal)
told_same refusal (Ok reply) told = tt
told_same refusal (Err other) told = sym (cc)

module _ (v h w : View Entry) (served : ℕ) (drawn : IsDrawn v h served) where
  rises : (left : List Entry) → IsBack h w left → Rises v w
  rises left back = record {
    risen = omega (arith, drawn.risen, back.front);
    all_names = λ all. back.front ∙ drawn.all_names all;
  }

  -- what a turn left is below the front, where what it found is below its ticket
  goes_on : (left : List Entry) → IsBack h w left → All (λ (e : Entry). e.ticket < served + 1) left → GoesOn v w
  goes_on left back below = record {
    low = back.low ∙ drawn.low;
    end = back.end ∙ drawn.end;
    base = back.base ∙ drawn.base;
    front = omega (arith, drawn.risen, back.front);
    ahead = λ known.
        let P : List Entry → ℕ → Type 0 = λ es front. All (λ (e : Entry). e.ticket < front) es in
        subst (λ (es : List Entry). P es w.front) (sym back.seen) (subst (λ (n : ℕ). P left n) (sym (back.front ∙ drawn.front)) below);
  }

  module _ (finds : Finds (λ (e : Entry). e.ticket) caller_of v served h.seen) (config : Config) (base : numbers_of config ≡ v.base) where
    done : (command : Command) (reply : Reply) (entry : Entry) → v.low < v.end → entry.ticket ≡ served → entry.by ≡ v.low → entry.command ≡ command
        → IsBack h w (h.seen ++ entry ∷ []) → answer_to config h.seen command ≡ Ok reply → IsDone v w command reply
    done command reply entry named ticket by of_command back answer = record {
      others = finds.seen.0;
      entry = entry;
      seen = back.seen ∙ ap (λ (es : List Entry). es ++ entry ∷ []) finds.seen.1;
      by_others = finds.seen.2;
      alone = λ names. none_of_all v finds.seen.0 names finds.seen.2 (others_are_callers v.seen finds.seen.0 h.seen finds.seen.1 finds.callers);
      mine =
          let at : mine_of caller_of w ≡ entries_under caller_of v.low v.end (h.seen ++ entry ∷ []) =
          rw (back.low ∙ drawn.low, back.end ∙ drawn.end, back.seen) refl in
          at ∙ filter-append (is_under caller_of v.low v.end) h.seen (entry ∷ [])
          ∙ ap (λ (es : List Entry). es ++ entries_under caller_of v.low v.end (entry ∷ [])) finds.mine
          ∙ ap (λ (es : List Entry). mine_of caller_of v ++ es) (own_entry v.low v.end entry by named);
      done = λ g same.
          let alike : config ≡ g = numbers_of-determines config g (base ∙ sym same) in
          let P : Config → Type 0 = λ k. answer_to k h.seen command ≡ Ok reply in
          let Q : List Entry → Type 0 = λ es. answer_to g es command ≡ Ok reply in
          record { answer = subst Q finds.seen.1 (subst P alike answer); of_caller = by; of_command = of_command };
      ticket = back.front ∙ drawn.front ∙ ap (λ (n : ℕ). n + 1) (sym ticket);
      rises = rises (h.seen ++ entry ∷ []) back;
    }

    refused : (command : Command) (refusal : Refusal) → IsBack h w h.seen
        → (refusal ≢ Memory → answer_to config h.seen command ≡ Err refusal)
        → (IsFoundEarly (answer_to config h.seen command) → answer_to config h.seen command ≡ Err refusal)
        → (TakesMemoryLate (request_of command) → IfErr (answer_to config h.seen command) (λ told. told ≡ refusal))
        → IsRefused v w command refusal
    refused command refusal back answer early late = record {
      others = finds.seen.0;
      seen = back.seen ∙ finds.seen.1;
      by_others = finds.seen.2;
      alone = λ names. none_of_all v finds.seen.0 names finds.seen.2 (others_are_callers v.seen finds.seen.0 h.seen finds.seen.1 finds.callers);
      mine = rw (back.low ∙ drawn.low, back.end ∙ drawn.end, back.seen) finds.mine;
      answer = λ g same memory unworn.
          let alike : config ≡ g = numbers_of-determines config g (base ∙ sym same) in
          let P : Config → Type 0 = λ k. answer_to k w.seen command ≡ Err refusal in
          subst P alike (rw back.seen (answer memory));
      early = λ g same unworn.
          let alike : config ≡ g = numbers_of-determines config g (base ∙ sym same) in
          let P : Config → Type 0 = λ k. IsFoundEarly (answer_to k w.seen command) → answer_to k w.seen command ≡ Err refusal in
          subst P alike (rw back.seen early);
      late_memory = λ g same unworn.
          let alike : config ≡ g = numbers_of-determines config g (base ∙ sym same) in
          let P : Config → Type 0 = λ k. TakesMemoryLate (request_of command) → IfErr (answer_to k w.seen command) (λ told. told ≡ refusal) in
          subst P alike (rw back.seen late);
      rises = λ unworn. rises h.seen back;
      worn = λ is. absurd (worn_is_no_answer config h.seen command (answer (λ memory. cc (is, memory)) ∙ ap (λ (r : Refusal). Err r) is));
    }

-- what a lock finds of entries whose ticket and caller it reads from themselves
pub found_of : {ticket by : Entry → ℕ} → ticket ≡ (λ (e : Entry). e.ticket) → by ≡ caller_of → (v : View Entry) (served : ℕ) (found : List Entry)
    → Finds ticket by v served found → Finds (λ (e : Entry). e.ticket) caller_of v served found
found_of {ticket} {by} tickets callers v served found finds =
    subst (λ (f : Entry → ℕ). Finds (λ (e : Entry). e.ticket) f v served found) callers (subst (λ (f : Entry → ℕ). Finds f by v served found) tickets finds)

-- and what may be left there
pub left_of : {ticket by : Entry → ℕ} → ticket ≡ (λ (e : Entry). e.ticket) → by ≡ caller_of → (v : View Entry) (served : ℕ) (left : List Entry)
    → MayLeave (λ (e : Entry). e.ticket) caller_of v served left → MayLeave ticket by v served left
left_of {ticket} {by} tickets callers v served left may =
    subst (λ (f : Entry → ℕ). MayLeave f by v served left) (sym tickets)
    (subst (λ (f : Entry → ℕ). MayLeave (λ (e : Entry). e.ticket) f v served left) (sym callers) may)

-- and what passes that met have seen
pub met_of : {ticket by : Entry → ℕ} → ticket ≡ (λ (e : Entry). e.ticket) → by ≡ caller_of → (v w m : View Entry) → IsMet ticket by v w m
    → IsMet (λ (e : Entry). e.ticket) (λ (e : Entry). e.by) v w m
met_of {ticket} {by} tickets callers v w m met =
    subst (λ (f : Entry → ℕ). IsMet (λ (e : Entry). e.ticket) f v w m) callers (subst (λ (f : Entry → ℕ). IsMet f by v w m) tickets met)

-- a book, as its configuration and its entries
pub record Kept : Type 0 where
  pub config : Config
  pub entries : List Entry

abbrev pub kept_of : {T : Type 0} → (T → Config) → (T → List Entry) → T → Kept
kept_of made_with entries book = record { config = made_with book; entries = entries book }

pub kept_same : {T : Type 0} (made_with : T → Config) (entries : T → List Entry) (one other : T) → one ≡ other
    → kept_of made_with entries one ≡ kept_of made_with entries other
kept_same {T} made_with entries one other same = ap (λ (book : T). kept_of made_with entries book) same

-- the base is the one that was found, where the configuration is
pub base_same : {T : Type 0} (made_with : T → Config) (base : T → List ℕ) → ((book : T) → base book ≡ numbers_of (made_with book))
    → (held before after : T) → before ≡ held → made_with after ≡ made_with before → base after ≡ base held
base_same made_with base bases held before after lent same = bases after ∙ ap numbers_of same ∙ sym (bases before) ∙ ap base lent

-- The turn as the code takes it: a value of the lock is a book, which is asked under the ticket and the first name.
module _
    (v h w : View Entry) (served ticket by : ℕ) (value before after : Kept) (command : Command) (answered : Result Reply Refusal)
    (named : v.low < v.end)
    (drawn : IsDrawn v h served) (finds : Finds (λ (e : Entry). e.ticket) caller_of v served h.seen)
    (entries : value.entries ≡ h.seen) (base : numbers_of value.config ≡ v.base) (lent : before ≡ value)
    (ticket_is : ticket ≡ served) (by_is : by ≡ h.low)
  where
    base_before : numbers_of before.config ≡ v.base
    base_before = rw lent base

    found : before.entries ≡ h.seen
    found = rw lent entries

    asked_goes_on : OnOk answered (after.entries ≡ before.entries ++ record { ticket = ticket; by = by; command = command } ∷ [])
        → OnErr answered (after.entries ≡ before.entries) → IsBack h w after.entries → GoesOn v w
    asked_goes_on grown same back = goes_on v h w served drawn after.entries back (go answered grown same)
      where
        P : List Entry → Type 0
        P es = All (λ (e : Entry). e.ticket < served + 1) es

        below : P h.seen
        below = ahead_of served (served + 1) h.seen (omega arith) finds.below

        go : (r : Result Reply Refusal) → OnOk r (after.entries ≡ before.entries ++ record { ticket = ticket; by = by; command = command } ∷ [])
            → OnErr r (after.entries ≡ before.entries) → P after.entries
        go (Ok text) more kept =
            let entry : Entry = record { ticket = ticket; by = by; command = command } in
            let left : after.entries ≡ h.seen ++ entry ∷ [] = more ∙ ap (λ (es : List Entry). es ++ entry ∷ []) found in
            subst (λ (es : List Entry). P es) (sym left)
            (All-push (λ (e : Entry). e.ticket < served + 1) h.seen entry below (omega (arith, ticket_is)))
        go (Err refusal) more kept = subst (λ (es : List Entry). P es) (sym (kept ∙ found)) below

    asked_done : OrMemory answered (answer_to before.config before.entries command)
        → OnOk answered (after.entries ≡ before.entries ++ record { ticket = ticket; by = by; command = command } ∷ [])
        → IsBack h w after.entries → IfOk answered (IsDone v w command)
    asked_done reply grown back = go answered reply grown
      where
        go : (r : Result Reply Refusal) → OrMemory r (answer_to before.config before.entries command)
            → OnOk r (after.entries ≡ before.entries ++ record { ticket = ticket; by = by; command = command } ∷ [])
            → IfOk r (IsDone v w command)
        go (Ok text) is more =
            let entry : Entry = record { ticket = ticket; by = by; command = command } in
            let P : List Entry → Type 0 = λ es. IsBack h w es in
            let Q : List Entry → Type 0 = λ es. answer_to before.config es command ≡ Ok text in
            let left : after.entries ≡ h.seen ++ entry ∷ [] = more ∙ ap (λ (es : List Entry). es ++ entry ∷ []) found in
            done v h w served drawn finds before.config base_before command text entry named ticket_is (by_is ∙ drawn.low) refl
            (subst P left back) (subst Q found is)
        go (Err refusal) is more = tt

    asked_refused : OrMemory answered (answer_to before.config before.entries command)
        → (IsFoundEarly (answer_to before.config before.entries command) → answered ≡ answer_to before.config before.entries command)
        → (TakesMemoryLate (request_of command) → IfErr (answer_to before.config before.entries command) (λ told. answered ≡ Err told))
        → OnErr answered (after.entries ≡ before.entries)
        → IsBack h w after.entries → IfErr answered (IsRefused v w command)
    asked_refused reply early late same back = go answered reply early late same
      where
        go : (r : Result Reply Refusal) → OrMemory r (answer_to before.config before.entries command)
            → (IsFoundEarly (answer_to before.config before.entries command) → r ≡ answer_to before.config before.entries command)
            → (TakesMemoryLate (request_of command) → IfErr (answer_to before.config before.entries command) (λ told. r ≡ Err told))
            → OnErr r (after.entries ≡ before.entries) → IfErr r (IsRefused v w command)
        go (Ok text) is first late kept = tt
        go (Err refusal) is first late kept =
            let P : List Entry → Type 0 = λ es. IsBack h w es in
            let Q : List Entry → Type 0 = λ es. refusal ≢ Memory → answer_to before.config es command ≡ Err refusal in
            let R : List Entry → Type 0 = λ es. IsFoundEarly (answer_to before.config es command) → answer_to before.config es command ≡ Err refusal in
            let S : List Entry → Type 0 = λ es. TakesMemoryLate (request_of command) → IfErr (answer_to before.config es command) (λ told. told ≡ refusal) in
            refused v h w served drawn finds before.config base_before command refusal
            (subst P (kept ∙ found) back) (subst Q found is) (subst R found (λ is_early. sym (first is_early)))
            (subst S found (λ is_late. told_same refusal (answer_to before.config before.entries command) (late is_late)))

    -- the book is asked under a ticket above all of its own
    pub asked_above : All (λ (e : Entry). e.ticket < ticket) before.entries
    asked_above =
        let P : List Entry → ℕ → Type 0 = λ es n. All (λ (e : Entry). e.ticket < n) es in
        subst (λ (es : List Entry). P es ticket) (sym found) (subst (λ (n : ℕ). P h.seen n) (sym ticket_is) finds.below)

    -- what it leaves may be left
    pub asked_leaves : OnOk answered (after.entries ≡ before.entries ++ record { ticket = ticket; by = by; command = command } ∷ [])
        → OnErr answered (after.entries ≡ before.entries) → MayLeave (λ (e : Entry). e.ticket) caller_of h served after.entries
    asked_leaves grown same = go answered grown same
      where
        go : (r : Result Reply Refusal) → OnOk r (after.entries ≡ before.entries ++ record { ticket = ticket; by = by; command = command } ∷ [])
            → OnErr r (after.entries ≡ before.entries) → MayLeave (λ (e : Entry). e.ticket) caller_of h served after.entries
        go (Ok text) more kept =
            let entry : Entry = record { ticket = ticket; by = by; command = command } in
            inr (entry, more ∙ ap (λ (es : List Entry). es ++ entry ∷ []) found, ticket_is, by_is)
        go (Err refusal) more kept = inl (kept ∙ found)

    -- it stays legal
    asked_legal : after.config ≡ before.config → IsLegal after.config after.entries → IsBack h w after.entries
        → (g : Config) → numbers_of g ≡ v.base → IsLegal g w.seen
    asked_legal same legal back g is =
        let alike : after.config ≡ g = same ∙ numbers_of-determines before.config g (base_before ∙ sym is) in
        subst (λ (es : List Entry). IsLegal g es) (sym back.seen) (subst (λ (k : Config). IsLegal k after.entries) alike legal)

    -- all that the turn comes to
    pub asked_comes : OrMemory answered (answer_to before.config before.entries command)
        → (IsFoundEarly (answer_to before.config before.entries command) → answered ≡ answer_to before.config before.entries command)
        → (TakesMemoryLate (request_of command) → IfErr (answer_to before.config before.entries command) (λ told. answered ≡ Err told))
        → OnOk answered (after.entries ≡ before.entries ++ record { ticket = ticket; by = by; command = command } ∷ [])
        → OnErr answered (after.entries ≡ before.entries) → after.config ≡ before.config → IsLegal after.config after.entries
        → IsBack h w after.entries → Comes v w command answered
    asked_comes reply early late grown kept same legal back = record {
      goes_on = asked_goes_on grown kept back;
      done = asked_done reply grown back;
      refused = asked_refused reply early late kept back;
      legal = λ g is _. asked_legal same legal back g is;
    }

-- all tickets are drawn: the front is at its end
pub worn_goes_on : (v w : View Entry) → v.front ≤ 2 ^ 63 → IsWorn v w → GoesOn v w
worn_goes_on v w bounded worn = record {
  low = ap (λ (x : View Entry). x.low) worn.same;
  end = ap (λ (x : View Entry). x.end) worn.same;
  base = ap (λ (x : View Entry). x.base) worn.same;
  front = subst (λ (n : ℕ). v.front ≤ n) (sym (ap (λ (x : View Entry). x.front) worn.same)) bounded;
  ahead = λ known. subst (λ (x : View Entry). IsAhead x) (sym worn.same) (ahead_of v.front (2 ^ 63) v.seen bounded known);
}

-- all tickets are drawn: nothing was seen, and nobody was asked
pub asked_worn : (v w : View Entry) (command : Command) → IsWorn v w → IsRefused v w command Worn
asked_worn v w command worn = record {
  others = [];
  seen = ap (λ (x : View Entry). x.seen) worn.same ∙ sym (append-nil v.seen);
  by_others = refl;
  alone = λ names. refl;
  mine = ap (λ (x : View Entry). mine_of caller_of x) worn.same;
  answer = λ g same memory unworn. absurd (unworn refl);
  early = λ g same unworn. absurd (unworn refl);
  late_memory = λ g same unworn. absurd (unworn refl);
  rises = λ unworn. absurd (unworn refl);
  worn = λ is. worn;
}

-- all tickets are drawn: what was seen stays legal
pub worn_legal : (v w : View Entry) → IsWorn v w → (g : Config) → IsLegal g v.seen → IsLegal g w.seen
worn_legal v w worn g = subst (λ (es : List Entry). IsLegal g es) (sym (ap (λ (x : View Entry). x.seen) worn.same))
