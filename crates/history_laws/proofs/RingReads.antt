-- What reads leave of a ring's counts.
use Rattle.std.proofs.Common.{◌≡◌, Bool, ℕ, zero, suc, ◌+◌, ◌-◌, List, [], ◌∷◌, ◌++◌, length, replicate, refl, sym, ap, ◌∙◌, subst, arith, length-append}
use Rattle.std.specs.List.{count_by}
use Rattle.std.proofs.lemmas.List.{append-nil, append_assoc}
use Rattle.page_ring.specs.Account.{Account, account, kept, next_number, readings_from, readings_of, stats_of}
use Rattle.page_ring.specs.Cut.{Accepted}
use Rattle.page_ring.specs.Events.{Event, Put, Take}
use Rattle.page_ring.specs.Laws.{is_put, LeastIsRead}
use Rattle.history_laws.proofs.KeptAfter.{read-is, taken-put}
use Rattle.history_laws.proofs.RingCounts.{puts-append}

-- ---- the counts

pub overrun-is : (pages page_bytes : ℕ) (events : List Event)
    → let a = account pages page_bytes events in
    (stats_of pages page_bytes events).overrun ≡ length a.accepted - length (kept page_bytes a) - length a.taken
unfolding stats_of
overrun-is pages page_bytes events = refl

pub read-count : (pages page_bytes : ℕ) (events : List Event) → (stats_of pages page_bytes events).read ≡ length (account pages page_bytes events).taken
unfolding stats_of
read-count pages page_bytes events = refl

length-readings_from : (next : ℕ) (records : List Accepted) → length (readings_from next records) ≡ length records
length-readings_from next [] = refl
length-readings_from next (r ∷ records) = ap suc (length-readings_from (r.number + 1) records)

pub readings-count : (pages page_bytes : ℕ) (events : List Event)
    → length (readings_of pages page_bytes events) ≡ length (kept page_bytes (account pages page_bytes events))
unfolding readings_of
readings-count pages page_bytes events =
    let a = account pages page_bytes events in length-readings_from (next_number a) (kept page_bytes a)

-- a put consumes none
pub read-put : (pages page_bytes : ℕ) (events : List Event) (bytes : List ℕ) (overwrite : Bool)
    → (stats_of pages page_bytes (events ++ Put bytes overwrite ∷ [])).read ≡ (stats_of pages page_bytes events).read
read-put pages page_bytes events bytes overwrite =
    read-count pages page_bytes (events ++ Put bytes overwrite ∷ []) ∙ ap length (taken-put pages page_bytes events bytes overwrite)
    ∙ sym (read-count pages page_bytes events)

-- ---- reads

-- what reads leave: how many were overwritten, how many are kept or consumed, and how many were put
pub record IsReadOnly (pages page_bytes : ℕ) (old new : List Event) : Type 0 where
  pub overrun : (stats_of pages page_bytes new).overrun ≡ (stats_of pages page_bytes old).overrun
  pub unlost : length (readings_of pages page_bytes new) + (stats_of pages page_bytes new).read
      ≡ length (readings_of pages page_bytes old) + (stats_of pages page_bytes old).read
  pub puts : count_by is_put new ≡ count_by is_put old

pub same-events : (pages page_bytes : ℕ) (old new : List Event) → new ≡ old → IsReadOnly pages page_bytes old new
same-events pages page_bytes old new same = record {
  overrun = ap (λ (es : List Event). (stats_of pages page_bytes es).overrun) same;
  unlost = ap (λ (es : List Event). length (readings_of pages page_bytes es) + (stats_of pages page_bytes es).read) same;
  puts = ap (count_by is_put) same;
}

pub reads-then : (pages page_bytes : ℕ) (old middle new : List Event) → IsReadOnly pages page_bytes old middle → IsReadOnly pages page_bytes middle new
    → IsReadOnly pages page_bytes old new
reads-then pages page_bytes old middle new first second = record {
  overrun = second.overrun ∙ first.overrun;
  unlost = second.unlost ∙ first.unlost;
  puts = second.puts ∙ first.puts;
}

-- what one read leaves of an account
record IsTaken (page_bytes : ℕ) (a b : Account) : Type 0 where
  overrun : length b.accepted - length (kept page_bytes b) - length b.taken ≡ length a.accepted - length (kept page_bytes a) - length a.taken
  unlost : length (kept page_bytes b) + length b.taken ≡ length (kept page_bytes a) + length a.taken

one-taken : LeastIsRead → (pages page_bytes : ℕ) (events : List Event)
    → IsTaken page_bytes (account pages page_bytes events) (account pages page_bytes (events ++ Take ∷ []))
one-taken least pages page_bytes events = by (kept page_bytes a) refl
  where
    a : Account
    a = account pages page_bytes events

    by : (rs : List Accepted) → kept page_bytes a ≡ rs → IsTaken page_bytes a (account pages page_bytes (events ++ Take ∷ []))
    by [] e = subst (IsTaken page_bytes a) (sym (read-is pages page_bytes events [] e)) (record { overrun = refl; unlost = refl })
    by (r ∷ rest) e =
        let b : Account = record a { taken = a.taken ++ r ∷ [] } in
        let is : account pages page_bytes (events ++ Take ∷ []) ≡ b = read-is pages page_bytes events (r ∷ rest) e in
        let left : length (kept page_bytes b) ≡ length rest = ap length (ap (kept page_bytes) (sym is) ∙ (least pages page_bytes events r rest e).kept_after) in
        let was : length (kept page_bytes a) ≡ length (r ∷ rest) = ap length e in
        let one : length (a.taken ++ r ∷ []) ≡ length a.taken + 1 = rw length-append (omega arith) in
        subst (IsTaken page_bytes a) (sym is) (record { overrun = omega (arith, left, was, one); unlost = omega (arith, left, was, one) })

one-read : LeastIsRead → (pages page_bytes : ℕ) (events : List Event) → IsReadOnly pages page_bytes events (events ++ Take ∷ [])
one-read least pages page_bytes events =
    let taken = one-taken least pages page_bytes events in
    let now = events ++ Take ∷ [] in
    record {
      overrun = overrun-is pages page_bytes now ∙ taken.overrun ∙ sym (overrun-is pages page_bytes events);
      unlost = omega (
        arith,
        taken.unlost,
        readings-count pages page_bytes now,
        readings-count pages page_bytes events,
        read-count pages page_bytes now,
        read-count pages page_bytes events,
      );
      puts = puts-append events (Take ∷ []) ∙ omega arith;
    }

pub reads-only : LeastIsRead → (pages page_bytes : ℕ) (events : List Event) (reads : ℕ) → IsReadOnly pages page_bytes events (events ++ replicate reads Take)
reads-only least pages page_bytes events zero = same-events pages page_bytes events (events ++ []) (append-nil events)
reads-only least pages page_bytes events (suc reads) =
    subst (IsReadOnly pages page_bytes events) (append_assoc events (Take ∷ []) (replicate reads Take))
    (reads-then pages page_bytes events (events ++ Take ∷ []) ((events ++ Take ∷ []) ++ replicate reads Take)
    (one-read least pages page_bytes events) (reads-only least pages page_bytes (events ++ Take ∷ []) reads))
