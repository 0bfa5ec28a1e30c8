-- From the step over the visible facts to the events that a ring stands for.
use Rattle.std.proofs.Common.{◌≡◌, ℕ, ◌+◌, ◌≤◌, Bool, List, [], ◌∷◌, ◌++◌, refl, sym, ap, ◌∙◌, inl, inr, arith}
use Rattle.std.proofs.lemmas.Bool.{cases_Bool}
use Rattle.page_ring.specs.Cut.{Accepted}
use Rattle.page_ring.specs.Events.{Event, Put, Take}
use Rattle.page_ring.specs.Account.{account, after, put_answer, stats_of, readings_of}
use Rattle.page_ring.specs.Shown.{Seen, Shown, StandsFor, shown_by}
use Rattle.page_ring.specs.private.Step.{after_put, put_answer_shown, without_first, without_first_of, stats_shown, readings_shown, accepts_shown}
use Rattle.page_ring.proofs.Bridge.{account-push, account_fair, shown_after_put, shown_after_take}

pub stands_after : (old new : Seen) (events : List Event) (e : Event) → new.pages ≡ old.pages → new.page_bytes ≡ old.page_bytes → new.shown ≡ shown_by old.page_bytes (after old.pages old.page_bytes (account old.pages old.page_bytes events) e) → StandsFor new (events ++ e ∷ [])
unfolding StandsFor
stands_after old new events e p b h = rw (p, b, account-push) h

pub stands_after_put : (old new : Seen) (bytes : List ℕ) (overwrite : Bool) → 2 ≤ old.pages → new.pages ≡ old.pages → new.page_bytes ≡ old.page_bytes → new.shown ≡ after_put old.pages old.page_bytes old.shown bytes overwrite → (events : List Event) → StandsFor old events → StandsFor new (events ++ Put bytes overwrite ∷ [])
unfolding StandsFor
stands_after_put old new bytes overwrite two p b h events s =
    stands_after old new events (Put bytes overwrite) p b
    (h ∙ ap (λ (x : Shown). after_put old.pages old.page_bytes x bytes overwrite) s
    ∙ sym (shown_after_put old.pages old.page_bytes (account old.pages old.page_bytes events) bytes overwrite (omega arith) (account_fair old.pages old.page_bytes events)))

pub stands_after_take : (old new : Seen) → new.pages ≡ old.pages → new.page_bytes ≡ old.page_bytes → new.shown ≡ without_first old.shown → (events : List Event) → StandsFor old events → StandsFor new (events ++ Take ∷ [])
unfolding StandsFor
stands_after_take old new p b h events s =
    stands_after old new events Take p b
    (h ∙ ap without_first s ∙ sym (shown_after_take old.pages old.page_bytes (account old.pages old.page_bytes events)))

pub answer_of_put : (old : Seen) (bytes : List ℕ) (overwrite : Bool) (events : List Event) → StandsFor old events → put_answer_shown old.pages old.page_bytes old.shown bytes overwrite ≡ put_answer old.pages old.page_bytes events bytes overwrite
unfolding StandsFor put_answer_shown put_answer shown_by
answer_of_put old bytes overwrite events s = rw s refl

pub stats_of_shown : (ring : Seen) (events : List Event) → StandsFor ring events → stats_shown ring.shown ≡ stats_of ring.pages ring.page_bytes events
unfolding StandsFor stats_shown stats_of shown_by
stats_of_shown ring events s = rw s refl

pub readings_of_shown : (ring : Seen) (events : List Event) → StandsFor ring events → readings_shown ring.shown ≡ readings_of ring.pages ring.page_bytes events
unfolding StandsFor readings_shown readings_of shown_by
readings_of_shown ring events s = rw s refl

pub offered_after_put : (pages page_bytes : ℕ) (s : Shown) (bytes : List ℕ) (overwrite : Bool) (t : Shown) → t ≡ after_put pages page_bytes s bytes overwrite → t.accepted + t.dropped ≡ s.accepted + s.dropped + 1
unfolding after_put
offered_after_put pages page_bytes s bytes overwrite t e =
    rw e (elim (cases_Bool (accepts_shown pages page_bytes s bytes overwrite)) [
      | inl k ↦ rw k (omega arith)
      | inr k ↦ rw k (omega arith)
    ])

pub stands_same : (old new : Seen) → new.pages ≡ old.pages → new.page_bytes ≡ old.page_bytes → new.shown ≡ old.shown → (events : List Event) → StandsFor old events → StandsFor new events
unfolding StandsFor
stands_same old new p b h events s = rw (p, b) (h ∙ s)

pub offered_after_take : (s t : Shown) → t ≡ without_first s → t.accepted + t.dropped ≡ s.accepted + s.dropped
unfolding without_first
offered_after_take s t e = rw e (offered_without s s.kept)
  where
    offered_without : (s : Shown) (xs : List Accepted) → (without_first_of s xs).accepted + (without_first_of s xs).dropped ≡ s.accepted + s.dropped
    offered_without s [] = refl
    offered_without s (x ∷ xs) = refl
