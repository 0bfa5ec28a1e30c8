-- A reply written in several writes.
use Rattle.std.proofs.Common.{◌≡◌, ℕ, ◌+◌, ◌-◌, ◌<◌, ◌≤◌, ◌^◌, ltb, Bool, true, false, inl, inr, List, [], ◌∷◌, ◌++◌, length, take, drop, Option, Ok, Err, refl, sym, ap, subst, ◌∙◌, arith, append_assoc, length-append, take-append-drop}
use Rattle.std.proofs.lemmas.Bool.Decides.{nat_tests}
use Rattle.std.proofs.lemmas.List.{append-nil}
use Rattle.std.proofs.lemmas.List.Elements.{All-nil}
use Rattle.std.specs.Io.KnownBytes.{Appends}
use Rattle.std.specs.List.{All}
use Rattle.std.specs.declared.io.Error.{Error}
use Rattle.fuse_serve.proofs.CallLemmas.{AreWrites, all_push, no_call, split_push, taken-append, taken_one}
use Rattle.fuse_serve.proofs.Transfers.{Appends_append}
use Rattle.fuse_serve.specs.Calls.{Call, goes_on, is_read, taken, write_call}
use Rattle.fuse_serve.specs.Causes.{cause_of}
use Rattle.fuse_serve.specs.Deliveries.{AreOffered, CutsFor, EndsIn, LastOf}
use Rattle.fuse_serve.specs.declared.cause.Cause.{Cause}
use Rattle.fuse_serve.specs.declared.cause.Cause.TheVariants.{NoEntry, Interrupted, NoDevice, Other}
use Rattle.fuse_serve.specs.declared.deliver.Step.TheVariants.{Last}
use Rattle.fuse_serve.specs.declared.fate.Fate.{Fate}
use Rattle.fuse_serve.specs.declared.fate.Fate.TheVariants.{Written, Dropped, Cut}
use Rattle.fuse_serve.specs.private.Steps.{CutsNow, Does}
use Rattle.fuse_serve.specs.private.Turns.{HasDelivered}

abbrev pub GoOn : List Call → Type 0
GoOn writes = All (λ (call : Call). goes_on call.outcome ≡ true) writes

pub rest_some : (xs : List ℕ) → 0 < length xs → xs ≡ [] → ⊥
rest_some xs h e = omega (arith, h, ap length e)

-- so much of a reply was written, by these writes
pub record IsBegun (reply rest : List ℕ) (writes calls calls' : List Call) (contents contents' : Option (List ℕ)) : Type 0 where
  pub made : calls' ≡ calls ++ writes
  pub split : reply ≡ taken writes ++ rest
  pub writes_only : AreWrites writes
  pub offered : AreOffered reply writes
  pub go_on : GoOn writes
  pub written : Appends contents contents' (taken writes)

pub begun_none : (reply : List ℕ) (calls : List Call) (contents : Option (List ℕ)) → Appends contents contents [] → IsBegun reply reply [] calls calls contents contents
begun_none reply calls contents kept = record {
  made = sym (append-nil calls);
  split = refl;
  writes_only = All-nil (λ (call : Call). is_read call.outcome ≡ false);
  offered = λ earlier one later e. absurd (no_call earlier one later e);
  go_on = All-nil (λ (call : Call). goes_on call.outcome ≡ true);
  written = kept;
}

module _ (reply rest : List ℕ) (writes calls calls' : List Call) (contents contents' : Option (List ℕ)) (begun : IsBegun reply rest writes calls calls' contents contents') (some : rest ≡ [] → ⊥) where
  -- one more write is offered all that is left
  offered_more : (one : Call) → one.bytes ≡ rest → AreOffered reply (writes ++ one ∷ [])
  offered_more one all earlier call later e =
      elim (split_push writes one earlier call later e) as (λ s. (reply ≡ taken earlier ++ call.bytes) × (call.bytes ≡ [] → ⊥)) [
        | inl h ↦ begun.offered earlier call h.0 h.1
        | inr h ↦ subst (λ (x : Call). (reply ≡ taken earlier ++ x.bytes) × (x.bytes ≡ [] → ⊥)) (sym h.1)
            (begun.split ∙ (ap (λ (xs : List ℕ). taken writes ++ xs) (sym all) ∙ ap (λ (xs : List Call). taken xs ++ one.bytes) (sym h.0)), λ none. some (sym all ∙ none))
      ]

  taken_more : (one : Call) → taken (writes ++ one ∷ []) ≡ taken writes ++ taken (one ∷ [])
  taken_more one = taken-append writes (one ∷ [])

  module _ (after : List Call) (contents'' : Option (List ℕ)) where
    -- a write took some of the rest, perhaps all of it
    pub begun_took : (count : ℕ) → 0 < count → count ≤ length rest → after ≡ calls' ++ write_call rest (Ok count) ∷ [] → Appends contents' contents'' (take count rest)
        → IsBegun reply (drop count rest) (writes ++ write_call rest (Ok count) ∷ []) calls after contents contents''
    begun_took count more fits made written =
        let one : Call = write_call rest (Ok count) in
        let all : taken (writes ++ one ∷ []) ≡ taken writes ++ take count rest = taken_more one ∙ ap (λ (xs : List ℕ). taken writes ++ xs) (taken_one one) in record {
          made = made ∙ (ap (λ (xs : List Call). xs ++ one ∷ []) begun.made ∙ append_assoc calls writes (one ∷ []));
          split = begun.split ∙ (ap (λ (xs : List ℕ). taken writes ++ xs) (sym (take-append-drop count rest)) ∙ (sym (append_assoc (taken writes) (take count rest) (drop count rest)) ∙ ap (λ (xs : List ℕ). xs ++ drop count rest) (sym all)));
          writes_only = all_push (λ (call : Call). is_read call.outcome ≡ false) writes one begun.writes_only refl;
          offered = offered_more one refl;
          go_on = all_push (λ (call : Call). goes_on call.outcome ≡ true) writes one begun.go_on (grind (arith, nat_tests, more));
          written = subst (Appends contents contents'') (sym all) (Appends_append contents contents' contents'' (taken writes) (take count rest) begun.written written);
        }

    taken_same : (error : Error) → taken (writes ++ write_call rest (Err error) ∷ []) ≡ taken writes
    taken_same error = taken_more (write_call rest (Err error)) ∙ append-nil (taken writes)

    same : (more : List Call) → taken (writes ++ more) ≡ taken writes → Appends contents' contents'' [] → Appends contents contents'' (taken (writes ++ more))
    same more e kept = subst (Appends contents contents'') (append-nil (taken writes) ∙ sym e) (Appends_append contents contents' contents'' (taken writes) [] begun.written kept)

    signal : (error : Error) → cause_of error ≡ Interrupted → goes_on (write_call rest (Err error)).outcome ≡ true
    signal error cause = rw cause refl

    -- a signal came first
    pub begun_again : (error : Error) → after ≡ calls' ++ write_call rest (Err error) ∷ [] → cause_of error ≡ Interrupted → Appends contents' contents'' []
        → IsBegun reply rest (writes ++ write_call rest (Err error) ∷ []) calls after contents contents''
    begun_again error made cause kept =
        let one : Call = write_call rest (Err error) in record {
          made = made ∙ (ap (λ (xs : List Call). xs ++ one ∷ []) begun.made ∙ append_assoc calls writes (one ∷ []));
          split = begun.split ∙ ap (λ (xs : List ℕ). xs ++ rest) (sym (taken_same error));
          writes_only = all_push (λ (call : Call). is_read call.outcome ≡ false) writes one begun.writes_only refl;
          offered = offered_more one refl;
          go_on = all_push (λ (call : Call). goes_on call.outcome ≡ true) writes one begun.go_on (signal error cause);
          written = same (one ∷ []) (taken_same error) kept;
        }

    -- a write was the reply's last
    ended : (fate : Fate) (one : Call) → one.bytes ≡ rest → is_read one.outcome ≡ false → taken (writes ++ one ∷ []) ≡ taken writes → after ≡ calls' ++ one ∷ []
        → Appends contents' contents'' [] → EndsIn fate reply (writes ++ one ∷ []) → HasDelivered fate reply calls after contents contents''
    ended fate one all is none made kept ends = record {
      writes = writes ++ one ∷ [];
      made = made ∙ (ap (λ (xs : List Call). xs ++ one ∷ []) begun.made ∙ append_assoc calls writes (one ∷ []));
      delivered = record {
        writes_only = all_push (λ (call : Call). is_read call.outcome ≡ false) writes one begun.writes_only is;
        offered = offered_more one all;
        ends = ends;
      };
      written = same (one ∷ []) none kept;
    }

    abbrev last : (one : Call) → LastOf (writes ++ one ∷ [])
    last one = record { earlier = writes; last = one; are = refl; go_on = begun.go_on }

    none : (xs : List ℕ) → length xs ≡ 0 → xs ≡ []
    none [] h = refl
    none (x ∷ xs) h = absurd (omega (arith, h))

    module _ (is_begun : Bool) (begins : is_begun ≡ ltb (length rest) (length reply)) where
      lengths : length reply ≡ length (taken writes) + length rest
      lengths = ap length begun.split ∙ length-append (taken writes) rest

      begun_some : is_begun ≡ true → taken writes ≡ [] → ⊥
      begun_some p e = let nothing : length (taken writes) ≡ 0 = ap length e in grind (arith, nat_tests, lengths, begins, p, nothing)

      cuts : (cause : Cause) → CutsNow is_begun cause → (so_many : ℕ) → CutsFor cause (taken writes) so_many
      cuts NoEntry h so_many = begun_some h
      cuts Interrupted h so_many = absurd h
      cuts NoDevice h so_many = tt
      cuts Other h so_many = tt

      -- the last write of a reply
      pub finished : (fate : Fate) → Does (Last fate) is_begun rest calls' after contents' contents'' → HasDelivered fate reply calls after contents contents''
      finished Written does = absurd does
      finished Dropped does =
          let one : Call = write_call rest (Err does.1) in
          let before : taken writes ≡ [] = none (taken writes) (let h = does.0 in grind (arith, nat_tests, lengths, begins, h)) in
          ended Dropped one refl refl (taken_same does.1) does.2 does.4 (last one, before, (does.1, refl, does.3))
      finished Cut does =
          elim does.0 as (λ s. HasDelivered Cut reply calls after contents contents'') [
            | inl made ↦ ended Cut (write_call rest (Ok 0)) refl refl (taken_more (write_call rest (Ok 0)) ∙ append-nil (taken writes)) made does.1 (last (write_call rest (Ok 0)), inl refl)
            | inr h ↦ ended Cut (write_call rest (Err h.0)) refl refl (taken_same h.0) h.1 does.1
                (last (write_call rest (Err h.0)), inr (h.0, refl, cuts (cause_of h.0) h.2 (length (writes ++ write_call rest (Err h.0) ∷ []))))
          ]

    -- after the last signal that is waited for
    pub given_up : (error : Error) → after ≡ calls' ++ write_call rest (Err error) ∷ [] → cause_of error ≡ Interrupted → Appends contents' contents'' [] → 2 ^ 64 - 1 ≤ length writes
        → HasDelivered Cut reply calls after contents contents''
    given_up error made cause kept many =
        let one : Call = write_call rest (Err error) in
        let more : length (writes ++ one ∷ []) ≡ length writes + 1 = length-append writes (one ∷ []) ∙ omega arith in
        ended Cut one refl refl (taken_same error) made kept
        (last one, inr (error, refl, subst (λ (cause : Cause). CutsFor cause (taken writes) (length (writes ++ one ∷ []))) (sym cause) (omega (arith, many, more))))

-- nothing is left
pub finished_whole : (reply rest : List ℕ) (writes calls calls' : List Call) (contents contents' : Option (List ℕ)) → IsBegun reply rest writes calls calls' contents contents' → rest ≡ []
    → HasDelivered Written reply calls calls' contents contents'
finished_whole reply rest writes calls calls' contents contents' begun nothing = record {
  writes = writes;
  made = begun.made;
  delivered = record {
    writes_only = begun.writes_only;
    offered = begun.offered;
    ends = (sym (begun.split ∙ (ap (λ (xs : List ℕ). taken writes ++ xs) nothing ∙ append-nil (taken writes))), begun.go_on);
  };
  written = begun.written;
}
