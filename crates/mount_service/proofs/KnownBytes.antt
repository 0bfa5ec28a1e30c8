-- Services, by what their reads gave and their writes took.
use Rattle.std.proofs.Common.{◌≡◌, ◌≢◌, ℕ, Bool, List, [], ◌∷◌, ◌++◌, Option, Some, None, Ok, refl, sym, ap, subst, ◌∙◌}
use Rattle.std.proofs.lemmas.List.{append-nil}
use Rattle.std.specs.List.{All, concat, flat_map}
use Rattle.std.specs.Io.KnownBytes.{Appends, Consumes, IsAtEnd}
use Rattle.fuse_serve.proofs.CallLemmas.{writes_take}
use Rattle.fuse_serve.proofs.CutLemmas.{asked_are_served}
use Rattle.fuse_serve.proofs.ReplyLemmas.{all_written, none_dropped}
use Rattle.fuse_serve.specs.Calls.{Call, FailedFor, given, taken}
use Rattle.fuse_serve.specs.Endings.{EndsAs, WritesOn}
use Rattle.fuse_serve.specs.Exchanges.{Exchange, asked}
use Rattle.fuse_serve.specs.declared.cause.Cause.TheVariants.{NoEntry}
use Rattle.fuse_serve.specs.declared.fault.Ended.{Ended}
use Rattle.fuse_serve.specs.declared.fault.Ended.TheVariants.{AtEnd, Gone, Asked}
use Rattle.mount_service.specs.TracerLaws.{CallsAreServed, KnownBytesAreServed, told}
use Rattle.mount_service.specs.TracerServices.{has_destroy, owes_after}

joined : (exchanges : List Exchange) → flat_map (λ (one : Exchange). one.reply) exchanges ≡ told exchanges
joined [] = refl
joined (one ∷ more) = ap (λ (xs : List ℕ). one.reply ++ xs) (joined more)

-- a service that was not asked to end has no bytes left and cut no reply
quiet_end : (how : Ended) (ends owes : Bool) (remaining : Option (List ℕ)) (calls : List Call) (exchanges : List Exchange) (left : List ℕ) → how ≢ Asked
    → EndsAs (Ok how) ends owes remaining calls exchanges left → (left ≡ []) × WritesOn exchanges
quiet_end AtEnd ends owes remaining calls exchanges left on ended = (ended.1, ended.2)
quiet_end Gone ends owes remaining calls exchanges left on ended = (ended.1, ended.2)
quiet_end Asked ends owes remaining calls exchanges left on ended = absurd (on refl)

pub calls_are_served : CallsAreServed
calls_are_served g requests old new exchanges left after serving how whole gave on ended uninterrupted =
    let quiet = quiet_end how (has_destroy exchanges) (owes_after g after) new.remaining serving.calls exchanges left on ended in
    let all : asked exchanges ≡ concat requests =
    sym (append-nil (asked exchanges)) ∙ (ap (λ (xs : List ℕ). asked exchanges ++ xs) (sym quiet.0) ∙ (sym serving.gave ∙ gave)) in
    let P : Call → Type 0 = λ call. FailedFor NoEntry call.outcome → ⊥ in
    let written = none_dropped exchanges serving.delivered quiet.1 (subst (All P) serving.took uninterrupted) in (
      serving.served,
      asked_are_served requests exchanges whole serving.whole all,
      writes_take serving.calls ∙ (ap taken serving.took ∙ (all_written exchanges serving.delivered written ∙ joined exchanges)),
    )

grown : (held more : List ℕ) (new : Option (List ℕ)) → Appends (Some held) new more → new ≡ Some (held ++ more)
grown held more None h = absurd h
grown held more (Some ys) h = ap Some h

-- at its end a reader gave all that it had
gave_all : (requests gave : List ℕ) (new : Option (List ℕ)) → Consumes (Some requests) new gave → IsAtEnd new → gave ≡ requests
gave_all requests gave None h end = absurd h
gave_all requests gave (Some ys) h end = sym (h ∙ (ap (λ (xs : List ℕ). gave ++ xs) end ∙ append-nil gave))

pub known_bytes : KnownBytesAreServed
known_bytes g requests held old new exchanges left after serving whole has holds ended uninterrupted =
    let gave : given serving.calls ≡ concat requests =
    gave_all (concat requests) (given serving.calls) new.remaining (subst (λ (r : Option (List ℕ)). Consumes r new.remaining (given serving.calls)) has serving.read) ended.4.1 in
    let all = calls_are_served g requests old new exchanges left after serving AtEnd whole gave (λ same. absurd (cc)) ended uninterrupted in (
      all.0,
      all.1,
      grown held (taken serving.calls) new.contents (subst (λ (o : Option (List ℕ)). Appends o new.contents (taken serving.calls)) holds serving.written)
          ∙ ap (λ (xs : List ℕ). Some (held ++ xs)) all.2,
    )
