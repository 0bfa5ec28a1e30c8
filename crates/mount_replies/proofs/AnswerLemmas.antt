-- What answers may be.
use Rattle.std.proofs.Common.{◌≡◌, ◌≢◌, inl, inr, Bool, true, false, List, Result, Ok, Err, IsErr, refl, sym, subst}
use Rattle.trace_command.specs.Requests.{Request}
use Rattle.trace_command.specs.declared.command.Reply.{Reply as Answer}
use Rattle.trace_command.specs.declared.refusal.Refusal.{Refusal}
use Rattle.trace_command.specs.declared.refusal.Refusal.TheVariants.{Memory}
use Rattle.tracer.specs.Lives.{live_answer}
use Rattle.mount_replies.specs.Mounted.{IsAnswered, IsAnsweredNoting, IsLineAnswered, IsNote, MayAnswer}
use Rattle.mount_replies.specs.Services.{Terms}
use Rattle.mount_replies.specs.Steps.{Noting}

-- Memory may be
memory-may : (g : Terms) (past : List Request) (request : Request) (answer : Result Answer Refusal) → answer ≡ Err Memory → MayAnswer g past request answer
memory-may g past request answer is = subst (MayAnswer g past request) (sym is) (λ other. absurd (other refl))

pub may-noting : (g : Terms) (past : List Request) (request : Request) (takes : Bool) (noting : Result Answer Refusal → Noting) (answer : Result Answer Refusal)
    → IsAnsweredNoting g past request takes noting answer → MayAnswer g past request answer
may-noting g past request takes noting answer (inl answered) = answered.reply
may-noting g past request takes noting answer (inr unnoted) = memory-may g past request answer unnoted.0

pub may-line : (g : Terms) (past : List Request) (request : Request) (answer : Result Answer Refusal) → IsLineAnswered g past request answer
    → MayAnswer g past request answer
may-line g past request answer (inl answered) = answered.reply
may-line g past request answer (inr unnoted) = memory-may g past request answer unnoted.0

-- the one that is given
pub own-answer : (answer : Result Answer Refusal) (g : Terms) (past : List Request) (request : Request) → live_answer g.config past request ≡ answer
    → IsAnswered g past request answer
own-answer (Ok answer) g past request is = record { reply = is; takes_none = λ none. sym is }
own-answer (Err refusal) g past request is = record { reply = λ other. is; takes_none = λ none. sym is }

-- a refusal may be Memory where there is none to note it
pub unnoted-answer : (g : Terms) (past : List Request) (request : Request) (noting : Result Answer Refusal → Noting) (refusal : Refusal)
    → IsAnswered g past request (Err refusal) → (refusal ≢ Memory → IsNote (noting (Err refusal))) → IsAnsweredNoting g past request false noting (Err Memory)
unnoted-answer g past request noting Memory answered note = inl answered
unnoted-answer g past request noting refusal answered note =
    let other : refusal ≢ Memory = λ same. absurd (cc) in
    inr (refl, inl (subst (λ (r : Result Answer Refusal). IsNote (noting r)) (sym (answered.reply other)) (note other)))

-- or for what is done beside it
pub takes-more : (g : Terms) (past : List Request) (request : Request) (noting : Result Answer Refusal → Noting) (answer : Result Answer Refusal)
    → IsAnsweredNoting g past request false noting answer → IsAnsweredNoting g past request true noting answer
takes-more g past request noting answer (inl answered) = inl answered
takes-more g past request noting answer (inr unnoted) = inr (unnoted.0, inr refl)

-- the refusal of a line may be Memory likewise
pub unnoted-line : (g : Terms) (past : List Request) (request : Request) (refusal : Refusal) → IsLineAnswered g past request (Err refusal)
    → IsLineAnswered g past request (Err Memory)
unnoted-line g past request refusal (inr unnoted) = inr (refl, unnoted.1)
unnoted-line g past request Memory (inl answered) = inl answered
unnoted-line g past request refusal (inl answered) =
    inr (refl, subst (λ (r : Result Answer Refusal). IsErr r) (sym (answered.reply (λ same. absurd (cc)))) refl)
