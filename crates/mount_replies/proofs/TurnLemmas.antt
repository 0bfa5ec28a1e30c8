-- Turns one after another, and the step that a call of the program is.
use Rattle.std.proofs.Common.{◌≡◌, inl, ℕ, ◌<◌, Bool, true, false, nat_lt, List, [], ◌∷◌, length, Some, None, Result, Ok, Err, refl, sym, ap, subst, arith, ltb-true}
use Rattle.std.specs.List.{All}
use Rattle.std.proofs.lemmas.List.Elements.{All-cons, All-nil}
use Rattle.fuse_wire.specs.declared.reply.Reply.TheVariants as replies
use Rattle.trace_command.specs.Requests.{Emission, MakeInstance, ReadFile, RemoveInstance, Request, WriteFile}
use Rattle.trace_command.specs.declared.command.Config.{Config}
use Rattle.trace_command.specs.declared.command.Reply.{Reply as Answer}
use Rattle.trace_command.specs.declared.refusal.Refusal.{Refusal}
use Rattle.tracer_specification.specs.History.{answer_with_room, unless_full}
use Rattle.tracer.specs.Lives.{limited_answer, live_answer, most_done}
use Rattle.tracer.proofs.Limits.{limited-done}
use Rattle.mount_replies.specs.Calls.{CallFits, Called, Exchanged, IsTurned, ServingIsTakingTurns, TakesTurns, Turn, noting_called, turns_of}
use Rattle.mount_replies.specs.Mounted.{Does, Serves}
use Rattle.mount_replies.specs.Services.{Service, Terms, scene_of}
use Rattle.mount_replies.specs.Steps.{AsksNoting, Step, told}

-- ---- exchanges

pub serves-turns : (g : Terms) (before : Service) (requests messages : List (List ℕ)) (after : Service) → Serves g before requests messages after
    → TakesTurns g before (turns_of requests messages) after
serves-turns g before [] [] after is = is
serves-turns g before [] (bytes ∷ messages) after is = absurd is
serves-turns g before (asked ∷ requests) [] after is = absurd is
serves-turns g before (asked ∷ requests) (bytes ∷ messages) after is = (is.0, is.1, serves-turns g is.0 requests messages after is.2)

turns-serve : (g : Terms) (before : Service) (requests messages : List (List ℕ)) (after : Service) → length requests ≡ length messages
    → TakesTurns g before (turns_of requests messages) after → Serves g before requests messages after
turns-serve g before [] [] after same is = is
turns-serve g before [] (bytes ∷ messages) after same is = absurd (omega (arith, same))
turns-serve g before (asked ∷ requests) [] after same is = absurd (omega (arith, same))
turns-serve g before (asked ∷ requests) (bytes ∷ messages) after same is =
    (is.0, is.1, turns-serve g is.0 requests messages after (omega (arith, same)) is.2)

pub serving_is_taking_turns : ServingIsTakingTurns
serving_is_taking_turns g before requests messages after =
    (serves-turns g before requests messages after, turns-serve g before requests messages after)

-- no call is among them
pub turns-fit : (requests messages : List (List ℕ)) → All CallFits (turns_of requests messages)
turns-fit [] messages = All-nil CallFits
turns-fit (asked ∷ requests) [] = All-nil CallFits
turns-fit (asked ∷ requests) (bytes ∷ messages) =
    All-cons CallFits (Exchanged asked bytes) (turns_of requests messages) tt (turns-fit requests messages)

-- ---- what each turn keeps, all keep

pub turns-keep : (g : Terms) (P : Service → Type 0) → ((before : Service) (turn : Turn) (after : Service) → P before → IsTurned g before turn after → P after)
    → (before : Service) (turns : List Turn) (after : Service) → P before → TakesTurns g before turns after → P after
turns-keep g P each before [] after holds is = subst P (sym is) holds
turns-keep g P each before (turn ∷ turns) after holds is = turns-keep g P each is.0 turns after (each before turn is.0 holds is.1) is.2

-- ---- a call

-- what is done where the number of commands is limited has room, and is done without a limit
pub room-within : (limit : ℕ) (g : Config) (past : List Request) (request : Request) (answer : Answer) → limited_answer limit g past request ≡ Ok answer
    → (answer_with_room g past request ≡ Ok answer) × (length past < limit)
unfolding limited_answer
room-within limit g past request answer is = by (answer_with_room g past request) is
  where
    by : (r : Result Answer Refusal) → unless_full limit (length past) r ≡ Ok answer → (r ≡ Ok answer) × (length past < limit)
    by (Err refusal) h = absurd (let no : Err refusal ≡ Ok answer = h in cc)
    by (Ok reply) h = let both = by_room (nat_lt (length past) limit) refl h in (ap Ok both.0, both.1)
      where
        by_room : (room : Bool) → nat_lt (length past) limit ≡ room → unless_full limit (length past) (Ok reply) ≡ Ok answer
            → (reply ≡ answer) × (length past < limit)
        by_room true is h' = (let same : unless_full limit (length past) (Ok reply) ≡ Ok answer = h' in let e = rw is at same in cc, ltb-true (length past) limit is)
        by_room false is h' = absurd (let e = rw is at h' in cc)

-- it does what a request would that asks the same, and changes the logs as it does
abbrev pub call_step : Terms → Service → Request → Step
call_step g s request = AsksNoting request false (λ (answer : Result Answer Refusal). told replies.Done s.files) (noting_called (scene_of g s) request)

pub call-does : (g : Terms) (before : Service) (limit : ℕ) (request : Request) (reply : Answer) (after : Service)
    → IsTurned g before (Called limit request (Ok reply)) after → Does g before (call_step g before request) (Some replies.Done) after
call-does g before limit request reply after is =
    let done = room-within limit g.config before.past request reply is.0.reply in
    let given : live_answer g.config before.past request ≡ Ok reply =
    limited-done most_done g.config before.past request reply done.0 (omega (arith, done.1, is.0.few)) in
    (Ok reply, inl (record { reply = given; takes_none = λ none. sym given }), refl, is.1)

-- one that is refused leaves all as it was
pub refused-stays : (g : Terms) (before : Service) (limit : ℕ) (request : Request) (refusal : Refusal) (after : Service)
    → IsTurned g before (Called limit request (Err refusal)) after → after ≡ before
refused-stays g before limit (RemoveInstance (Some name)) refusal after is = is.1
refused-stays g before limit (RemoveInstance None) refusal after is = is.1
refused-stays g before limit (Emission event cpu pid pairs) refusal after is = is.1
refused-stays g before limit (MakeInstance name) refusal after is = is.1
refused-stays g before limit (WriteFile instance file append text) refusal after is = is.1
refused-stays g before limit (ReadFile instance file most) refusal after is = is.1

pub call-keeps : (g : Terms) (P : Service → Type 0) (before : Service) (limit : ℕ) (request : Request) (answer : Result Answer Refusal) (after : Service)
    → P before → (Does g before (call_step g before request) (Some replies.Done) after → P after) → IsTurned g before (Called limit request answer) after
    → P after
call-keeps g P before limit request (Ok reply) after was done is = done (call-does g before limit request reply after is)
call-keeps g P before limit request (Err refusal) after was done is = subst P (sym (refused-stays g before limit request refusal after is)) was
