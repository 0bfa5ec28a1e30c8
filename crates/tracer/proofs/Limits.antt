-- Answers where the number of commands is limited.
use Rattle.std.proofs.Common.{◌≡◌, ℕ, ◌<◌, ◌≤◌, Bool, true, false, nat_lt, ltb, List, length, Result, Ok, Err, refl, subst, arith}
use Rattle.std.proofs.lemmas.Bool.{lt-ltb}
use Rattle.std.proofs.lemmas.Bool.Decides.{nat_tests}
use Rattle.trace_command.specs.Refusals.{IsFoundEarly, IsRefusal}
use Rattle.trace_command.specs.Requests.{Request}
use Rattle.trace_command.specs.declared.command.Config.{Config}
use Rattle.trace_command.specs.declared.command.Reply.{Reply}
use Rattle.trace_command.specs.declared.refusal.Refusal.{Refusal}
use Rattle.trace_command.specs.declared.refusal.Refusal.TheVariants.{HistoryFull}
use Rattle.tracer_specification.specs.History.{answer_with_room, unless_full}
use Rattle.tracer.specs.Lives.{limited_answer}

-- what can be done is done while there is room
pub limited-done : (limit : ℕ) (g : Config) (past : List Request) (request : Request) (reply : Reply) → answer_with_room g past request ≡ Ok reply
    → length past < limit → limited_answer limit g past request ≡ Ok reply
unfolding limited_answer
limited-done limit g past request reply given room = rw (given, lt-ltb (length past) limit room) refl

-- and refused where there is none
pub limited-full : (limit : ℕ) (g : Config) (past : List Request) (request : Request) (reply : Reply) → answer_with_room g past request ≡ Ok reply
    → limit ≤ length past → limited_answer limit g past request ≡ Err HistoryFull
unfolding limited_answer
limited-full limit g past request reply given full =
    let no : ltb (length past) limit ≡ false = grind (arith, nat_tests) in
    rw (given, no) refl

-- what is refused is refused in any case
pub limited-refused : (limit : ℕ) (g : Config) (past : List Request) (request : Request) (refusal : Refusal)
    → answer_with_room g past request ≡ Err refusal → limited_answer limit g past request ≡ Err refusal
unfolding limited_answer
limited-refused limit g past request refusal given = rw given refl

-- what is found early is found whether there is room or not
pub early-with_room : (limit : ℕ) (g : Config) (past : List Request) (request : Request) → IsFoundEarly (limited_answer limit g past request)
    → IsFoundEarly (answer_with_room g past request)
unfolding limited_answer
early-with_room limit g past request early = by (answer_with_room g past request) early
  where
    by : (r : Result Reply Refusal) → IsFoundEarly (unless_full limit (length past) r) → IsFoundEarly r
    by (Err refusal) e = e
    by (Ok reply) e = by_room (nat_lt (length past) limit) refl
      where
        by_room : (room : Bool) → nat_lt (length past) limit ≡ room → ⊥
        by_room true is = rw is at e
        by_room false is = absurd (let h = rw is at e in cc)

-- what would be done is not refused early
pub limited-late : (limit : ℕ) (g : Config) (past : List Request) (request : Request) (reply : Reply) → answer_with_room g past request ≡ Ok reply
    → IsFoundEarly (limited_answer limit g past request) → ⊥
limited-late limit g past request reply given early = subst IsFoundEarly given (early-with_room limit g past request early)

-- a refusal that doesn't look at the room
pub limited-refusal : (limit : ℕ) (g : Config) (past : List Request) (request : Request) (refusal : Refusal)
    → IsRefusal refusal (answer_with_room g past request) → IsRefusal refusal (limited_answer limit g past request)
limited-refusal limit g past request refusal is = (
  λ other. limited-refused limit g past request refusal (is.0 other),
  λ early. limited-refused limit g past request refusal (is.1 (early-with_room limit g past request early)),
)

-- that there is no room
pub full-refusal : (limit : ℕ) (g : Config) (past : List Request) (request : Request) (reply : Reply) → answer_with_room g past request ≡ Ok reply
    → limit ≤ length past → IsRefusal HistoryFull (limited_answer limit g past request)
full-refusal limit g past request reply given full =
    let is = limited-full limit g past request reply given full in
    (λ other. is, λ early. is)
