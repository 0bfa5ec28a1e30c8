-- A script without parts has one session.
use Rattle.std.proofs.Common.{◌≡◌, ◌≢◌, ◌↔◌, ℕ, zero, suc, ◌+◌, ◌||◌, Bool, true, false, if◌then◌else◌, List, [], ◌∷◌, map, flat_map, take, All, Option, Some, None, Result, Ok, Err, refl, sym, ap, ◌∙◌, subst}
use Rattle.std.proofs.lemmas.List.Elements.{All-head, All-tail}
use Rattle.std.proofs.lemmas.List.{take-map}
use Rattle.trace_command.specs.declared.command.Config.{Config}
use Rattle.script_reader.specs.Items.{Item, Single, Threads, Faulty, Taken, taken_at, item_at, items_from, items_of, HasNoPart}
use Rattle.script_reader.specs.ScriptLines.{lines_of}
use Rattle.trace_script.specs.Lines.{line_of}
use Rattle.trace_script.specs.declared.fault.ScriptFault.{ScriptFault}
use Rattle.trace_script.specs.declared.line.Line.{Line}
use Rattle.trace_script.specs.declared.line.Line.TheVariants.{Blank, Ask, Parallel, Thread, End}
use Rattle.trace_script.specs.declared.outcome.Outcome.{Outcome}
use Rattle.trace_script.specs.declared.outcome.Outcome.TheVariants as outcomes
use Rattle.trace_session.specs.Parts.{Given, given_by, ends, EndsOr, MayGiveAll, session_with, IsSession}
use Rattle.trace_session.specs.PartLaws.{OneThreadHasOneSession, OneThreadBeginsOneSession}
use Rattle.trace_session.specs.Sessions.{Progress, Session, beginning, turn_of, is_fault, outcomes_of, text_of, texts_from, status_of, session}

-- lines by themselves
abbrev singles : ℕ → List (List ℕ) → List Item
singles number [] = []
singles number (line ∷ lines) = Single number line ∷ singles (number + 1) lines

single_taken : (number : ℕ) (line : List ℕ) (read : Result Line ScriptFault) (lines : List (List ℕ)) → read ≢ Ok Parallel
    → taken_at number line read lines ≡ record { item = Single number line; behind = 0 }
single_taken number line (Ok Blank) lines not = refl
single_taken number line (Ok (Ask command)) lines not = refl
single_taken number line (Ok Parallel) lines not = absurd (not refl)
single_taken number line (Ok Thread) lines not = refl
single_taken number line (Ok End) lines not = refl
single_taken number line (Err fault) lines not = refl

single_at : (number : ℕ) (line : List ℕ) (lines : List (List ℕ)) → line_of line ≢ Ok Parallel
    → item_at number line lines ≡ record { item = Single number line; behind = 0 }
unfolding item_at
single_at number line lines not = single_taken number line (line_of line) lines not

-- lines none of which begins a part
items_are_singles : (lines : List (List ℕ)) (number : ℕ) → All (λ (line : List ℕ). line_of line ≢ Ok Parallel) lines
    → items_from number 0 lines ≡ singles number lines
items_are_singles [] number none = refl
items_are_singles (line ∷ lines) number none =
    let P : List ℕ → Type 0 = λ line. line_of line ≢ Ok Parallel in
    let first : item_at number line lines ≡ record { item = Single number line; behind = 0 } = single_at number line lines (All-head P line lines none) in
    ap (λ (taken : Taken). taken.item ∷ items_from (number + 1) taken.behind lines) first
    ∙ ap (λ (items : List Item). Single number line ∷ items) (items_are_singles lines (number + 1) (All-tail P line lines none))

-- ---- items without threads give one thing

abbrev pub ArePlain : List Item → Type 0
ArePlain [] = Unit {0}
ArePlain (Single number line ∷ items) = ArePlain items
ArePlain (Threads threads ∷ items) = ⊥
ArePlain (Faulty at ∷ items) = ArePlain items

abbrev pub given_of : Config → Progress → Item → Given
given_of g before (Single number line) = given_by number (turn_of g before line).outcome
given_of g before (Threads threads) = given_by 0 None
given_of g before (Faulty at) = given_by at.number (Some (outcomes.Fault at.fault))

abbrev pub next_of : Config → Progress → Item → Progress
next_of g before (Single number line) = (turn_of g before line).progress
next_of g before (Threads threads) = before
next_of g before (Faulty at) = before

abbrev pub plain_given : Config → Progress → List Item → List Given
plain_given g before [] = []
plain_given g before (item ∷ items) = given_of g before item ∷ (if ends (given_of g before item) then [] else plain_given g (next_of g before item) items)

only_after : (ended : Bool) (more given : List Given) (rest : Type 0) → (rest → more ≡ given) → EndsOr ended more rest → more ≡ (if ended then [] else given)
only_after true more given rest is none = none
only_after false more given rest is all = is all

only_step : (g : Config) (before after : Progress) (item : Item) (items : List Item) (one : Given) (more : List Given)
    → (MayGiveAll g (next_of g before item) items more → more ≡ plain_given g (next_of g before item) items)
    → one ≡ given_of g before item → after ≡ next_of g before item → EndsOr (ends one) more (MayGiveAll g after items more)
    → one ∷ more ≡ plain_given g before (item ∷ items)
only_step g before after item items one more is given next rest =
    let P : Given → Type 0 = λ x. EndsOr (ends x) more (MayGiveAll g after items more) in
    let Q : Progress → Type 0 = λ p. EndsOr (ends (given_of g before item)) more (MayGiveAll g p items more) in
    ap (λ (x : Given). x ∷ more) given
    ∙ ap (λ (xs : List Given). given_of g before item ∷ xs)
    (only_after (ends (given_of g before item)) more (plain_given g (next_of g before item) items) (MayGiveAll g (next_of g before item) items more) is
    (subst Q next (subst P given rest)))

pub only : (g : Config) (items : List Item) (before : Progress) (given : List Given) → ArePlain items → MayGiveAll g before items given
    → given ≡ plain_given g before items
only g [] before [] plain all = refl
only g [] before (one ∷ more) plain all = absurd all
only g (item ∷ items) before [] plain all = absurd all
only g (Single number line ∷ items) before (one ∷ more) plain (after, (is, next), rest) =
    only_step g before after (Single number line) items one more (only g items (turn_of g before line).progress more plain) is next rest
only g (Threads threads ∷ items) before (one ∷ more) plain all = absurd plain
only g (Faulty at ∷ items) before (one ∷ more) plain (after, (is, next), rest) =
    only_step g before after (Faulty at) items one more (only g items before more plain) is next rest

gives_after : (ended : Bool) (given : List Given) (P : List Given → Type 0) → P given → EndsOr ended (if ended then [] else given) (P (if ended then [] else given))
gives_after true given P is = refl
gives_after false given P is = is

pub gives : (g : Config) (items : List Item) (before : Progress) → ArePlain items → MayGiveAll g before items (plain_given g before items)
gives g [] before plain = tt
gives g (Single number line ∷ items) before plain =
    let turn = turn_of g before line in
    (turn.progress, (refl, refl), gives_after (ends (given_by number turn.outcome)) (plain_given g turn.progress items) (MayGiveAll g turn.progress items) (gives g items turn.progress plain))
gives g (Threads threads ∷ items) before plain = absurd plain
gives g (Faulty at ∷ items) before plain =
    (before, (refl, refl), gives_after (ends (given_by at.number (Some (outcomes.Fault at.fault)))) (plain_given g before items) (MayGiveAll g before items) (gives g items before plain))

-- so a script without threads has one session
pub plain_sessions : (g : Config) (script : List ℕ) (one : Session) → ArePlain (items_of script)
    → IsSession g script one ↔ (one ≡ session_with (plain_given g beginning (items_of script)))
plain_sessions g script one plain = (
  λ h. h.2 ∙ ap session_with (only g (items_of script) beginning h.0 plain h.1),
  λ is. (plain_given g beginning (items_of script), gives g (items_of script) beginning plain, is),
)

-- ---- lines by themselves

singles_are_plain : (lines : List (List ℕ)) (number : ℕ) → ArePlain (singles number lines)
singles_are_plain [] number = tt
singles_are_plain (line ∷ lines) number = singles_are_plain lines (number + 1)

-- what lines by themselves give
abbrev given_from : ℕ → List (Option Outcome) → List Given
given_from number [] = []
given_from number (outcome ∷ os) = given_by number outcome ∷ given_from (number + 1) os

texts_given : (os : List (Option Outcome)) (number : ℕ) → map (λ (one : Given). one.text) (given_from number os) ≡ texts_from number os
texts_given [] number = refl
texts_given (outcome ∷ os) number = ap (λ (texts : List (List ℕ)). text_of number outcome ∷ texts) (texts_given os (number + 1))

outcomes_given : (os : List (Option Outcome)) (number : ℕ) → flat_map (λ (one : Given). one.outcomes) (given_from number os) ≡ os
outcomes_given [] number = refl
outcomes_given (outcome ∷ os) number = ap (λ (rest : List (Option Outcome)). outcome ∷ rest) (outcomes_given os (number + 1))

singles_after : (fault : Bool) (number : ℕ) (given : List Given) (os : List (Option Outcome)) → given ≡ given_from number os
    → (if fault || false then [] else given) ≡ given_from number (if fault then [] else os)
singles_after true number given os is = refl
singles_after false number given os is = is

singles_give : (g : Config) (lines : List (List ℕ)) (number : ℕ) (before : Progress) → plain_given g before (singles number lines) ≡ given_from number (outcomes_of g before lines)
singles_give g [] number before = refl
singles_give g (line ∷ lines) number before =
    let turn = turn_of g before line in
    ap (λ (xs : List Given). given_by number turn.outcome ∷ xs)
    (singles_after (is_fault turn.outcome) (number + 1) (plain_given g turn.progress (singles (number + 1) lines)) (outcomes_of g turn.progress lines)
    (singles_give g lines (number + 1) turn.progress))

-- with these texts, and the status of these outcomes
abbrev told : List (List ℕ) → List (Option Outcome) → Session
told texts os = record { texts = texts; status = status_of os }

same_session : (os : List (Option Outcome)) → session_with (given_from 1 os) ≡ told (texts_from 1 os) os
same_session os =
    ap (λ (texts : List (List ℕ)). told texts (flat_map (λ (one : Given). one.outcomes) (given_from 1 os))) (texts_given os 1)
    ∙ ap (λ (xs : List (Option Outcome)). told (texts_from 1 os) xs) (outcomes_given os 1)

items_are : (script : List ℕ) → HasNoPart script → items_of script ≡ singles 1 (lines_of script)
unfolding items_of
items_are script none = items_are_singles (lines_of script) 1 none

-- the items of a script without parts
pub items_are_plain : (script : List ℕ) → HasNoPart script → ArePlain (items_of script)
items_are_plain script none = subst ArePlain (sym (items_are script none)) (singles_are_plain (lines_of script) 1)

module _ (g : Config) (script : List ℕ) (none : HasNoPart script) where
  session_is : session_with (plain_given g beginning (items_of script)) ≡ session g script
  unfolding session
  session_is =
      ap (λ (items : List Item). session_with (plain_given g beginning items)) (items_are script none)
      ∙ ap session_with (singles_give g (lines_of script) 1 beginning)
      ∙ same_session (outcomes_of g beginning (lines_of script))

pub one_thread_has_one_session : OneThreadHasOneSession
one_thread_has_one_session g script one none =
    let both = plain_sessions g script one (items_are_plain script none) in
    (λ is. both.0 is ∙ session_is g script none, λ is. both.1 (is ∙ sym (session_is g script none)))

-- ---- and so far as it came, the first texts of that one

take_plain : (items : List Item) (count : ℕ) → ArePlain items → ArePlain (take count items)
take_plain items zero plain = tt
take_plain [] (suc count) plain = tt
take_plain (Single number line ∷ items) (suc count) plain = take_plain items count plain
take_plain (Threads threads ∷ items) (suc count) plain = absurd plain
take_plain (Faulty at ∷ items) (suc count) plain = take_plain items count plain

front_after : (ended : Bool) (count : ℕ) (front all : List Given) → front ≡ take count all → (if ended then [] else front) ≡ take count (if ended then [] else all)
front_after true zero front all is = refl
front_after true (suc count) front all is = refl
front_after false count front all is = is

front_given : (g : Config) (items : List Item) (before : Progress) (count : ℕ) → plain_given g before (take count items) ≡ take count (plain_given g before items)
front_given g items before zero = refl
front_given g [] before (suc count) = refl
front_given g (item ∷ items) before (suc count) =
    ap (λ (xs : List Given). given_of g before item ∷ xs)
    (front_after (ends (given_of g before item)) count (plain_given g (next_of g before item) (take count items)) (plain_given g (next_of g before item) items)
    (front_given g items (next_of g before item) count))

pub one_thread_begins_one_session : OneThreadBeginsOneSession
one_thread_begins_one_session g script texts none (count, given, all, is) =
    let given_is : given ≡ take count (plain_given g beginning (items_of script)) =
    only g (take count (items_of script)) beginning given (take_plain (items_of script) count (items_are_plain script none)) all ∙ front_given g (items_of script) beginning count in (
      count,
      is
          ∙ (ap (map (λ (one : Given). one.text)) given_is
          ∙ (sym (take-map (λ (one : Given). one.text) count (plain_given g beginning (items_of script))) ∙ ap (λ (s : Session). take count s.texts) (session_is g script none))),
    )
