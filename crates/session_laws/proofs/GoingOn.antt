-- Items in turn: each script has a session, and one that was begun goes on.
use Rattle.std.proofs.Common.{◌≡◌, ℕ, zero, suc, ◌+◌, ◌<◌, ◌^◌, Bool, true, false, List, [], ◌∷◌, ◌++◌, length, map, take, All, refl, sym, ap, subst, ◌∙◌, append-nil, arith}
use Rattle.std.proofs.lemmas.List.{map-append, take-append-le, take_all}
use Rattle.std.proofs.lemmas.List.Elements.{All-nil, All-head, All-tail}
use Rattle.trace_command.specs.Configs.{IsInRange}
use Rattle.trace_command.specs.declared.command.Config.{Config}
use Rattle.trace_command.specs.declared.command.Entry.{Entry}
use Rattle.tracer_specification.specs.History.{IsLegal}
use Rattle.script_reader.specs.FewThreads.{HasFewThreads, PartsHaveFewThreads}
use Rattle.script_reader.specs.Items.{Item, items_of}
use Rattle.trace_session.proofs.Standing.{given_front}
use Rattle.trace_session.specs.Fronts.{HasGiven}
use Rattle.trace_session.specs.Parts.{Given, ends, EndsOr, MayGiveAll, session_with, IsSession, IsBegun}
use Rattle.trace_session.specs.Sessions.{Progress, Session, beginning}
use Rattle.session_laws.proofs.FitCommands.{IsFit, script_fits, few_items}
use Rattle.session_laws.proofs.ReadyHistories.{IsReady, Follows}
use Rattle.session_laws.proofs.RunParts.{follows_itself, gives_again, item_runs}
use Rattle.session_laws.specs.WholeSessions.{EachScriptHasASession, BeginsASession, BegunSessionsGoOn, StoppedSessionsGoOn}

-- ---- items in turn

-- the rest may give something, after what was given
abbrev GoesOn : Config → Progress → List Item → List Given → Type 0
GoesOn g now items given = (rest : List Given) × MayGiveAll g now items (given ++ rest)

-- nothing is given after a fault
ends_or : (ended : Bool) (P : List Given → Type 0) → (given : List Given) × P given → (given : List Given) × EndsOr ended given (P given)
ends_or true P given = ([], refl)
ends_or false P given = given

ends_again : (ended : Bool) (more : List Given) (rest : Type 0) (P : List Given → Type 0) → (rest → (others : List Given) × P (more ++ others)) → EndsOr ended more rest
    → (others : List Given) × EndsOr ended (more ++ others) (P (more ++ others))
ends_again true more rest P go_on none = ([], append-nil more ∙ none)
ends_again false more rest P go_on begun = go_on begun

module _ (g : Config) (range : IsInRange g) where
  pub all_run : (items : List Item) (ran : ℕ) (now : Progress) → IsReady g ran now → All IsFit items → All HasFewThreads items → ran + length items < 2 ^ 63 + 2
      → (given : List Given) × MayGiveAll g now items given
  all_run [] ran now ready fit few left = ([], tt)
  all_run (item ∷ items) ran now ready fit few left =
      let one = item_runs g ran range (omega (arith, left)) item now (All-head IsFit item items fit) (All-head HasFewThreads item items few) ready in
      let others = ends_or (ends one.1) (MayGiveAll g one.0 items)
      (all_run items (ran + 1) one.0 one.3 (All-tail IsFit item items fit) (All-tail HasFewThreads item items few) (omega (arith, left))) in
      (one.1 ∷ others.0, (one.0, one.2, others.1))

  pub go_on : (items : List Item) (count ran : ℕ) (before now : Progress) (given : List Given) → Follows g ran before now → All IsFit items → All HasFewThreads items
      → ran + length items < 2 ^ 63 + 2 → MayGiveAll g before (take count items) given → GoesOn g now items given
  go_on items zero ran before now [] follows fit few left begun = all_run items ran now follows.ready fit few left
  go_on items zero ran before now (one ∷ given) follows fit few left begun = absurd begun
  go_on [] (suc count) ran before now [] follows fit few left begun = ([], tt)
  go_on [] (suc count) ran before now (one ∷ given) follows fit few left begun = absurd begun
  go_on (item ∷ items) (suc count) ran before now [] follows fit few left begun = absurd begun
  go_on (item ∷ items) (suc count) ran before now (one ∷ given) follows fit few left (after, gave, rest) =
      let again = gives_again g ran range (omega (arith, left)) item before after now one follows gave in
      let others = ends_again (ends one) given (MayGiveAll g after (take count items) given) (MayGiveAll g again.0 items)
      (go_on items count (ran + 1) after again.0 given again.2 (All-tail IsFit item items fit) (All-tail HasFewThreads item items few) (omega (arith, left))) rest in
      (others.0, (again.0, again.1, others.1))

  -- ---- sessions

  at_first : IsReady g 0 beginning
  unfolding IsLegal
  at_first = record { legal = tt; below = All-nil (λ (entry : Entry). entry.ticket < 0); few = omega arith }

  first_texts : (xs ys : List (List ℕ)) → xs ≡ take (length xs) (xs ++ ys)
  first_texts xs ys = sym (take-append-le (length xs) xs ys (omega arith) ∙ take_all (length xs) xs (omega arith))

  module _ (script : List ℕ) (short : length script < 2 ^ 63) (few : All HasFewThreads (items_of script)) where
    has_session : (one : Session) × IsSession g script one
    has_session =
        let all = all_run (items_of script) 0 beginning at_first (script_fits script) few (omega (arith, few_items script, short)) in
        (session_with all.0, (all.0, all.1, refl))

    begins : (texts : List (List ℕ)) → IsBegun g script texts → BeginsASession g script texts
    begins texts (count, given, begun, is) =
        let text_of = λ (one : Given). one.text in
        let all = go_on (items_of script) count 0 beginning beginning given (follows_itself g 0 beginning at_first) (script_fits script) few
        (omega (arith, few_items script, short)) begun in (
          session_with (given ++ all.0),
          (given ++ all.0, all.1, refl),
          length texts,
          first_texts texts (map text_of all.0)
              ∙ ap (take (length texts)) (ap (λ (xs : List (List ℕ)). xs ++ map text_of all.0) is ∙ sym (map-append text_of given all.0)),
        )

-- ---- items of which none is a fault were begun

are_begun : (g : Config) (script : List ℕ) (done rest : List Item) (given : List Given) (after : Progress) → items_of script ≡ done ++ rest
    → HasGiven g beginning done given after → IsBegun g script (map (λ (one : Given). one.text) given)
are_begun g script done rest given after items gave =
    let count = length done in
    let those : done ≡ take count (items_of script) =
    sym (ap (take count) items ∙ take-append-le count done rest (omega arith) ∙ take_all count done (omega arith)) in
    (count, given, subst (λ (xs : List Item). MayGiveAll g beginning xs given) those (given_front g done given beginning after gave), refl)

pub each_script_has_a_session : PartsHaveFewThreads → EachScriptHasASession
each_script_has_a_session few g script range short = has_session g range script short (few script)

pub begun_sessions_go_on : PartsHaveFewThreads → BegunSessionsGoOn
begun_sessions_go_on few g script texts range short begun = begins g range script short (few script) texts begun

pub stopped_sessions_go_on : PartsHaveFewThreads → StoppedSessionsGoOn
stopped_sessions_go_on few g script done rest given after range short items gave =
    begins g range script short (few script) (map (λ (one : Given). one.text) given) (are_begun g script done rest given after items gave)
