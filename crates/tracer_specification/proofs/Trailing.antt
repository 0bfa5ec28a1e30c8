-- Trails that go on, and the entries that they hold.
use Rattle.std.proofs.Common.{◌≡◌, ◌≢◌, ℕ, List, [], ◌∷◌, ◌++◌, Result, Ok, Err, refl, sym, ap, ◌∙◌, subst, append_assoc, append-nil, arith}
use Rattle.std.proofs.lemmas.List.Elements.{All-append, All-nil, All-head, All-tail}
use Rattle.tracer_specification.specs.Trails.{IsWithout, IsDoneAfter, IsRefusedAfter, IsTrail, commands_of, done_of}
use Rattle.trace_command.specs.Commands.{Command}
use Rattle.trace_command.specs.declared.command.Config.{Config}
use Rattle.trace_command.specs.declared.command.Entry.{Entry}
use Rattle.trace_command.specs.declared.command.Reply.{Reply}
use Rattle.trace_command.specs.declared.refusal.Refusal.{Refusal}

abbrev pub Outcome : Type 0
Outcome = Result Reply Refusal

without-append : (by : ℕ) (xs ys : List Entry) → IsWithout by xs → IsWithout by ys → IsWithout by (xs ++ ys)
without-append by xs ys = All-append (λ (entry : Entry). entry.by ≢ by) xs ys

-- what others do later changes no trail
pub trail-grows : (g : Config) (by : ℕ) (before after rest : List Entry) (commands : List Command) (replies : List Outcome)
    → IsWithout by rest → IsTrail g by before after commands replies → IsTrail g by before (after ++ rest) commands replies
trail-grows g by before after rest [] [] none trail = without-append by after rest trail none
trail-grows g by before after rest [] (reply ∷ replies) none trail = absurd trail
trail-grows g by before after rest (command ∷ commands) [] none trail = absurd trail
trail-grows g by before after rest (command ∷ commands) (Ok reply ∷ replies) none (others, entry, later, cut, idle, done, trail) =
    (others, entry, later ++ rest, ap (λ (es : List Entry). es ++ rest) cut ∙ append_assoc others (entry ∷ later) rest, idle, done, trail-grows g by (before ++ others ++ entry ∷ []) later rest commands replies none trail)
trail-grows g by before after rest (command ∷ commands) (Err refusal ∷ replies) none (others, later, cut, idle, refused, trail) =
    (others, later ++ rest, ap (λ (es : List Entry). es ++ rest) cut ∙ append_assoc others later rest, idle, refused, trail-grows g by (before ++ others) later rest commands replies none trail)

-- what others did before the first call may come to what was there, or to what was done since
pub trail-later : (g : Config) (by : ℕ) (before idle after : List Entry) (commands : List Command) (replies : List Outcome)
    → IsWithout by idle → IsTrail g by (before ++ idle) after commands replies → IsTrail g by before (idle ++ after) commands replies
trail-later g by before idle after [] [] none trail = without-append by idle after none trail
trail-later g by before idle after [] (reply ∷ replies) none trail = absurd trail
trail-later g by before idle after (command ∷ commands) [] none trail = absurd trail
trail-later g by before idle after (command ∷ commands) (Ok reply ∷ replies) none (others, entry, later, cut, alone, done, trail) =
    let same : (before ++ idle) ++ others ≡ before ++ (idle ++ others) = append_assoc before idle others in (
      idle ++ others,
      entry,
      later,
      ap (λ (es : List Entry). idle ++ es) cut ∙ sym (append_assoc idle others (entry ∷ later)),
      without-append by idle others none alone,
      subst (λ (es : List Entry). IsDoneAfter g by es command reply entry) same done,
      subst (λ (es : List Entry). IsTrail g by (es ++ entry ∷ []) later commands replies) same trail,
    )
trail-later g by before idle after (command ∷ commands) (Err refusal ∷ replies) none (others, later, cut, alone, refused, trail) =
    let same : (before ++ idle) ++ others ≡ before ++ (idle ++ others) = append_assoc before idle others in (
      idle ++ others,
      later,
      ap (λ (es : List Entry). idle ++ es) cut ∙ sym (append_assoc idle others later),
      without-append by idle others none alone,
      subst (λ (es : List Entry). IsRefusedAfter g es command refusal) same refused,
      subst (λ (es : List Entry). IsTrail g by es later commands replies) same trail,
    )

-- a trail and one that begins where it ends
pub trail-append : (g : Config) (by : ℕ) (before after since : List Entry) (commands others : List Command) (replies answers : List Outcome)
    → IsTrail g by before after commands replies → IsTrail g by (before ++ after) since others answers
    → IsTrail g by before (after ++ since) (commands ++ others) (replies ++ answers)
trail-append g by before after since [] others [] answers first second = trail-later g by before after since others answers first second
trail-append g by before after since [] others (reply ∷ replies) answers first second = absurd first
trail-append g by before after since (command ∷ commands) others [] answers first second = absurd first
trail-append g by before after since (command ∷ commands) others (Ok reply ∷ replies) answers (others', entry, later, cut, idle, done, trail) second =
    let goes : before ++ after ≡ (before ++ others' ++ entry ∷ []) ++ later =
    ap (λ (es : List Entry). before ++ es) cut ∙ sym (append_assoc before others' (entry ∷ later)) ∙ sym (append_assoc (before ++ others') (entry ∷ []) later) in (
      others',
      entry,
      later ++ since,
      ap (λ (es : List Entry). es ++ since) cut ∙ append_assoc others' (entry ∷ later) since,
      idle,
      done,
      trail-append g by (before ++ others' ++ entry ∷ []) later since commands others replies answers trail (subst (λ (es : List Entry). IsTrail g by es since others answers) goes second),
    )
trail-append g by before after since (command ∷ commands) others (Err refusal ∷ replies) answers (others', later, cut, idle, refused, trail) second =
    let goes : before ++ after ≡ (before ++ others') ++ later = ap (λ (es : List Entry). before ++ es) cut ∙ sym (append_assoc before others' later) in (
      others',
      later ++ since,
      ap (λ (es : List Entry). es ++ since) cut ∙ append_assoc others' later since,
      idle,
      refused,
      trail-append g by (before ++ others') later since commands others replies answers trail (subst (λ (es : List Entry). IsTrail g by es since others answers) goes second),
    )

-- one call that was done, after what others did
pub trail-done : (g : Config) (by : ℕ) (before others : List Entry) (command : Command) (reply : Reply) (entry : Entry)
    → IsWithout by others → IsDoneAfter g by (before ++ others) command reply entry
    → IsTrail g by before (others ++ entry ∷ []) (command ∷ []) (Ok reply ∷ [])
trail-done g by before others command reply entry idle done =
    (others, entry, [], refl, idle, done, All-nil (λ (e : Entry). e.by ≢ by))

-- one call that was refused
pub trail-refused : (g : Config) (by : ℕ) (before others : List Entry) (command : Command) (refusal : Refusal)
    → IsWithout by others → IsRefusedAfter g (before ++ others) command refusal
    → IsTrail g by before others (command ∷ []) (Err refusal ∷ [])
trail-refused g by before others command refusal idle refused =
    (others, [], sym (append-nil others), idle, refused, All-nil (λ (e : Entry). e.by ≢ by))

-- ---- the entries of the caller

-- an entry of the caller comes first
pub commands-own : (by : ℕ) (entry : Entry) (later : List Entry) → entry.by ≡ by → commands_of by (entry ∷ later) ≡ entry.command ∷ commands_of by later
commands-own by entry later own = grind (arith, own)

-- the entries of others add none
pub commands-others : (by : ℕ) (others later : List Entry) → IsWithout by others → commands_of by (others ++ later) ≡ commands_of by later
commands-others by [] later idle = refl
commands-others by (entry ∷ others) later idle =
    let P : Entry → Type 0 = λ e. e.by ≢ by in
    let here : entry.by ≢ by = All-head P entry others idle in
    let rest = commands-others by others later (All-tail P entry others idle) in
    grind (arith, rest, here)

pub commands-none : (by : ℕ) (others : List Entry) → IsWithout by others → commands_of by others ≡ []
commands-none by others idle = ap (commands_of by) (sym (append-nil others)) ∙ commands-others by others [] idle

pub trails_hold_done_calls_once : (g : Config) (by : ℕ) (before after : List Entry) (commands : List Command) (replies : List Outcome)
    → IsTrail g by before after commands replies → commands_of by after ≡ done_of commands replies
trails_hold_done_calls_once g by before after [] [] trail = commands-none by after trail
trails_hold_done_calls_once g by before after [] (reply ∷ replies) trail = absurd trail
trails_hold_done_calls_once g by before after (command ∷ commands) [] trail = absurd trail
trails_hold_done_calls_once g by before after (command ∷ commands) (Ok reply ∷ replies) (others, entry, later, cut, idle, done, trail) =
    let rest = trails_hold_done_calls_once g by (before ++ others ++ entry ∷ []) later commands replies trail in
    ap (commands_of by) cut ∙ commands-others by others (entry ∷ later) idle ∙ commands-own by entry later done.of_caller
    ∙ ap (λ (c : Command). c ∷ commands_of by later) done.of_command ∙ ap (λ (cs : List Command). command ∷ cs) rest
trails_hold_done_calls_once g by before after (command ∷ commands) (Err refusal ∷ replies) (others, later, cut, idle, refused, trail) =
    let rest = trails_hold_done_calls_once g by (before ++ others) later commands replies trail in
    ap (commands_of by) cut ∙ commands-others by others later idle ∙ rest
