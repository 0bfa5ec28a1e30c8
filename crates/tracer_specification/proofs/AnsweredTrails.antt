-- The replies of a trail are answers of the history.
use Rattle.std.proofs.Common.{◌≡◌, ◌≢◌, ℕ, zero, suc, List, [], ◌∷◌, ◌++◌, length, All, Any, Ok, Err, refl, sym, ap, ◌∙◌, subst, append_assoc, append-nil, arith}
use Rattle.std.specs.Prelude.{is_ok, if◌then◌else◌}
use Rattle.std.proofs.lemmas.List.{reverse-append}
use Rattle.std.proofs.lemmas.List.Elements.{All-head, All-tail, All-weaker}
use Rattle.trace_command.specs.Requests.{Request, request_of}
use Rattle.trace_command.specs.Commands.{Command}
use Rattle.trace_command.specs.declared.command.Config.{Config}
use Rattle.trace_command.specs.declared.command.Entry.{Entry}
use Rattle.trace_command.specs.declared.refusal.Refusal.{Refusal}
use Rattle.trace_command.specs.declared.refusal.Refusal.TheVariants.{Worn}
use Rattle.tracer_specification.specs.Blocks.{Trail, IsBlock, IsUnworn}
use Rattle.tracer_specification.specs.Examples.{answers_after}
use Rattle.tracer_specification.specs.History.{answer, answer_to, past_of}
use Rattle.tracer_specification.specs.TrailLaws.{IsAnsweredAfter}
use Rattle.tracer_specification.specs.Trails.{IsTrail, commands_of, done_of}
use Rattle.tracer_specification.proofs.Trailing.{Outcome, commands-own, commands-others, commands-none}

-- ---- each call

pub each_call_is_answered : (g : Config) (by : ℕ) (before after : List Entry) (earlier : List Command) (command : Command) (later : List Command)
    (replies : List Outcome) (reply : Outcome) (rest : List Outcome)
    → length earlier ≡ length replies → IsTrail g by before after (earlier ++ command ∷ later) (replies ++ reply ∷ rest)
    → reply ≢ Err Worn → IsAnsweredAfter g by before after (done_of earlier replies) command reply
each_call_is_answered g by before after [] command later [] (Ok reply) rest same (others, entry, since, cut, idle, done, trail) unworn =
    record { first = others; since = entry ∷ since; cut = cut; own = commands-none by others idle; answer = done.answer }
each_call_is_answered g by before after [] command later [] (Err refusal) rest same (others, since, cut, idle, refused, trail) unworn =
    record {
      first = others;
      since = since;
      cut = cut;
      own = commands-none by others idle;
      answer = refused (λ is. unworn (ap (λ (r : Refusal). Err r) is));
    }
each_call_is_answered g by before after [] command later (r ∷ replies) reply rest same trail unworn = absurd (omega (arith, same))
each_call_is_answered g by before after (c ∷ earlier) command later [] reply rest same trail unworn = absurd (omega (arith, same))
each_call_is_answered g by before after (c ∷ earlier) command later (Ok r ∷ replies) reply rest same (others, entry, since, cut, idle, done, trail) unworn =
    let a = each_call_is_answered g by (before ++ others ++ entry ∷ []) since earlier command later replies reply rest (omega (arith, same)) trail unworn in
    record {
      first = others ++ entry ∷ a.first;
      since = a.since;
      cut = cut ∙ ap (λ (es : List Entry). others ++ entry ∷ es) a.cut ∙ sym (append_assoc others (entry ∷ a.first) a.since);
      own = commands-others by others (entry ∷ a.first) idle ∙ commands-own by entry a.first done.of_caller
          ∙ ap (λ (x : Command). x ∷ commands_of by a.first) done.of_command ∙ ap (λ (cs : List Command). c ∷ cs) a.own;
      answer = subst (λ (es : List Entry). answer_to g es command ≡ reply)
          (append_assoc (before ++ others) (entry ∷ []) a.first ∙ append_assoc before others (entry ∷ a.first)) a.answer;
    }
each_call_is_answered g by before after (c ∷ earlier) command later (Err r ∷ replies) reply rest same (others, since, cut, idle, refused, trail) unworn =
    let a = each_call_is_answered g by (before ++ others) since earlier command later replies reply rest (omega (arith, same)) trail unworn in
    record {
      first = others ++ a.first;
      since = a.since;
      cut = cut ∙ ap (λ (es : List Entry). others ++ es) a.cut ∙ sym (append_assoc others a.first a.since);
      own = commands-others by others a.first idle ∙ a.own;
      answer = subst (λ (es : List Entry). answer_to g es command ≡ reply) (append_assoc before others a.first) a.answer;
    }

-- ---- a caller who is alone

past_push : (entries : List Entry) (entry : Entry) → past_of (entries ++ entry ∷ []) ≡ request_of entry.command ∷ past_of entries
unfolding past_of
past_push entries entry = rw reverse-append refl

-- what is answered after a call that is known
next : (g : Config) (past : List Request) (command : Command) (commands : List Command) (reply : Outcome) (replies : List Outcome)
    → answer g past (request_of command) ≡ reply → replies ≡ answers_after g (if is_ok reply then request_of command ∷ past else past) commands
    → reply ∷ replies ≡ answers_after g past (command ∷ commands)
next g past command commands reply replies first rest =
    subst (λ (r : Outcome). reply ∷ replies ≡ r ∷ answers_after g (if is_ok r then request_of command ∷ past else past) commands) (sym first)
    (ap (λ (rs : List Outcome). reply ∷ rs) rest)

alone : (g : Config) (by : ℕ) (before after : List Entry) (commands : List Command) (replies : List Outcome)
    → All (λ (entry : Entry). entry.by ≡ by) after → All (λ (reply : Outcome). reply ≢ Err Worn) replies
    → IsTrail g by before after commands replies → replies ≡ answers_after g (past_of before) commands
alone g by before after [] [] own unworn trail = refl
alone g by before after [] (reply ∷ replies) own unworn trail = absurd trail
alone g by before after (command ∷ commands) [] own unworn trail = absurd trail
alone g by before after (command ∷ commands) (Ok reply ∷ replies) own unworn ([], entry, later, cut, idle, done, trail) =
    let P : Entry → Type 0 = λ e. e.by ≡ by in
    let U : Outcome → Type 0 = λ r. r ≢ Err Worn in
    let mine : All P (entry ∷ later) = subst (All P) cut own in
    let first : answer g (past_of before) (request_of command) ≡ Ok reply = subst (λ (es : List Entry). answer_to g es command ≡ Ok reply) (append-nil before) done.answer in
    let pasts : past_of ((before ++ []) ++ entry ∷ []) ≡ request_of command ∷ past_of before =
    ap (λ (es : List Entry). past_of (es ++ entry ∷ [])) (append-nil before) ∙ past_push before entry ∙ ap (λ (c : Command). request_of c ∷ past_of before) done.of_command in
    let rest : replies ≡ answers_after g (past_of ((before ++ []) ++ entry ∷ [])) commands =
    alone g by ((before ++ []) ++ entry ∷ []) later commands replies (All-tail P entry later mine) (All-tail U (Ok reply) replies unworn) trail in
    next g (past_of before) command commands (Ok reply) replies first (rest ∙ ap (λ (past : List Request). answers_after g past commands) pasts)
alone g by before after (command ∷ commands) (Ok reply ∷ replies) own unworn (other ∷ others, entry, later, cut, idle, done, trail) =
    let P : Entry → Type 0 = λ e. e.by ≡ by in
    absurd (All-head (λ (e : Entry). e.by ≢ by) other others idle (All-head P other (others ++ entry ∷ later) (subst (All P) cut own)))
alone g by before after (command ∷ commands) (Err refusal ∷ replies) own unworn ([], later, cut, idle, refused, trail) =
    let P : Entry → Type 0 = λ e. e.by ≡ by in
    let U : Outcome → Type 0 = λ r. r ≢ Err Worn in
    let told : answer_to g (before ++ []) command ≡ Err refusal = refused (λ is. All-head U (Err refusal) replies unworn (ap (λ (r : Refusal). Err r) is)) in
    let first : answer g (past_of before) (request_of command) ≡ Err refusal = subst (λ (es : List Entry). answer_to g es command ≡ Err refusal) (append-nil before) told in
    let rest : replies ≡ answers_after g (past_of (before ++ [])) commands =
    alone g by (before ++ []) later commands replies (subst (All P) cut own) (All-tail U (Err refusal) replies unworn) trail in
    next g (past_of before) command commands (Err refusal) replies first (rest ∙ ap (λ (es : List Entry). answers_after g (past_of es) commands) (append-nil before))
alone g by before after (command ∷ commands) (Err refusal ∷ replies) own unworn (other ∷ others, later, cut, idle, refused, trail) =
    let P : Entry → Type 0 = λ e. e.by ≡ by in
    absurd (All-head (λ (e : Entry). e.by ≢ by) other others idle (All-head P other (others ++ later) (subst (All P) cut own)))

-- the caller of the one trail
of_any : (trail : Trail) (by : ℕ) → Any (λ (t : Trail). t.by ≡ by) (trail ∷ []) → by ≡ trail.by
of_any trail by (zero, x, within, at, is) = sym (ap (λ (t : Trail). t.by) at ∙ is)
of_any trail by (suc k, x, within, at, is) = absurd (omega (arith, within))

pub lone_callers_are_answered : (g : Config) (before after : List Entry) (trail : Trail)
    → IsBlock g before after (trail ∷ []) → IsUnworn trail.replies → trail.replies ≡ answers_after g (past_of before) trail.commands
lone_callers_are_answered g before after trail block unworn =
    alone g trail.by before after trail.commands trail.replies
    (All-weaker (λ (entry : Entry). Any (λ (t : Trail). t.by ≡ entry.by) (trail ∷ [])) (λ (entry : Entry). entry.by ≡ trail.by)
    (λ entry any. of_any trail entry.by any) after block.callers)
    unworn (All-head (λ (t : Trail). IsTrail g t.by before after t.commands t.replies) trail [] block.each)
