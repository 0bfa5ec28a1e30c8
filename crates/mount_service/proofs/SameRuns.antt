-- What answers, runs of lines and steps come to is determined, but where memory is refused; and a step tells of that.
use Rattle.std.proofs.Common.{◌≡◌, ◌≢◌, ◌⊎◌, inl, inr, ℕ, ◌<◌, Bool, true, false, if◌then◌else◌, List, [], ◌∷◌, Option, Some, None, Result, Ok, Err, refl, sym, ap, subst, ◌∙◌}
use Rattle.fuse_wire.specs.declared.errno.Errno.TheVariants.{ENOMEM}
use Rattle.fuse_wire.specs.declared.reply.Reply.{Reply}
use Rattle.fuse_wire.specs.declared.reply.Reply.TheVariants as replies
use Rattle.trace_command.specs.Refusals.{OrMemory}
use Rattle.trace_command.specs.Requests.{Request}
use Rattle.trace_command.specs.declared.command.Reply.{Reply as Answer}
use Rattle.trace_command.specs.declared.refusal.Refusal.{Refusal}
use Rattle.trace_command.specs.declared.refusal.Refusal.TheVariants.{Memory}
use Rattle.tracer.specs.Lives.{live_answer}
use Rattle.mount_replies.specs.Mounted.{Does, IsAnswered, IsLineRun, IsRun, MayRun, after_count, after_noting, after_outcome, past_after, stopped_at}
use Rattle.mount_replies.specs.Services.{Service, Terms, with_read}
use Rattle.mount_replies.specs.Steps.{Asking, Asks, AsksFor, AsksLines, AsksNothing, AsksNoting, Counts, Interrupts, IsTooLong, IsWrongLine, LineAsked, LineRefused, Parks, Plain, Ran, Step, Takes, Tells}
use Rattle.mount_replies.specs.declared.fault.LineFault.TheVariants.{Refused}

pub either : {A : Type 0} (P : A → Type 0) (t : Bool) (one other : A) → P one → P other → P (if t then one else other)
either P true one other first second = first
either P false one other first second = second

-- ---- answers

memory-or-not : (refusal : Refusal) → (refusal ≡ Memory) ⊎ (refusal ≢ Memory)
memory-or-not Memory = inl refl
memory-or-not _ = inr (λ same. absurd (cc))

-- they are one, or memory was refused for one of them
abbrev pub AreSameBut : Result Answer Refusal → Result Answer Refusal → Type 0
AreSameBut one other = (one ≡ other) ⊎ ((one ≡ Err Memory) ⊎ (other ≡ Err Memory))

same-answer : (answered one other : Result Answer Refusal) → OrMemory one answered → OrMemory other answered → AreSameBut one other
same-answer answered (Ok reply) (Ok fellow) is also = inl (sym is ∙ also)
same-answer answered (Ok reply) (Err refusal) is also = by (memory-or-not refusal)
  where
    by : (refusal ≡ Memory) ⊎ (refusal ≢ Memory) → AreSameBut (Ok reply) (Err refusal)
    by (inl memory) = inr (inr (ap Err memory))
    by (inr apart) = inl (sym is ∙ also apart)
same-answer answered (Err refusal) (Ok fellow) is also = by (memory-or-not refusal)
  where
    by : (refusal ≡ Memory) ⊎ (refusal ≢ Memory) → AreSameBut (Err refusal) (Ok fellow)
    by (inl memory) = inr (inl (ap Err memory))
    by (inr apart) = inl (sym (is apart) ∙ also)
same-answer answered (Err refusal) (Err other) is also = by (memory-or-not refusal) (memory-or-not other)
  where
    by : (refusal ≡ Memory) ⊎ (refusal ≢ Memory) → (other ≡ Memory) ⊎ (other ≢ Memory) → AreSameBut (Err refusal) (Err other)
    by (inl memory) second = inr (inl (ap Err memory))
    by (inr apart) (inl memory) = inr (inr (ap Err memory))
    by (inr apart) (inr different) = inl (sym (is apart) ∙ also different)

-- or memory was refused for something beside it
same-but : (g : Terms) (past : List Request) (request : Request) (one other : Result Answer Refusal) (X Y : Type 0)
    → IsAnswered g past request one ⊎ ((one ≡ Err Memory) × X) → IsAnswered g past request other ⊎ ((other ≡ Err Memory) × Y) → AreSameBut one other
same-but g past request one other X Y (inl is) (inl also) = same-answer (live_answer g.config past request) one other is.reply also.reply
same-but g past request one other X Y (inr memory) second = inr (inl memory.0)
same-but g past request one other X Y (inl is) (inr memory) = inr (inr memory.0)

-- ---- runs

-- a line that was refused so
abbrev pub refused_line : List ℕ → Refusal → Option LineRefused
refused_line text refusal = Some (record { text = text; fault = Refused refusal })

-- memory was refused at a line
abbrev pub IsStopped : Ran → Type 0
IsStopped ran = (text : List ℕ) × (ran.refused ≡ refused_line text Memory)

abbrev pub AreSameRuns : Ran → Ran → Type 0
AreSameRuns one other = (one ≡ other) ⊎ (IsStopped one ⊎ IsStopped other)

run-same : (g : Terms) (past : List Request) (done : ℕ) (lines : List LineAsked) (one other : Ran) → IsRun g past done lines one → IsRun g past done lines other
    → AreSameRuns one other
run-same g past done [] one other is also = inl (is ∙ sym also)
run-same g past done (line ∷ lines) one other is also =
    by line.asking (λ now first second. run-same g now line.end lines one other first second) is also
  where
    stopped : (ran : Ran) (refusal : Refusal) → ran ≡ stopped_at past done line.text (Refused refusal) → refusal ≡ Memory → IsStopped ran
    stopped ran refusal stops memory =
        (line.text, ap (λ (r : Ran). r.refused) stops ∙ ap (refused_line line.text) memory)

    -- one goes on and the other stops
    apart : (ran : Ran) (answer : Answer) (refusal : Refusal) → ran ≡ stopped_at past done line.text (Refused refusal)
        → AreSameBut (Ok answer) (Err refusal) → IsStopped ran
    apart ran answer refusal stops (inl same) = absurd (cc)
    apart ran answer refusal stops (inr (inl memory)) = absurd (cc)
    apart ran answer refusal stops (inr (inr memory)) = stopped ran refusal stops (cc)

    -- both stop
    stop-both : (x y : Refusal) → one ≡ stopped_at past done line.text (Refused x) → other ≡ stopped_at past done line.text (Refused y)
        → AreSameBut (Err x) (Err y) → AreSameRuns one other
    stop-both x y first second (inl same) =
        let refusals : x ≡ y = cc in
        inl (first ∙ (ap (λ (r : Refusal). stopped_at past done line.text (Refused r)) refusals ∙ sym second))
    stop-both x y first second (inr (inl memory)) = inr (inl (stopped one x first (cc)))
    stop-both x y first second (inr (inr memory)) = inr (inr (stopped other y second (cc)))

    by : (asking : Asking)
        → ((now : List Request) → IsRun g now line.end lines one → IsRun g now line.end lines other → AreSameRuns one other)
        → IsLineRun g past done line.text (λ (now : List Request). IsRun g now line.end lines one) one asking
        → IsLineRun g past done line.text (λ (now : List Request). IsRun g now line.end lines other) other asking → AreSameRuns one other
    by AsksNothing rest first second = rest past first second
    by IsWrongLine rest (inl first) (inl second) = inl (first ∙ sym second)
    by IsWrongLine rest (inr first) second = inr (inl (stopped one Memory first refl))
    by IsWrongLine rest (inl first) (inr second) = inr (inr (stopped other Memory second refl))
    by IsTooLong rest (inl first) (inl second) = inl (first ∙ sym second)
    by IsTooLong rest (inr first) second = inr (inl (stopped one Memory first refl))
    by IsTooLong rest (inl first) (inr second) = inr (inr (stopped other Memory second refl))
    by (AsksFor request) rest (Ok x, ax, first) (Ok y, ay, second) = rest (request ∷ past) first second
    by (AsksFor request) rest (Ok x, ax, first) (Err y, ay, second) =
        inr (inr (apart other x y second (same-but g past request (Ok x) (Err y) _ _ ax ay)))
    by (AsksFor request) rest (Err x, ax, first) (Ok y, ay, second) =
        inr (inl (apart one y x first (same-but g past request (Ok y) (Err x) _ _ ay ax)))
    by (AsksFor request) rest (Err x, ax, first) (Err y, ay, second) =
        stop-both x y first second (same-but g past request (Err x) (Err y) _ _ ax ay)

lines-same : (g : Terms) (past : List Request) (lines : List LineAsked) (one other : Ran) → MayRun g past lines one → MayRun g past lines other → AreSameRuns one other
lines-same g past lines one other (inl is) (inl also) = run-same g past 0 lines one other is also
lines-same g past lines one other (inr stops) also = inr (inl ([], ap (λ (r : Ran). r.refused) stops.0))
lines-same g past lines one other (inl is) (inr stops) = inr (inr ([], ap (λ (r : Ran). r.refused) stops.0))

-- ---- steps

-- a reply tells of refused memory: ENOMEM, or that fewer bytes were done than these
abbrev pub Shows : ℕ → Option Reply → Type 0
Shows size reply =
    (reply ≡ Some (replies.Error ENOMEM)) ⊎ ((done : ℕ) × (done < size) × (reply ≡ Some (replies.Written done)))

-- a step tells of refused memory wherever it can be refused
abbrev pub IsFrank : Terms → List Request → ℕ → Step → Type 0
IsFrank g past size (Asks request outcome) = (outcome (Err Memory)).reply ≡ Some (replies.Error ENOMEM)
IsFrank g past size (AsksNoting request takes outcome noting) = (outcome (Err Memory)).reply ≡ Some (replies.Error ENOMEM)
IsFrank g past size (AsksLines lines outcome noting) = (ran : Ran) → MayRun g past lines ran → IsStopped ran → Shows size (outcome ran).reply
IsFrank g past size _ = Unit {0}

-- two replies and what follows them are one, or one of them tells of refused memory
abbrev pub AreOne : ℕ → Option Reply → Service → Option Reply → Service → Type 0
AreOne size reply after fellow last = ((reply ≡ fellow) × (after ≡ last)) ⊎ (Shows size reply ⊎ Shows size fellow)

-- what is replied and comes after, or ENOMEM
or-memory : (size : ℕ) (told : Option Reply) (next : Service) (X Y : Type 0) (reply fellow : Option Reply) (after last : Service)
    → ((reply ≡ told) × (after ≡ next)) ⊎ X → (X → reply ≡ Some (replies.Error ENOMEM))
    → ((fellow ≡ told) × (last ≡ next)) ⊎ Y → (Y → fellow ≡ Some (replies.Error ENOMEM)) → AreOne size reply after fellow last
or-memory size told next X Y reply fellow after last (inl is) none (inl also) neither = inl (is.0 ∙ sym also.0, is.1 ∙ sym also.1)
or-memory size told next X Y reply fellow after last (inr memory) none second neither = inr (inl (inl (none memory)))
or-memory size told next X Y reply fellow after last (inl is) none (inr memory) neither = inr (inr (inl (neither memory)))

-- what an answer or a run gives, which is one, or else tells
by-answer : {A : Type 0} (size : ℕ) (told : A → Option Reply) (next : A → Service) (P : A → Type 0) → ((a : A) → P a → Shows size (told a))
    → (one other : A) → (one ≡ other) ⊎ (P one ⊎ P other) → (reply fellow : Option Reply) (after last : Service)
    → reply ≡ told one → after ≡ next one → fellow ≡ told other → last ≡ next other → AreOne size reply after fellow last
by-answer size told next P tells one other (inl same) reply fellow after last is now also following =
    inl (is ∙ (ap told same ∙ sym also), now ∙ (ap next same ∙ sym following))
by-answer size told next P tells one other (inr (inl first)) reply fellow after last is now also following =
    inr (inl (subst (Shows size) (sym is) (tells one first)))
by-answer size told next P tells one other (inr (inr second)) reply fellow after last is now also following =
    inr (inr (subst (Shows size) (sym also) (tells other second)))

shown : (size : ℕ) (told : Result Answer Refusal → Option Reply) → told (Err Memory) ≡ Some (replies.Error ENOMEM)
    → (a : Result Answer Refusal) → a ≡ Err Memory → Shows size (told a)
shown size told frank a memory = inl (ap told memory ∙ frank)

pub does-one : (g : Terms) (s : Service) (size : ℕ) (step : Step) → IsFrank g s.past size step → (reply fellow : Option Reply) (after last : Service)
    → Does g s step reply after → Does g s step fellow last → AreOne size reply after fellow last
does-one g s size (Plain outcome) frank reply fellow after last is also = inl (is.0 ∙ sym also.0, is.1 ∙ sym also.1)
does-one g s size (Takes outcome) frank reply fellow after last is also =
    or-memory size outcome.reply (after_outcome s.past outcome s) _ _ reply fellow after last is (λ m. m.0) also (λ m. m.0)
does-one g s size (Asks request outcome) frank reply fellow after last (x, ax, rx, sx) (y, ay, ry, sy) =
    by-answer size (λ (a : Result Answer Refusal). (outcome a).reply) (λ (a : Result Answer Refusal). after_outcome (past_after a request s.past) (outcome a) s) (λ (a : Result Answer Refusal). a ≡ Err Memory)
    (shown size (λ (a : Result Answer Refusal). (outcome a).reply) frank) x y (same-but g s.past request x y ⊥ ⊥ (inl ax) (inl ay)) reply fellow after last rx sx ry sy
does-one g s size (Parks read) frank reply fellow after last is also =
    or-memory size None (with_read read s) _ _ reply fellow after last is (λ m. m.0) also (λ m. m.0)
does-one g s size (Interrupts unique) frank reply fellow after last is also = inl (is.0 ∙ sym also.0, is.1 ∙ sym also.1)
does-one g s size (AsksNoting request takes outcome noting) frank reply fellow after last (x, ax, rx, sx) (y, ay, ry, sy) =
    by-answer size (λ (a : Result Answer Refusal). (outcome a).reply) (λ (a : Result Answer Refusal). after_noting (past_after a request s.past) (outcome a) (noting a) s) (λ (a : Result Answer Refusal). a ≡ Err Memory)
    (shown size (λ (a : Result Answer Refusal). (outcome a).reply) frank) x y (same-but g s.past request x y _ _ ax ay) reply fellow after last rx sx ry sy
does-one g s size (Tells noting takes outcome) frank reply fellow after last is also =
    or-memory size outcome.reply (after_noting s.past outcome noting s) _ _ reply fellow after last is (λ m. m.1) also (λ m. m.1)
does-one g s size (AsksLines lines outcome noting) frank reply fellow after last (x, rx, ox, sx) (y, ry, oy, sy) =
    by-answer size (λ (ran : Ran). (outcome ran).reply) (λ (ran : Ran). after_noting ran.past (outcome ran) (noting ran) s)
    (λ (ran : Ran). IsStopped ran × MayRun g s.past lines ran) (λ ran stops. frank ran stops.1 stops.0) x y (with-runs (lines-same g s.past lines x y rx ry))
    reply fellow after last ox sx oy sy
  where
    with-runs : AreSameRuns x y → (x ≡ y) ⊎ ((IsStopped x × MayRun g s.past lines x) ⊎ (IsStopped y × MayRun g s.past lines y))
    with-runs (inl same) = inl same
    with-runs (inr (inl first)) = inr (inl (first, rx))
    with-runs (inr (inr second)) = inr (inr (second, ry))
does-one g s size (Counts count outcome) frank reply fellow after last is also =
    or-memory size outcome.reply (after_count count outcome s) _ _ reply fellow after last is (λ m. m.0) also (λ m. m.0)
