-- What a gate answered, command by command and part by part.
use Rattle.std.proofs.Common.{◌≡◌, ◌≢◌, ℕ, ◌+◌, ◌<◌, ◌⊎◌, inl, inr, Bool, true, false, List, [], ◌∷◌, ◌++◌, length, Result, Option, Some, None, map, get_or, refl, ap, sym, ◌∙◌, subst, arith, length-append}
use Rattle.std.proofs.lemmas.Bool.{cases_lt}
use Rattle.std.proofs.lemmas.List.{get_or_append_left, get_or_push, map-append, length-map}
use Rattle.tracer_specification.specs.Blocks.{Trail}
use Rattle.trace_command.specs.Commands.{Command}
use Rattle.trace_command.specs.declared.command.Reply.{Reply}
use Rattle.trace_command.specs.declared.refusal.Refusal.{Refusal}
use Rattle.trace_workers.specs.Gates.{HasCommand, HasReply, LetsAllPass, LetsBegunPass, StopsOne}
use Rattle.trace_workers.specs.Ends.{EndsAs, EndAs, told_fault, reported}
use Rattle.trace_workers.specs.PartRuns.{IsGated}
use Rattle.trace_workers.specs.declared.fault.BlockFault.{BlockFault}
use Rattle.trace_workers.specs.declared.fault.BlockFault.TheVariants.{Memory, Stopped, NoThread}
use Rattle.trace_workers.specs.declared.gate.Point.{Point}
use Rattle.trace_workers.specs.declared.gate.Point.TheVariants.{Asking, Answered}

abbrev Answer : Type 0
Answer = Result Reply Refusal

-- ---- one part

-- a command is one of those so far, or the next
at_next : (P : ℕ → Type 0) (n call : ℕ) → ((k : ℕ) → k < n → P k) → P n → call < n + 1 → P call
at_next P n call before next within =
    elim (cases_lt call n) [ inl below ↦ before call below | inr above ↦ let is : n ≡ call = omega arith in subst P is next ]

-- nothing was asked
pub gated_none : (may : ℕ → Point → Bool → Type 0) (commands : List Command) (fault : Option BlockFault) → fault ≢ Some Stopped
    → IsGated may commands [] fault
gated_none may commands fault goes_on = record {
  asking = λ call within. absurd (omega (arith, within));
  answered = λ call within last. absurd (omega (arith, within));
  stopped = λ is. absurd (goes_on is);
  place = λ is. absurd (goes_on is);
  short = λ is. inr refl;
  none = λ is. refl;
}

-- further commands were not asked
pub gated_more : (may : ℕ → Point → Bool → Type 0) (commands others : List Command) (replies : List Answer) (fault : Option BlockFault)
    → IsGated may commands replies fault → IsGated may (commands ++ others) replies fault
gated_more may commands others replies fault gated = record {
  asking = gated.asking;
  answered = gated.answered;
  stopped = λ is. let at = gated.stopped is in (at.0, at.1, omega (arith, at.2, length-append commands others), at.3);
  place = λ is. elim (gated.place is) [ inl here ↦ inl (omega (arith, here.0, length-append commands others), here.1) | inr after ↦ inr after ];
  short = λ is. elim (gated.short is) [ inl here ↦ inl (omega (arith, here, length-append commands others)) | inr empty ↦ inr empty ];
  none = gated.none;
}

-- the next command was not to be asked
pub gated_before : (may : ℕ → Point → Bool → Type 0) (commands : List Command) (replies : List Answer) (command : Command) (call : ℕ)
    → length commands ≡ length replies → length replies ≡ call → may call Asking false
    → IsGated may commands replies None → IsGated may (commands ++ command ∷ []) replies (Some Stopped)
gated_before may commands replies command call same is answer gated = record {
  asking = gated.asking;
  answered = λ n within last. gated.answered n within (λ e. absurd cc);
  stopped = λ e. (call, Asking, omega (arith, same, is, length-append commands (command ∷ [])), answer);
  place = λ e. inl (omega (arith, same, length-append commands (command ∷ [])), subst (λ (n : ℕ). may n Asking false) (sym is) answer);
  short = λ e. absurd cc;
  none = λ e. absurd cc;
}

-- the next command was asked for nothing
pub gated_memory : (may : ℕ → Point → Bool → Type 0) (commands : List Command) (replies : List Answer) (command : Command) → length commands ≡ length replies
    → IsGated may commands replies None → IsGated may (commands ++ command ∷ []) replies (Some Memory)
gated_memory may commands replies command same gated = record {
  asking = gated.asking;
  answered = λ n within last. gated.answered n within (λ e. absurd cc);
  stopped = λ e. absurd cc;
  place = λ e. absurd cc;
  short = λ e. inl (omega (arith, same, length-append commands (command ∷ [])));
  none = λ e. absurd cc;
}

-- the next command was answered, and the worker went on
pub gated_after : (may : ℕ → Point → Bool → Type 0) (commands : List Command) (replies all : List Answer) (command : Command) (answer : Answer) (call : ℕ)
    → all ≡ replies ++ answer ∷ [] → length replies ≡ call → may call Asking true → may call Answered true
    → IsGated may commands replies None → IsGated may (commands ++ command ∷ []) all None
gated_after may commands replies all command answer call grown is first second gated =
    let many : length all ≡ call + 1 = rw grown (omega (arith, is, length-append replies (answer ∷ []))) in
    record {
      asking = λ n within. at_next (λ n. may n Asking true) call n (λ n below. gated.asking n (omega (arith, below, is))) first (omega (arith, within, many));
      answered = λ n within last.
          at_next (λ n. may n Answered true) call n (λ n below. gated.answered n (omega (arith, below, is)) (λ e. absurd cc)) second (omega (arith, within, many));
      stopped = λ e. absurd cc;
      place = λ e. absurd cc;
      short = λ e. absurd cc;
      none = λ e. absurd cc;
    }

-- the next command was answered, and the worker was stopped there
pub gated_stop : (may : ℕ → Point → Bool → Type 0) (commands : List Command) (replies all : List Answer) (command : Command) (answer : Answer) (call : ℕ)
    → all ≡ replies ++ answer ∷ [] → length commands ≡ length replies → length replies ≡ call → may call Asking true → may call Answered false
    → IsGated may commands replies None → IsGated may (commands ++ command ∷ []) all (Some Stopped)
gated_stop may commands replies all command answer call grown same is first second gated =
    let many : length all ≡ call + 1 = rw grown (omega (arith, is, length-append replies (answer ∷ []))) in
    record {
      asking = λ n within. at_next (λ n. may n Asking true) call n (λ n below. gated.asking n (omega (arith, below, is))) first (omega (arith, within, many));
      answered = λ n within last. let more : n + 1 < length all = last refl in gated.answered n (omega (arith, more, many, is)) (λ e. absurd cc);
      stopped = λ e. (call, Answered, omega (arith, same, is, length-append commands (command ∷ [])), second);
      place = λ e. inr (call, sym many, second);
      short = λ e. absurd cc;
      none = λ e. absurd cc;
    }

-- a part that was asked whole was let pass everywhere
pub gated_whole : (may : ℕ → Point → Bool → Type 0) (commands : List Command) (replies : List Answer) → IsGated may commands replies None
    → length replies ≡ length commands → (call : ℕ) (point : Point) → call < length commands → may call point true
gated_whole may commands replies gated same call Asking within = gated.asking call (omega (arith, within, same))
gated_whole may commands replies gated same call Answered within = gated.answered call (omega (arith, within, same)) (λ e. absurd cc)

-- ---- the parts of a block

-- one part more
pub pass_push : (may : ℕ → ℕ → Point → Bool → Type 0) (all parts : List (List Command)) (commands : List Command) (thread : ℕ)
    → all ≡ parts ++ commands ∷ [] → length parts ≡ thread → LetsAllPass may parts
    → ((call : ℕ) (point : Point) → call < length commands → may thread call point true) → LetsAllPass may all
pass_push may all parts commands thread grown is before here = λ t call point has.
    let has' : HasCommand (parts ++ commands ∷ []) t call = rw grown at has in
    elim (cases_lt t thread) [
      | inl below ↦
          let same = get_or_append_left parts (commands ∷ []) [] t (omega (arith, below, is)) in
          before t call point (omega (arith, below, is), rw same at has'.1)
      | inr above ↦
          let next : t ≡ thread = omega (arith, has'.0, above, is, length-append parts (commands ∷ [])) in
          let same = get_or_push parts commands [] t (omega (arith, next, is)) in
          subst (λ n. may n call point true) (sym next) (here call point (rw same at has'.1))
    ]

-- no part was begun
pub begun_pass_none : (may : ℕ → ℕ → Point → Bool → Type 0) → LetsBegunPass may []
begun_pass_none may = record { asking = λ thread call has. absurd (omega (arith, has.0)); answered = λ thread call has. absurd (omega (arith, has.0)) }

-- a reply of one part more is one of those before, or its own
reply_push : (trails : List Trail) (trail : Trail) (thread call : ℕ) → HasReply (trails ++ trail ∷ []) thread call
    → HasReply trails thread call ⊎ ((thread ≡ length trails) × (call < length trail.replies))
reply_push trails trail thread call has =
    let each : List (List Answer) = map (λ (t : Trail). t.replies) trails in
    let grown : map (λ (t : Trail). t.replies) (trails ++ trail ∷ []) ≡ each ++ trail.replies ∷ [] = map-append (λ (t : Trail). t.replies) trails (trail ∷ []) in
    let many : length each ≡ length trails = length-map trails (λ (t : Trail). t.replies) in
    let own : call < length (get_or (each ++ trail.replies ∷ []) thread []) = rw grown at has.1 in
    elim (cases_lt thread (length trails)) [
      | inl below ↦ inl (below, rw (get_or_append_left each (trail.replies ∷ []) [] thread (omega (arith, below, many))) at own)
      | inr above ↦
          let next : thread ≡ length trails = omega (arith, has.0, above, length-append trails (trail ∷ [])) in
          inr (next, rw (get_or_push each trail.replies [] thread (omega (arith, next, many))) at own)
    ]

-- one part more
pub begun_pass_push : (may : ℕ → ℕ → Point → Bool → Type 0) (trails : List Trail) (trail : Trail) (thread : ℕ) (commands : List Command)
    (fault : Option BlockFault) → length trails ≡ thread → LetsBegunPass may trails → IsGated (may thread) commands trail.replies fault
    → LetsBegunPass may (trails ++ trail ∷ [])
begun_pass_push may trails trail thread commands fault is before gated = record {
  asking = λ t call has.
      elim (reply_push trails trail t call has) [
        | inl earlier ↦ before.asking t call earlier
        | inr own ↦ subst (λ (n : ℕ). may n call Asking true) (sym (own.0 ∙ is)) (gated.asking call own.1)
      ];
  answered = λ t call has.
      elim (reply_push trails trail t (call + 1) has) [
        | inl earlier ↦ before.answered t call earlier
        | inr own ↦ subst (λ (n : ℕ). may n call Answered true) (sym (own.0 ∙ is)) (gated.answered call (omega (arith, own.1)) (λ e. own.1))
      ];
}

-- one of the parts before was stopped
pub stops_before : (may : ℕ → ℕ → Point → Bool → Type 0) (all parts : List (List Command)) (commands : List Command)
    → all ≡ parts ++ commands ∷ [] → StopsOne may parts → StopsOne may all
stops_before may all parts commands grown one = record {
  thread = one.thread;
  call = one.call;
  point = one.point;
  has = rw grown (
    omega (arith, one.has.0, length-append parts (commands ∷ [])),
    rw (get_or_append_left parts (commands ∷ []) [] one.thread one.has.0) one.has.1,
  );
  stopped = one.stopped;
}

-- the last part was stopped
pub stops_last : (may : ℕ → ℕ → Point → Bool → Type 0) (all parts : List (List Command)) (commands : List Command) (thread : ℕ) (replies : List Answer)
    (fault : Option BlockFault) → all ≡ parts ++ commands ∷ [] → length parts ≡ thread → IsGated (may thread) commands replies fault → fault ≡ Some Stopped
    → StopsOne may all
stops_last may all parts commands thread replies fault grown is gated told =
    let at = gated.stopped told in
    record {
      thread = thread;
      call = at.0;
      point = at.1;
      has = rw grown (omega (arith, is, length-append parts (commands ∷ [])), rw (get_or_push parts commands [] thread is) at.2);
      stopped = at.3;
    }

-- where Stopped is told there was a Stopped
pub told_stopped : (told one other : Option BlockFault) → told ≡ told_fault one other → told ≡ Some Stopped → (one ≡ Some Stopped) ⊎ (other ≡ Some Stopped)
told_stopped told None other is stopped = inr (cc)
told_stopped told (Some Memory) other is stopped = absurd cc
told_stopped told (Some Stopped) other is stopped = inl refl
told_stopped told (Some NoThread) None is stopped = absurd cc
told_stopped told (Some NoThread) (Some Memory) is stopped = absurd cc
told_stopped told (Some NoThread) (Some Stopped) is stopped = inr refl
told_stopped told (Some NoThread) (Some NoThread) is stopped = absurd cc

-- where the block tells Stopped, one of its two faults is Stopped
pub stopped_early : (P : Type 0) (result before fault : Option BlockFault) → result ≡ told_fault before fault
    → (before ≡ Some Stopped → P) → (fault ≡ Some Stopped → P) → result ≡ Some Stopped → P
stopped_early P result before fault is earlier last told =
    elim (told_stopped result before fault is told) [ inl e ↦ earlier e | inr e ↦ last e ]

-- ---- how parts end

-- of one part
pub ends_as : (may : ℕ → Point → Bool → Type 0) (commands : List Command) (replies : List Answer) (fault : Option BlockFault)
    → IsGated may commands replies fault → (fault ≡ None → length replies ≡ length commands) → EndsAs may commands replies fault
ends_as may commands replies None gated whole = whole refl
ends_as may commands replies (Some Memory) gated whole = gated.short refl
ends_as may commands replies (Some Stopped) gated whole = gated.place refl
ends_as may commands replies (Some NoThread) gated whole = gated.none refl

-- one part more
pub end_push : (may : ℕ → ℕ → Point → Bool → Type 0) (first thread : ℕ) (parts : List (List Command)) (commands : List Command) (trails : List Trail) (trail : Trail)
    (ends : List (Option BlockFault)) (end : Option BlockFault) → first + length parts ≡ thread → EndAs may first parts trails ends
    → EndsAs (may thread) commands trail.replies end → EndAs may first (parts ++ commands ∷ []) (trails ++ trail ∷ []) (ends ++ end ∷ [])
end_push may first thread [] commands [] trail [] end is before here =
    let same : thread ≡ first = omega (arith, is) in
    (subst (λ (n : ℕ). EndsAs (may n) commands trail.replies end) same here, tt)
end_push may first thread [] commands [] trail (other ∷ ends) end is before here = absurd before
end_push may first thread [] commands (one ∷ trails) trail ends end is before here = absurd before
end_push may first thread (own ∷ parts) commands [] trail ends end is before here = absurd before
end_push may first thread (own ∷ parts) commands (one ∷ trails) trail [] end is before here = absurd before
end_push may first thread (own ∷ parts) commands (one ∷ trails) trail (other ∷ ends) end is before here =
    (before.0, end_push may (first + 1) thread parts commands trails trail ends end (omega (arith, is)) before.1 here)

-- it makes no difference which two of three faults are compared first
told_either : (a b c : Option BlockFault) → told_fault a (told_fault b c) ≡ told_fault (told_fault a b) c
told_either None b c = refl
told_either (Some Memory) b c = refl
told_either (Some Stopped) None c = refl
told_either (Some Stopped) (Some Memory) c = refl
told_either (Some Stopped) (Some Stopped) None = refl
told_either (Some Stopped) (Some Stopped) (Some Memory) = refl
told_either (Some Stopped) (Some Stopped) (Some Stopped) = refl
told_either (Some Stopped) (Some Stopped) (Some NoThread) = refl
told_either (Some Stopped) (Some NoThread) None = refl
told_either (Some Stopped) (Some NoThread) (Some Memory) = refl
told_either (Some Stopped) (Some NoThread) (Some Stopped) = refl
told_either (Some Stopped) (Some NoThread) (Some NoThread) = refl
told_either (Some NoThread) None c = refl
told_either (Some NoThread) (Some Memory) c = refl
told_either (Some NoThread) (Some Stopped) None = refl
told_either (Some NoThread) (Some Stopped) (Some Memory) = refl
told_either (Some NoThread) (Some Stopped) (Some Stopped) = refl
told_either (Some NoThread) (Some Stopped) (Some NoThread) = refl
told_either (Some NoThread) (Some NoThread) None = refl
told_either (Some NoThread) (Some NoThread) (Some Memory) = refl
told_either (Some NoThread) (Some NoThread) (Some Stopped) = refl
told_either (Some NoThread) (Some NoThread) (Some NoThread) = refl

told_alone : (one : Option BlockFault) → told_fault one None ≡ one
told_alone None = refl
told_alone (Some Memory) = refl
told_alone (Some Stopped) = refl
told_alone (Some NoThread) = refl

reported_push : (ends : List (Option BlockFault)) (end : Option BlockFault) → reported (ends ++ end ∷ []) ≡ told_fault (reported ends) end
reported_push [] end = told_alone end
reported_push (one ∷ ends) end = ap (told_fault one) (reported_push ends end) ∙ told_either one (reported ends) end

-- what is told of parts, and of one more
pub told_push : (told before end : Option BlockFault) (ends : List (Option BlockFault)) → told ≡ told_fault before end → before ≡ reported ends → told ≡ reported (ends ++ end ∷ [])
told_push told before end ends is all = is ∙ ap (λ (one : Option BlockFault). told_fault one end) all ∙ sym (reported_push ends end)
