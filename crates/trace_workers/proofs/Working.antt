-- How what workers did goes on.
use Rattle.std.proofs.Common.{◌≡◌, ◌≢◌, ℕ, zero, suc, ◌≤◌, ◌<◌, ◌^◌, Bool, true, false, cond, ◌&&◌, nat_le, nat_lt, List, [], ◌∷◌, ◌++◌, take, length, All, Any, AllPairs, Result, Ok, Err, IfOk, IfErr, IsTrue, ◌↔◌, Option, Some, None, refl, sym, ap, ◌∙◌, subst, append_assoc, append-nil, arith}
use Rattle.std.proofs.lemmas.Bool.Decides.{nat_tests}
use Rattle.std.proofs.lemmas.List.{take-append-le, length-append, get_or_append_left}
use Rattle.std.proofs.lemmas.List.Elements.{All-append, All-nil, All-cons, All-head, All-weaker, All-push}
use Rattle.ticket_lock.specs.declared.views.View.{View}
use Rattle.ticket_lock.specs.Entries.{is_under, entries_under}
use Rattle.ticket_lock.specs.Moves.{after_look}
use Rattle.tracer_specification.specs.History.{IsLegal}
use Rattle.shared_book.specs.Bases.{numbers_of}
use Rattle.tracer_specification.specs.Trails.{IsTrail, IsWithout, IsRefusedAfter}
use Rattle.tracer_specification.specs.Blocks.{Trail, StandsIn, IsUnworn}
use Rattle.shared_book.specs.Asks.{GoesOn, IsDone, IsRefused, IsUndone, AreOthers}
use Rattle.trace_workers.specs.PartRuns.{IsNameOf, HasRun, begun_trail, HasAsked}
use Rattle.trace_command.specs.Commands.{Command}
use Rattle.trace_command.specs.declared.command.Config.{Config}
use Rattle.trace_command.specs.declared.command.Entry.{Entry}
use Rattle.trace_command.specs.declared.command.Reply.{Reply}
use Rattle.trace_command.specs.declared.refusal.Refusal.{Refusal}
use Rattle.trace_command.specs.declared.refusal.Refusal.TheVariants as Refusals
use Rattle.trace_command.specs.declared.refusal.Refusal.TheVariants.{Worn}
use Rattle.trace_workers.specs.declared.fault.BlockFault.{BlockFault}
use Rattle.tracer_specification.proofs.Trailing.{trail-append, trail-done, trail-refused}

abbrev Answer : Type 0
Answer = Result Reply Refusal

-- ---- entries under names

-- an entry that is not kept is under none of the names
under_none : (low end by : ℕ) → (nat_le low by && nat_lt by end) ≡ false → (low ≤ by) × (by < end) → ⊥
under_none low end by none (above, below) = grind (arith, nat_tests, none, above, below)

cond_nil : {X : Type 0} (b : Bool) (x : X) (xs : List X) → cond b (x ∷ xs) xs ≡ [] → (b ≡ false) × (xs ≡ [])
cond_nil true x xs e = absurd cc
cond_nil false x xs e = (refl, e)

-- where none is kept, none is under the names
pub none_under : (low end : ℕ) (entries : List Entry) → entries_under (λ (e : Entry). e.by) low end entries ≡ []
    → All (λ (e : Entry). (low ≤ e.by) × (e.by < end) → ⊥) entries
none_under low end [] none = All-nil (λ (e : Entry). (low ≤ e.by) × (e.by < end) → ⊥)
none_under low end (entry ∷ entries) none =
    let k = cond_nil (is_under (λ (e : Entry). e.by) low end entry) entry (entries_under (λ (e : Entry). e.by) low end entries) none in
    All-cons (λ (e : Entry). (low ≤ e.by) × (e.by < end) → ⊥) entry entries (under_none low end entry.by k.0) (none_under low end entries k.1)

-- so none is of a caller with one of the names
pub without_name : (low end by : ℕ) (entries : List Entry) → All (λ (e : Entry). (low ≤ e.by) × (e.by < end) → ⊥) entries → low ≤ by → by < end
    → IsWithout by entries
without_name low end by entries none above below =
    All-weaker (λ (e : Entry). (low ≤ e.by) × (e.by < end) → ⊥) (λ (e : Entry). e.by ≢ by)
    (λ e none same. none (rw same (above, below))) entries none

-- ---- trails side by side

-- of one trail among several
pub one : (P : Trail → Type 0) (trail : Trail) → P trail → All P (trail ∷ [])
one P trail p = All-cons P trail [] p (All-nil P)

pub only : (P : Trail → Type 0) (trail : Trail) → All P (trail ∷ []) → P trail
only P trail all = All-head P trail [] all

-- no two of one
alone : (trail : Trail) → AllPairs (λ (one other : Trail). one.by ≢ other.by) (trail ∷ [])
alone trail = λ i j d below within. absurd (omega arith)

-- what is true of some of the first is true of some of all
pub any_append : (P : Trail → Type 0) (trails : List Trail) (trail : Trail) → Any P trails → Any P (trails ++ trail ∷ [])
any_append P trails trail (k, x, within, at, holds) =
    (k, x, omega (arith, length-append trails (trail ∷ [])), get_or_append_left trails (trail ∷ []) x k within ∙ at, holds)

-- nothing was done
pub run_none : (v : View Entry) → HasRun v v []
run_none v = record {
  goes_on = record { low = refl; end = refl; base = refl; front = omega arith; ahead = λ known. known };
  after = [];
  seen = sym (append-nil v.seen);
  each = λ g is. All-nil (StandsIn g v.seen []);
  named = All-nil (λ (trail : Trail). IsNameOf v trail.by);
  distinct = λ i j d below within. absurd (omega arith);
  callers = λ g is. All-nil (λ (entry : Entry). IsNameOf v entry.by → Any (λ (trail : Trail). trail.by ≡ entry.by) []);
  legal = λ g is legal. legal;
  unworn = λ below. All-nil (λ (trail : Trail). IsUnworn trail.replies);
}

-- a worker that did nothing
pub asked_none : (v : View Entry) (commands : List Command) (fault : Option BlockFault) → v.low < v.end → (fault ≡ None → 0 ≡ length commands)
    → HasAsked v v commands [] fault
asked_none v commands fault some all = record {
  run = record {
    goes_on = record { low = refl; end = refl; base = refl; front = omega arith; ahead = λ known. known };
    after = [];
    seen = sym (append-nil v.seen);
    each = λ g is. one (StandsIn g v.seen []) (begun_trail v.low commands []) (All-nil (λ (entry : Entry). entry.by ≢ v.low));
    named = one (λ (trail : Trail). IsNameOf v trail.by) (begun_trail v.low commands []) (omega arith, some);
    distinct = alone (begun_trail v.low commands []);
    callers = λ g is. All-nil (λ (entry : Entry). IsNameOf v entry.by → Any (λ (trail : Trail). trail.by ≡ entry.by) (begun_trail v.low commands [] ∷ []));
    legal = λ g is legal. legal;
    unworn = λ below. one (λ (trail : Trail). IsUnworn trail.replies) (begun_trail v.low commands []) (All-nil (λ (reply : Answer). reply ≢ Err Worn));
  };
  few = omega arith;
  whole = all;
}

-- the caller of the one trail
pub of_any : (trail : Trail) (by : ℕ) → Any (λ (t : Trail). t.by ≡ by) (trail ∷ []) → trail.by ≡ by
of_any trail by (zero, x, within, at, is) = ap (λ (t : Trail). t.by) at ∙ is
of_any trail by (suc k, x, within, at, is) = absurd (omega (arith, within))

any_of : (trail : Trail) (by : ℕ) → trail.by ≡ by → Any (λ (t : Trail). t.by ≡ by) (trail ∷ [])
any_of trail by is = (0, trail, omega arith, refl, is)

-- what was asked in two pieces, the first of them whole
asked_both : (commands others : List Command) (replies answers : List Answer) → length replies ≡ length commands
    → take (length (replies ++ answers)) (commands ++ others) ≡ take (length replies) commands ++ take (length answers) others
asked_both [] others [] answers whole = refl
asked_both [] others (reply ∷ replies) answers whole = absurd (omega (arith, whole))
asked_both (command ∷ commands) others [] answers whole = absurd (omega (arith, whole))
asked_both (command ∷ commands) others (reply ∷ replies) answers whole =
    ap (λ (cs : List Command). command ∷ cs) (asked_both commands others replies answers (omega (arith, whole)))

-- what was asked of a part that stopped is what was asked of its beginning
pub asked_stop : (v w : View Entry) (commands others : List Command) (replies : List Answer) (fault : BlockFault)
    → HasAsked v w commands replies (Some fault) → HasAsked v w (commands ++ others) replies (Some fault)
asked_stop v w commands others replies fault acts =
    let same : take (length replies) commands ≡ take (length replies) (commands ++ others) =
    sym (take-append-le (length replies) commands others acts.few) in
    record {
      run = subst (λ (asked : List Command). HasRun v w (record { by = v.low; commands = asked; replies = replies } ∷ [])) same acts.run;
      few = omega (arith, acts.few, length-append commands others);
      whole = λ e. absurd cc;
    }

-- the next calls of a worker
pub asked_then : (v w x : View Entry) (commands others : List Command) (replies answers : List Answer) (fault : Option BlockFault)
    → HasAsked v w commands replies None → HasAsked w x others answers fault → HasAsked v x (commands ++ others) (replies ++ answers) fault
asked_then v w x commands others replies answers fault first second =
    let r = first.run in
    let s = second.run in
    let few : length answers ≤ length others = second.few in
    let whole : length replies ≡ length commands = first.whole refl in
    let low : w.low ≡ v.low = r.goes_on.low in
    let asked : take (length (replies ++ answers)) (commands ++ others) ≡ take (length replies) commands ++ take (length answers) others =
    asked_both commands others replies answers whole in
    let one_ : Trail = begun_trail v.low commands replies in
    let two : Trail = begun_trail w.low others answers in
    let both : Trail = begun_trail v.low (commands ++ others) (replies ++ answers) in
    let seen : x.seen ≡ v.seen ++ (r.after ++ s.after) = s.seen ∙ ap (λ (es : List Entry). es ++ s.after) r.seen ∙ append_assoc v.seen r.after s.after in
    record {
      run = record {
        goes_on = record {
          low = s.goes_on.low ∙ r.goes_on.low;
          end = s.goes_on.end ∙ r.goes_on.end;
          base = s.goes_on.base ∙ r.goes_on.base;
          front = omega (arith, r.goes_on.front, s.goes_on.front);
          ahead = λ known. s.goes_on.ahead (r.goes_on.ahead known);
        };
        after = r.after ++ s.after;
        seen = seen;
        each = λ g is. one (StandsIn g v.seen (r.after ++ s.after)) both
            (let t : IsTrail g v.low v.seen r.after one_.commands replies = only (StandsIn g v.seen r.after) one_ (r.each g is) in
            let u : IsTrail g w.low w.seen s.after two.commands answers = only (StandsIn g w.seen s.after) two (s.each g (is ∙ sym r.goes_on.base)) in
            let u' : IsTrail g v.low (v.seen ++ r.after) s.after two.commands answers =
            subst (λ (by : ℕ). IsTrail g by (v.seen ++ r.after) s.after two.commands answers) low
            (subst (λ (es : List Entry). IsTrail g w.low es s.after two.commands answers) r.seen u) in
            subst (λ (cs : List Command). IsTrail g v.low v.seen (r.after ++ s.after) cs (replies ++ answers)) (sym asked)
            (trail-append g v.low v.seen r.after s.after one_.commands two.commands replies answers t u'));
        named = one (λ (trail : Trail). IsNameOf v trail.by) both (only (λ (trail : Trail). IsNameOf v trail.by) one_ r.named);
        distinct = alone both;
        callers = λ g is. All-append (λ (entry : Entry). IsNameOf v entry.by → Any (λ (trail : Trail). trail.by ≡ entry.by) (both ∷ [])) r.after s.after
            (All-weaker (λ (entry : Entry). IsNameOf v entry.by → Any (λ (trail : Trail). trail.by ≡ entry.by) (one_ ∷ []))
            (λ (entry : Entry). IsNameOf v entry.by → Any (λ (trail : Trail). trail.by ≡ entry.by) (both ∷ []))
            (λ e k named. any_of both e.by (of_any one_ e.by (k named))) r.after (r.callers g is))
            (All-weaker (λ (entry : Entry). IsNameOf w entry.by → Any (λ (trail : Trail). trail.by ≡ entry.by) (two ∷ []))
            (λ (entry : Entry). IsNameOf v entry.by → Any (λ (trail : Trail). trail.by ≡ entry.by) (both ∷ []))
            (λ e k named. any_of both e.by (sym low ∙ of_any two e.by (k (rw (r.goes_on.low, r.goes_on.end) named)))) s.after (s.callers g (is ∙ sym r.goes_on.base)));
        legal = λ g is legal. s.legal g (is ∙ sym r.goes_on.base) (r.legal g is legal);
        unworn = λ below. one (λ (trail : Trail). IsUnworn trail.replies) both
            (All-append (λ (reply : Answer). reply ≢ Err Worn) replies answers
            (only (λ (trail : Trail). IsUnworn trail.replies) one_ (r.unworn (omega (arith, s.goes_on.front, below))))
            (only (λ (trail : Trail). IsUnworn trail.replies) two (s.unworn below)));
      };
      few = omega (arith, few, whole, length-append replies answers, length-append commands others);
      whole = λ e. omega (arith, second.whole e, whole, length-append replies answers, length-append commands others);
    }

-- ---- one call

-- that a history was legal stays so
abbrev pub KeepsLegal : View Entry → View Entry → Type 0
KeepsLegal v w = (g : Config) → numbers_of g ≡ v.base → IsLegal g v.seen → IsLegal g w.seen

-- others' entries are of none of the pass's names
of_others : (v : View Entry) (others : List Entry) → AreOthers v others → All (λ (e : Entry). (v.low ≤ e.by) × (e.by < v.end) → ⊥) others
of_others v others none = none_under v.low v.end others none

others_callers : (v : View Entry) (others : List Entry) (trails : List Trail) → AreOthers v others
    → All (λ (entry : Entry). IsNameOf v entry.by → Any (λ (trail : Trail). trail.by ≡ entry.by) trails) others
others_callers v others trails none =
    All-weaker (λ (e : Entry). (v.low ≤ e.by) × (e.by < v.end) → ⊥) (λ (e : Entry). IsNameOf v e.by → Any (λ (t : Trail). t.by ≡ e.by) trails)
    (λ e none named. absurd (none named)) others (of_others v others none)

pub asked_done : (v w : View Entry) (command : Command) (reply : Reply) (fault : Option BlockFault)
    → v.low < v.end → GoesOn v w → IsDone v w command reply → KeepsLegal v w → HasAsked v w (command ∷ []) (Ok reply ∷ []) fault
asked_done v w command reply fault some goes done legal =
    let trail : Trail = begun_trail v.low (command ∷ []) (Ok reply ∷ []) in
    let idle : IsWithout v.low done.others = without_name v.low v.end v.low done.others (of_others v done.others done.by_others) (omega arith) some in
    record {
      run = record {
        goes_on = goes;
        after = done.others ++ done.entry ∷ [];
        seen = done.seen ∙ append_assoc v.seen done.others (done.entry ∷ []);
        each = λ g is. one (StandsIn g v.seen (done.others ++ done.entry ∷ [])) trail
            (trail-done g v.low v.seen done.others command reply done.entry idle (done.done g is));
        named = one (λ (t : Trail). IsNameOf v t.by) trail (omega arith, some);
        distinct = alone trail;
        callers = λ g is. All-push (λ (e : Entry). IsNameOf v e.by → Any (λ (t : Trail). t.by ≡ e.by) (trail ∷ [])) done.others done.entry
            (others_callers v done.others (trail ∷ []) done.by_others)
            (λ named. any_of trail done.entry.by (sym (done.done g is).of_caller));
        legal = legal;
        unworn = λ below. one (λ (t : Trail). IsUnworn t.replies) trail
            (All-cons (λ (reply : Answer). reply ≢ Err Worn) (Ok reply) [] (λ e. cc) (All-nil (λ (reply : Answer). reply ≢ Err Worn)));
      };
      few = omega arith;
      whole = λ e. refl;
    }

-- a lock that is worn has its front at the end
not_worn : (v w : View Entry) (refusal : Refusal) → w.front < 2 ^ 63 → (refusal ≡ Worn → w ≡ after_look v (2 ^ 63)) → refusal ≡ Worn → ⊥
not_worn v w refusal below worn is = let e : w.front ≡ 2 ^ 63 = ap (λ (x : View Entry). x.front) (worn is) in omega (arith, e, below)

pub asked_refused : (v w : View Entry) (command : Command) (refusal : Refusal) (fault : Option BlockFault)
    → v.low < v.end → refusal ≢ Refusals.Memory → GoesOn v w → IsRefused v w command refusal → KeepsLegal v w
    → HasAsked v w (command ∷ []) (Err refusal ∷ []) fault
asked_refused v w command refusal fault some known goes refused legal =
    let trail : Trail = begun_trail v.low (command ∷ []) (Err refusal ∷ []) in
    let idle : IsWithout v.low refused.others = without_name v.low v.end v.low refused.others (of_others v refused.others refused.by_others) (omega arith) some in
    record {
      run = record {
        goes_on = goes;
        after = refused.others;
        seen = refused.seen;
        each = λ g is. one (StandsIn g v.seen refused.others) trail
            (trail-refused g v.low v.seen refused.others command refusal idle
            (subst (λ (es : List Entry). IsRefusedAfter g es command refusal) refused.seen (refused.answer g is known)));
        named = one (λ (t : Trail). IsNameOf v t.by) trail (omega arith, some);
        distinct = alone trail;
        callers = λ g is. others_callers v refused.others (trail ∷ []) refused.by_others;
        legal = legal;
        unworn = λ below. one (λ (t : Trail). IsUnworn t.replies) trail
            (All-cons (λ (reply : Answer). reply ≢ Err Worn) (Err refusal) []
            (λ e. not_worn v w refusal below (λ worn. (refused.worn worn).same) cc) (All-nil (λ (reply : Answer). reply ≢ Err Worn)));
      };
      few = omega arith;
      whole = λ e. refl;
    }

pub asked_memory : (v w : View Entry) (command : Command) (fault : BlockFault)
    → v.low < v.end → GoesOn v w → IsUndone v w → KeepsLegal v w → HasAsked v w (command ∷ []) [] (Some fault)
asked_memory v w command fault some goes undone legal =
    let trail : Trail = begun_trail v.low (command ∷ []) [] in
    let idle : IsWithout v.low undone.others = without_name v.low v.end v.low undone.others (of_others v undone.others undone.by_others) (omega arith) some in
    record {
      run = record {
        goes_on = goes;
        after = undone.others;
        seen = undone.seen;
        each = λ g is. one (StandsIn g v.seen undone.others) trail idle;
        named = one (λ (t : Trail). IsNameOf v t.by) trail (omega arith, some);
        distinct = alone trail;
        callers = λ g is. others_callers v undone.others (trail ∷ []) undone.by_others;
        legal = legal;
        unworn = λ below. one (λ (t : Trail). IsUnworn t.replies) trail (All-nil (λ (reply : Answer). reply ≢ Err Worn));
      };
      few = omega arith;
      whole = λ e. absurd cc;
    }

-- a call that was answered, and not by Memory
pub asked_answered : (v w : View Entry) (command : Command) (answer : Answer) (fault : Option BlockFault)
    → v.low < v.end → answer ≢ Err Refusals.Memory → GoesOn v w → IfOk answer (IsDone v w command)
    → IfErr answer (λ refusal. refusal ≢ Refusals.Memory → IsRefused v w command refusal)
    → KeepsLegal v w → HasAsked v w (command ∷ []) (answer ∷ []) fault
asked_answered v w command (Ok reply) fault some known goes done refused legal = asked_done v w command reply fault some goes done legal
asked_answered v w command (Err refusal) fault some known goes done refused legal =
    let other : refusal ≢ Refusals.Memory = λ e. known (ap (λ (r : Refusal). Err r) e) in
    asked_refused v w command refusal fault some other goes (refused other) legal

-- what the test of an answer tells
pub is_not_memory : (b : Bool) (answer : Answer) → IsTrue b ↔ (answer ≡ Err Refusals.Memory) → b ≡ false → answer ≡ Err Refusals.Memory → ⊥
is_not_memory true answer tells e is = absurd cc
is_not_memory false answer tells e is = let h : false ≡ true = tells.1 is in cc

pub is_memory : (b : Bool) (answer : Answer) → IsTrue b ↔ (answer ≡ Err Refusals.Memory) → b ≡ true → answer ≡ Err Refusals.Memory
is_memory true answer tells e = tells.0 refl
is_memory false answer tells e = absurd cc

-- a call that memory was refused to
pub asked_refused_memory : (v w : View Entry) (command : Command) (answer : Answer) (fault : BlockFault)
    → v.low < v.end → answer ≡ Err Refusals.Memory → GoesOn v w → (answer ≡ Err Refusals.Memory → IsUndone v w) → KeepsLegal v w
    → HasAsked v w (command ∷ []) [] (Some fault)
asked_refused_memory v w command answer fault some is goes undone legal = asked_memory v w command fault some goes (undone is) legal

-- a refused call, if it isn't by Memory
pub refused_unless_memory : (v w : View Entry) (command : Command) (answer : Answer) → IfErr answer (IsRefused v w command)
    → IfErr answer (λ refusal. refusal ≢ Refusals.Memory → IsRefused v w command refusal)
refused_unless_memory v w command (Ok reply) refused = refused
refused_unless_memory v w command (Err refusal) refused = λ other. refused

-- a refused call did nothing
pub undone : (v w : View Entry) (command : Command) (answer : Answer) → IfErr answer (IsRefused v w command) → answer ≡ Err Refusals.Memory → IsUndone v w
undone v w command (Ok reply) refused is = absurd cc
undone v w command (Err refusal) refused is = record { others = refused.others; seen = refused.seen; by_others = refused.by_others }
