-- The parts of a block, one after the other, and what all of them come to.
use Rattle.std.proofs.Common.{◌≡◌, ◌≢◌, ℕ, zero, suc, ◌+◌, ◌-◌, ◌*◌, ◌≤◌, ◌<◌, ◌^◌, ◌⊎◌, inl, inr, Bool, Vec, List, [], ◌∷◌, ◌++◌, map, take, drop, length, get_or, All, Any, Option, Some, None, refl, sym, ap, ◌∙◌, subst, append-nil, arith, add-one}
use Rattle.std.proofs.Math.Nat.{pow-suc}
use Rattle.std.proofs.lemmas.Nat.{pow_pos}
use Rattle.std.proofs.lemmas.List.{take_all, take-append-drop, map-append, append_cancel_left, drop_at}
use Rattle.std.proofs.lemmas.List.Elements.{All-nil, All-cons, All-drop, All-same}
use Rattle.std.specs.List.{AllZip}
use Rattle.std.specs.declared.alloc.Global.{Global}
use Rattle.ticket_lock.specs.Moves.{middle_of}
use Rattle.ticket_lock.specs.Views.{HasAllNames}
use Rattle.ticket_lock.specs.declared.views.View.{View}
use Rattle.tracer_specification.specs.History.{IsLegal}
use Rattle.tracer_specification.specs.Blocks.{Trail, StandsIn, IsUnworn}
use Rattle.trace_workers.specs.BlockRuns.{trails_of, commands_of, Begins, IsAfterBlock}
use Rattle.trace_workers.specs.Ends.{EndAs, told_fault, reported}
use Rattle.trace_workers.specs.Gates.{HasReply, LetsBegunPass}
use Rattle.trace_workers.specs.PartRuns.{HasRun, begun_trail, begun_trails, AreWhole, SeesCallers}
use Rattle.trace_command.specs.Commands.{Command}
use Rattle.trace_command.specs.declared.command.Config.{Config}
use Rattle.trace_command.specs.declared.command.Entry.{Entry}
use Rattle.trace_workers.specs.declared.fault.BlockFault.{BlockFault}
use Rattle.trace_workers.specs.declared.fault.BlockFault.TheVariants.{Memory, Stopped, NoThread}
use Rattle.trace_workers.specs.declared.gate.Point.{Point}
use Rattle.trace_workers.specs.declared.part.Part.{Part}

-- ---- names

-- where there are names for n parts, the pass can be split and the lower half has names for one part less
pub names_left : (n m low end : ℕ) → m + 1 ≡ n → 2 ^ n ≤ end - low → (low + 1 < end) × (2 ^ m ≤ middle_of low end - low)
names_left n m low end next enough =
    let is : 2 ^ n ≡ 2 ^ m * 2 = ap (λ (k : ℕ). 2 ^ k) (sym next ∙ add-one m) ∙ pow-suc 2 m in
    let some : 0 < 2 ^ m = pow_pos m in
    (omega (arith, is, some, enough), omega (arith, is, some, enough))

-- ---- parts

-- what is made of each of a list and of one more
pub map_push : {X Y : Type 0} (f : X → Y) (all xs : List X) (x : X) → all ≡ xs ++ x ∷ [] → map f all ≡ map f xs ++ f x ∷ []
map_push f all xs x is = ap (map f) is ∙ map-append f xs (x ∷ [])

-- nothing was asked
pub begun_none : (parts : List (List Command)) → begun_trails parts [] ≡ []
begun_none [] = refl
begun_none (commands ∷ parts) = refl

-- one part more
pub begun_push : (parts : List (List Command)) (done : List Part) (commands : List Command) (part : Part) → length done ≡ length parts
    → begun_trails (parts ++ commands ∷ []) (done ++ part ∷ []) ≡ begun_trails parts done ++ begun_trail part.by commands part.replies.items ∷ []
begun_push [] [] commands part same = refl
begun_push [] (p ∷ done) commands part same = absurd (omega (arith, same))
begun_push (c ∷ parts) [] commands part same = absurd (omega (arith, same))
begun_push (c ∷ parts) (p ∷ done) commands part same =
    ap (λ (ts : List Trail). begun_trail p.by c p.replies.items ∷ ts) (begun_push parts done commands part (omega (arith, same)))

pub length-begun : (parts : List (List Command)) (done : List Part) → length done ≡ length parts → length (begun_trails parts done) ≡ length done
length-begun [] [] same = refl
length-begun [] (p ∷ done) same = absurd (omega (arith, same))
length-begun (c ∷ parts) [] same = absurd (omega (arith, same))
length-begun (c ∷ parts) (p ∷ done) same = omega (arith, length-begun parts done (omega (arith, same)))

pub whole_push : (parts : List (List Command)) (done : List Part) (commands : List Command) (part : Part) → AreWhole parts done
    → length part.replies.items ≡ length commands → AreWhole (parts ++ commands ∷ []) (done ++ part ∷ [])
whole_push [] [] commands part whole one = (one, tt)
whole_push [] (p ∷ done) commands part whole one = absurd whole
whole_push (c ∷ parts) [] commands part whole one = absurd whole
whole_push (c ∷ parts) (p ∷ done) commands part (here, whole) one = (here, whole_push parts done commands part whole one)

-- where no fault is told there was none
pub told_none : (told one other : Option BlockFault) → told ≡ told_fault one other → told ≡ None → (one ≡ None) × (other ≡ None)
told_none told None other is none = (refl, sym is ∙ none)
told_none told (Some Memory) other is none = absurd cc
told_none told (Some Stopped) None is none = absurd cc
told_none told (Some Stopped) (Some Memory) is none = absurd cc
told_none told (Some Stopped) (Some Stopped) is none = absurd cc
told_none told (Some Stopped) (Some NoThread) is none = absurd cc
told_none told (Some NoThread) None is none = absurd cc
told_none told (Some NoThread) (Some Memory) is none = absurd cc
told_none told (Some NoThread) (Some Stopped) is none = absurd cc
told_none told (Some NoThread) (Some NoThread) is none = absurd cc

-- ---- the whole block

-- whole parts are begun_trail parts of which nothing is left
pub whole_begun : (parts : List (List Command)) (done : List Part) → AreWhole parts done → begun_trails parts done ≡ trails_of parts done
whole_begun [] [] whole = refl
whole_begun [] (p ∷ done) whole = absurd whole
whole_begun (c ∷ parts) [] whole = absurd whole
whole_begun (c ∷ parts) (p ∷ done) (here, whole) =
    let all : take (length p.replies.items) c ≡ c = take_all (length p.replies.items) c (omega (arith, here)) in
    rw (all, whole_begun parts done whole) refl

-- what was begun_trail of each part is the first of it
pub begun_begins : (parts : List (List Command)) (done : List Part) → length done ≡ length parts → AllZip Begins parts (begun_trails parts done)
begun_begins [] [] same = tt
begun_begins [] (p ∷ done) same = absurd (omega (arith, same))
begun_begins (c ∷ parts) [] same = absurd (omega (arith, same))
begun_begins (c ∷ parts) (p ∷ done) same =
    ((drop (length p.replies.items) c, sym (take-append-drop (length p.replies.items) c)), begun_begins parts done (omega (arith, same)))

-- new entries are of callers
new_callers : (before after seen : List Entry) → seen ≡ before ++ after → (seen ≡ before) ⊎ All (λ (entry : Entry). entry.by < 65536) seen
    → All (λ (entry : Entry). entry.by < 65536) after
new_callers before after seen is (inl same) =
    let none : after ≡ [] = append_cancel_left before after [] (sym is ∙ same ∙ sym (append-nil before)) in
    All-same (λ (entry : Entry). entry.by < 65536) after [] none (All-nil (λ (entry : Entry). entry.by < 65536))
new_callers before after seen is (inr all) =
    All-same (λ (entry : Entry). entry.by < 65536) after (drop (length before) (before ++ after)) (sym (drop_at before after (length before) refl))
    (All-drop (λ (entry : Entry). entry.by < 65536) (length before) (before ++ after)
    (All-same (λ (entry : Entry). entry.by < 65536) (before ++ after) seen (sym is) all))

-- a pass with all names whose parts ran
pub comes : (v w : View Entry) (trails : List Trail) → HasAllNames v → SeesCallers v w → w.front ≤ 2 ^ 63 → HasRun v w trails → IsAfterBlock v w trails
comes v w trails names callers bounded runs = record {
  names = (runs.goes_on.low ∙ names.0, runs.goes_on.end ∙ names.1);
  base = runs.goes_on.base;
  front = runs.goes_on.front;
  ahead = runs.goes_on.ahead;
  after = runs.after;
  seen = runs.seen;
  each = runs.each;
  distinct = runs.distinct;
  callers = λ g is k d within.
      let below : (get_or runs.after k d).by < 65536 = new_callers v.seen runs.after w.seen runs.seen callers k d within in
      runs.callers g is k d within (omega (arith, names.0), omega (arith, names.1, below));
  legal = λ g is legal. subst (λ (es : List Entry). IsLegal g es) runs.seen (runs.legal g is legal);
  unworn = λ left. runs.unworn (omega (arith, bounded, left));
}

-- ---- a block that was not begun_trail

-- each part under a number of its own, and nothing asked
nothing_of : ℕ → List (List Command) → List Trail
nothing_of n [] = []
nothing_of n (commands ∷ parts) = record { by = n; commands = []; replies = [] } ∷ nothing_of (n + 1) parts

nothing_by : (n : ℕ) (parts : List (List Command)) (k : ℕ) (d : Trail) → k < length (nothing_of n parts) → (get_or (nothing_of n parts) k d).by ≡ n + k
unfolding nothing_of
nothing_by n [] k d within = absurd (omega (arith, within))
nothing_by n (commands ∷ parts) zero d within = omega arith
nothing_by n (commands ∷ parts) (suc k) d within =
    let rest : (get_or (nothing_of (n + 1) parts) k d).by ≡ n + 1 + k = nothing_by (n + 1) parts k d (omega (arith, within)) in
    omega (arith, rest)

nothing_all : (P : Trail → Type 0) → ((n : ℕ) → P (record { by = n; commands = []; replies = [] })) → (n : ℕ) (parts : List (List Command)) → All P (nothing_of n parts)
unfolding nothing_of
nothing_all P each n [] = All-nil P
nothing_all P each n (commands ∷ parts) =
    All-cons P (record { by = n; commands = []; replies = [] }) (nothing_of (n + 1) parts) (each n) (nothing_all P each (n + 1) parts)

nothing_begins : (n : ℕ) (parts : List (List Command)) → AllZip Begins parts (nothing_of n parts)
unfolding nothing_of
nothing_begins n [] = tt
nothing_begins n (commands ∷ parts) = ((commands, refl), nothing_begins (n + 1) parts)

-- so there is no reply
nothing_replied : (n : ℕ) (parts : List (List Command)) (thread call : ℕ) → HasReply (nothing_of n parts) thread call → ⊥
unfolding nothing_of
nothing_replied n [] thread call has = omega (arith, has.0)
nothing_replied n (commands ∷ parts) zero call has = omega (arith, has.1)
nothing_replied n (commands ∷ parts) (suc thread) call has = nothing_replied (n + 1) parts thread call (omega (arith, has.0), has.1)

-- memory was refused to each part
no_memory : List (List Command) → List (Option BlockFault)
no_memory [] = []
no_memory (commands ∷ parts) = Some Memory ∷ no_memory parts

none_ended : (may : ℕ → ℕ → Point → Bool → Type 0) (n thread : ℕ) (parts : List (List Command)) → EndAs may thread parts (nothing_of n parts) (no_memory parts)
unfolding nothing_of no_memory
none_ended may n thread [] = tt
none_ended may n thread (commands ∷ parts) = (inr refl, none_ended may (n + 1) (thread + 1) parts)

memory_reported : (parts : List (List Command)) → 0 < length parts → Some Memory ≡ reported (no_memory parts)
unfolding no_memory
memory_reported [] some = absurd (omega (arith, some))
memory_reported (commands ∷ parts) some = refl

pub not_begun : (v : View Entry) (parts : List (List Command)) (may : ℕ → ℕ → Point → Bool → Type 0) → HasAllNames v → 0 < length parts
    → (trails : List Trail) × AllZip Begins parts trails × IsAfterBlock v v trails × LetsBegunPass may trails
    × (ends : List (Option BlockFault)) × (Some Memory ≡ reported ends) × EndAs may 0 parts trails ends
not_begun v parts may names some =
    let trails = nothing_of 0 parts in (
      trails,
      nothing_begins 0 parts,
      record {
        names = names;
        base = refl;
        front = omega arith;
        ahead = λ known. known;
        after = [];
        seen = sym (append-nil v.seen);
        each = λ g is. nothing_all (StandsIn g v.seen []) (λ n. All-nil (λ (entry : Entry). entry.by ≢ n)) 0 parts;
        distinct = λ i j d before within same.
            let first = nothing_by 0 parts i d (omega (arith, before, within)) in
            let second = nothing_by 0 parts j d within in
            omega (arith, first, second, same, before);
        callers = λ g is. All-nil (λ (entry : Entry). Any (λ (trail : Trail). trail.by ≡ entry.by) trails);
        legal = λ g is legal. subst (λ (es : List Entry). IsLegal g es) (sym (append-nil v.seen)) legal;
        unworn = λ left. nothing_all (λ (trail : Trail). IsUnworn trail.replies) (λ n. All-nil _) 0 parts;
      },
      record {
        asking = λ thread call has. absurd (nothing_replied 0 parts thread call has);
        answered = λ thread call has. absurd (nothing_replied 0 parts thread (call + 1) has);
      },
      no_memory parts,
      memory_reported parts some,
      none_ended may 0 0 parts,
    )

-- ---- parts that keep their commands as they are

commands_same : (commands : List Command) → map (λ (command : Command). command) commands ≡ commands
commands_same [] = refl
commands_same (command ∷ commands) = ap (λ (cs : List Command). command ∷ cs) (commands_same commands)

pub parts_same : (parts : List (Vec Command Global)) → commands_of (λ (command : Command). command) parts ≡ map (λ (part : Vec Command Global). part.items) parts
parts_same [] = refl
parts_same (part ∷ parts) =
    ap (λ (cs : List Command). cs ∷ commands_of (λ (command : Command). command) parts) (commands_same part.items)
    ∙ ap (λ (all : List (List Command)). part.items ∷ all) (parts_same parts)
