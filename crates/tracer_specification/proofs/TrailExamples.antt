-- Two callers who make one instance: the two histories that there may be, and no other.
use Rattle.std.proofs.Common.{◌≡◌, ◌≢◌, ◌⊎◌, inl, inr, ℕ, zero, suc, List, [], ◌∷◌, ◌++◌, All, Any, AllPairs, Ok, Err, codes, ◌<◌, ◌≤◌, refl, sym, ap, ◌∙◌, subst, arith}
use Rattle.std.proofs.lemmas.List.Elements.{All-nil, All-cons, All-head, All-tail, All-append, All-weaker, All-same}
use Rattle.trace_command.specs.Paths.{mount_point, below_mount_point, instance_of}
use Rattle.trace_command.specs.Requests.{request_of}
use Rattle.trace_command.specs.Commands.{Command}
use Rattle.trace_command.specs.declared.command.CommandOf.TheVariants.{Mkdir}
use Rattle.trace_command.specs.declared.command.Config.{Config}
use Rattle.trace_command.specs.declared.command.Entry.{Entry}
use Rattle.trace_command.specs.declared.command.Reply.{Reply}
use Rattle.trace_command.specs.declared.command.Reply.TheVariants.{Done}
use Rattle.trace_command.specs.declared.refusal.Refusal.{Refusal}
use Rattle.trace_command.specs.declared.refusal.Refusal.TheVariants.{InstanceExists, Worn}
use Rattle.tracer_specification.specs.Blocks.{Trail, StandsIn}
use Rattle.tracer_specification.specs.Examples.{small, done}
use Rattle.tracer_specification.specs.History.{named_answer, answer, answer_to, past_of, IsLegal}
use Rattle.tracer_specification.specs.TrailExamples.{maker, FirstMakes, SecondMakes, OneMakes, ExactlyOneMakes}
use Rattle.tracer_specification.specs.Trails.{IsTrail, IsWithout, IsDoneAfter}
use Rattle.tracer_specification.proofs.Trailing.{Outcome}

abbrev g : Config
g = small 1

abbrev make : Command
make = Mkdir (codes "instances/a")

-- ---- the two answers, computed

made_at_first : answer_to g [] make ≡ Ok Done
unfolding answer named_answer past_of mount_point below_mount_point instance_of
made_at_first = refl

there_computed : answer g (request_of make ∷ []) (request_of make) ≡ Err InstanceExists
unfolding answer named_answer mount_point below_mount_point instance_of
there_computed = refl

there_then : (entry : Entry) → entry.command ≡ make → answer_to g (entry ∷ []) make ≡ Err InstanceExists
unfolding past_of
there_then entry is = subst (λ (c : Command). answer g (request_of c ∷ []) (request_of make) ≡ Err InstanceExists) (sym is) there_computed

-- ---- both histories

abbrev entry_of : ℕ → Entry
entry_of by = record { ticket = 0; by = by; command = make }

without_other : (by other : ℕ) → by ≢ other → IsWithout other (entry_of by ∷ [])
without_other by other ne = All-cons (λ (e : Entry). e.by ≢ other) (entry_of by) [] ne (All-nil (λ (e : Entry). e.by ≢ other))

made_by : (by : ℕ) → IsTrail g by [] (entry_of by ∷ []) (make ∷ []) (done ∷ [])
made_by by = (
  [],
  entry_of by,
  [],
  refl,
  All-nil (λ (e : Entry). e.by ≢ by),
  record { answer = made_at_first; of_caller = refl; of_command = refl },
  All-nil (λ (e : Entry). e.by ≢ by),
)

refused_after : (by other : ℕ) → by ≢ other → IsTrail g other [] (entry_of by ∷ []) (make ∷ []) (Err InstanceExists ∷ [])
refused_after by other ne =
    (entry_of by ∷ [], [], refl, without_other by other ne, (λ some. there_then (entry_of by) refl), All-nil (λ (e : Entry). e.by ≢ other))

two : (P : Trail → Type 0) (one other : Trail) → P one → P other → All P (one ∷ other ∷ [])
two P one other p q = All-cons P one (other ∷ []) p (All-cons P other [] q (All-nil P))

legal : (by : ℕ) → by ≤ 2 → IsLegal g (entry_of by ∷ [])
unfolding IsLegal answer named_answer past_of mount_point below_mount_point instance_of
legal by few = ((omega arith, omega arith, tt), All-nil (λ (e : Entry). e.ticket < 0), refl, tt)

-- an entry is of one of two callers
abbrev IsOf : ℕ → ℕ → Entry → Type 0
IsOf p q entry = (entry.by ≡ p) ⊎ (entry.by ≡ q)

any_of : (one other : Outcome) (entry : Entry) → IsOf 1 2 entry → Any (λ (t : Trail). t.by ≡ entry.by) (maker 1 one ∷ maker 2 other ∷ [])
any_of one other entry (inl is) = (0, maker 1 one, omega arith, refl, sym is)
any_of one other entry (inr is) = (1, maker 2 other, omega arith, refl, sym is)

by_one : (one other : Outcome) (by : ℕ) → IsOf 1 2 (entry_of by)
    → All (λ (e : Entry). Any (λ (t : Trail). t.by ≡ e.by) (maker 1 one ∷ maker 2 other ∷ [])) (entry_of by ∷ [])
by_one one other by is =
    let P : Entry → Type 0 = λ e. Any (λ (t : Trail). t.by ≡ e.by) (maker 1 one ∷ maker 2 other ∷ []) in
    All-cons P (entry_of by) [] (any_of one other (entry_of by) is) (All-nil P)

distinct : (one other : Outcome) → AllPairs (λ (t u : Trail). t.by ≢ u.by) (maker 1 one ∷ maker 2 other ∷ [])
distinct one other zero zero d below within = absurd (omega (arith, below))
distinct one other zero (suc zero) d below within = λ e. absurd (omega (arith, e))
distinct one other zero (suc (suc j)) d below within = absurd (omega (arith, within))
distinct one other (suc i) j d below within = absurd (omega (arith, below, within))

pub first_makes : FirstMakes
first_makes = (
  entry_of 1 ∷ [],
  record {
    each = two (StandsIn g [] (entry_of 1 ∷ [])) (maker 1 done) (maker 2 (Err InstanceExists)) (made_by 1) (refused_after 1 2 (λ e. absurd (omega (arith, e))));
    distinct = distinct done (Err InstanceExists);
    callers = by_one done (Err InstanceExists) 1 (inl refl);
    legal = legal 1 (omega arith);
  },
)

pub second_makes : SecondMakes
second_makes = (
  entry_of 2 ∷ [],
  record {
    each = two (StandsIn g [] (entry_of 2 ∷ [])) (maker 1 (Err InstanceExists)) (maker 2 done) (refused_after 2 1 (λ e. absurd (omega (arith, e)))) (made_by 2);
    distinct = distinct (Err InstanceExists) done;
    callers = by_one (Err InstanceExists) done 2 (inr refl);
    legal = legal 2 (omega arith);
  },
)

-- ---- no other

-- a list of entries that are of neither caller has none
neither : (p q : ℕ) (entry : Entry) → IsOf p q entry → entry.by ≢ p → entry.by ≢ q → ⊥
neither p q entry (inl is) one other = one is
neither p q entry (inr is) one other = other is

none_left : (p q : ℕ) (entries : List Entry) → All (IsOf p q) entries → IsWithout p entries → IsWithout q entries → entries ≡ []
none_left p q [] of one other = refl
none_left p q (entry ∷ entries) of one other =
    absurd (neither p q entry (All-head (IsOf p q) entry entries of) (All-head (λ (e : Entry). e.by ≢ p) entry entries one)
    (All-head (λ (e : Entry). e.by ≢ q) entry entries other))

left : (P : Entry → Type 0) (xs ys : List Entry) → All P (xs ++ ys) → All P xs
left P [] ys all = All-nil P
left P (x ∷ xs) ys all = All-cons P x xs (All-head P x (xs ++ ys) all) (left P xs ys (All-tail P x (xs ++ ys) all))

right : (P : Entry → Type 0) (xs ys : List Entry) → All P (xs ++ ys) → All P ys
right P [] ys all = all
right P (x ∷ xs) ys all = right P xs ys (All-tail P x (xs ++ ys) all)

-- a call that is refused was asked after the one entry, since it is done before that
refused_then : (others later : List Entry) (entry : Entry) (refusal : Refusal) → others ++ later ≡ entry ∷ [] → entry.command ≡ make
    → answer_to g others make ≡ Err refusal → refusal ≡ InstanceExists
refused_then [] later entry refusal cut is told = let no : Ok Done ≡ Err refusal = sym made_at_first ∙ told in absurd cc
refused_then (x ∷ []) later entry refusal cut is told =
    let same : x ≡ entry = cc in
    let both : Err InstanceExists ≡ Err refusal = sym (there_then x (ap (λ (e : Entry). e.command) same ∙ is)) ∙ told in
    cc
refused_then (x ∷ y ∷ others) later entry refusal cut is told = absurd cc

-- both are not refused, since there is no entry then
refused_both : (others later : List Entry) (refusal : Refusal) → others ++ later ≡ [] → answer_to g others make ≡ Err refusal → ⊥
refused_both [] later refusal cut told = let no : Ok Done ≡ Err refusal = sym made_at_first ∙ told in cc
refused_both (x ∷ others) later refusal cut told = cc

-- a call is not done after another's entry
done_second : (p q : ℕ) (entry : Entry) (later : List Entry) (x : Entry) (others : List Entry) (own : Entry) (since : List Entry) (reply : Reply)
    → All (IsOf p q) (entry ∷ later) → entry ∷ later ≡ x ∷ (others ++ own ∷ since) → IsWithout p later → IsWithout q (x ∷ others) → entry.command ≡ make
    → answer_to g (x ∷ others) make ≡ Ok reply → ⊥
done_second p q entry later x [] own since reply of cut one other is told =
    let same : x ≡ entry = cc in
    let no : Err InstanceExists ≡ Ok reply = sym (there_then x (ap (λ (e : Entry). e.command) same ∙ is)) ∙ told in
    cc
done_second p q entry later x (y ∷ others) own since reply of cut one other is told =
    let rest : later ≡ y ∷ (others ++ own ∷ since) = cc in
    let Q : Entry → Type 0 = λ e. e.by ≢ q in
    neither p q y (All-head (IsOf p q) y (others ++ own ∷ since) (subst (All (IsOf p q)) rest (All-tail (IsOf p q) entry later of)))
    (All-head (λ (e : Entry). e.by ≢ p) y (others ++ own ∷ since) (subst (IsWithout p) rest one))
    (All-head Q y others (All-tail Q x (y ∷ others) other))

swap_of : (p q : ℕ) (entries : List Entry) → All (IsOf p q) entries → All (IsOf q p) entries
swap_of p q entries of = All-weaker (IsOf p q) (IsOf q p) swap entries of
  where
    swap : (entry : Entry) → IsOf p q entry → IsOf q p entry
    swap entry (inl is) = inr is
    swap entry (inr is) = inl is

-- both are not done
done_both : (p q : ℕ) (before : List Entry) (one : Entry) (since : List Entry) (before' : List Entry) (other : Entry) (since' : List Entry) (r r' : Reply)
    → p ≢ q → All (IsOf p q) (before ++ one ∷ since) → before ++ one ∷ since ≡ before' ++ other ∷ since'
    → IsWithout p before → IsWithout p since → IsWithout q before' → IsWithout q since' → IsDoneAfter g p before make r one → IsDoneAfter g q before' make r' other → ⊥
done_both p q [] one since [] other since' r r' ne of cut a b a' b' d d' =
    let same : one ≡ other = cc in ne (sym d.of_caller ∙ ap (λ (e : Entry). e.by) same ∙ d'.of_caller)
done_both p q [] one since (x ∷ before') other since' r r' ne of cut a b a' b' d d' =
    done_second p q one since x before' other since' r' of cut b a' d.of_command d'.answer
done_both p q (x ∷ before) one since [] other since' r r' ne of cut a b a' b' d d' =
    done_second q p other since' x before one since r (swap_of p q (other ∷ since') (subst (All (IsOf p q)) cut of)) (sym cut) b' a d'.of_command d.answer
done_both p q (x ∷ before) one since (y ∷ before') other since' r r' ne of cut a b a' b' d d' =
    let same : x ≡ y = cc in
    neither p q x (All-head (IsOf p q) x (before ++ one ∷ since) of) (All-head (λ (e : Entry). e.by ≢ p) x before a)
    (subst (λ (e : Entry). e.by ≢ q) (sym same) (All-head (λ (e : Entry). e.by ≢ q) y before' a'))

-- where one call was done, the other found the instance there
one_makes : (p q : ℕ) (after : List Entry) (reply : Reply) (other : Outcome) → p ≢ q → other ≢ Err Worn → All (IsOf p q) after
    → IsTrail g p [] after (make ∷ []) (Ok reply ∷ []) → IsTrail g q [] after (make ∷ []) (other ∷ []) → OneMakes (Ok reply) other
one_makes p q after reply (Ok reply') ne some of (before, one, since, cut, a, d, b) (before', other, since', cut', a', d', b') =
    absurd (done_both p q before one since before' other since' reply reply' ne (subst (All (IsOf p q)) cut of) (sym cut ∙ cut') a b a' b' d d')
one_makes p q after reply (Err refusal) ne some of (before, one, since, cut, a, d, b) (before', since', cut', a', refused, b') =
    let P : Entry → Type 0 = λ e. e.by ≢ p in
    let Q : Entry → Type 0 = λ e. e.by ≢ q in
    let others : IsWithout q after = All-same Q after (before' ++ since') cut' (All-append Q before' since' a' b') in
    let of' : All (IsOf p q) (before ++ one ∷ since) = subst (All (IsOf p q)) cut of in
    let others' : IsWithout q (before ++ one ∷ since) = subst (IsWithout q) cut others in
    let first : before ≡ [] = none_left p q before (left (IsOf p q) before (one ∷ since) of') a (left Q before (one ∷ since) others') in
    let last : since ≡ [] =
    none_left p q since (All-tail (IsOf p q) one since (right (IsOf p q) before (one ∷ since) of')) b
    (All-tail Q one since (right Q before (one ∷ since) others')) in
    let told : Ok Done ≡ Ok reply = sym made_at_first ∙ subst (λ (es : List Entry). answer_to g es make ≡ Ok reply) first d.answer in
    let whole : before' ++ since' ≡ one ∷ [] =
    sym cut' ∙ cut ∙ ap (λ (es : List Entry). es ++ one ∷ since) first ∙ ap (λ (es : List Entry). one ∷ es) last in
    let is : refusal ≡ InstanceExists = refused_then before' since' one refusal whole d.of_command (refused (λ e. some (ap (λ (r : Refusal). Err r) e))) in
    (sym told, ap (λ (r : Refusal). Err r) is)

none_makes : (after : List Entry) (refusal refusal' : Refusal) → refusal ≢ Worn → All (IsOf 1 2) after
    → IsTrail g 1 [] after (make ∷ []) (Err refusal ∷ []) → IsTrail g 2 [] after (make ∷ []) (Err refusal' ∷ []) → ⊥
none_makes after refusal refusal' some of (before, since, cut, a, refused, b) (before', since', cut', a', refused', b') =
    let P : Entry → Type 0 = λ e. e.by ≢ 1 in
    let Q : Entry → Type 0 = λ e. e.by ≢ 2 in
    let none : after ≡ [] =
    none_left 1 2 after of (All-same P after (before ++ since) cut (All-append P before since a b))
    (All-same Q after (before' ++ since') cut' (All-append Q before' since' a' b')) in
    refused_both before since refusal (sym cut ∙ none) (refused some)

of_any : (one other : Outcome) (entry : Entry) → Any (λ (t : Trail). t.by ≡ entry.by) (maker 1 one ∷ maker 2 other ∷ []) → IsOf 1 2 entry
of_any one other entry (zero, x, within, at, is) = inl (sym (ap (λ (t : Trail). t.by) at ∙ is))
of_any one other entry (suc zero, x, within, at, is) = inr (sym (ap (λ (t : Trail). t.by) at ∙ is))
of_any one other entry (suc (suc k), x, within, at, is) = absurd (omega (arith, within))

pub exactly_one_makes : ExactlyOneMakes
exactly_one_makes one other some some' (after, block) =
    by one other some some' (stands.0) (stands.1)
    (All-weaker (λ (e : Entry). Any (λ (t : Trail). t.by ≡ e.by) (maker 1 one ∷ maker 2 other ∷ [])) (IsOf 1 2) (of_any one other) after block.callers)
  where
    S : Trail → Type 0
    S = StandsIn g [] after

    stands : S (maker 1 one) × S (maker 2 other)
    stands = (
      All-head S (maker 1 one) (maker 2 other ∷ []) block.each,
      All-head S (maker 2 other) [] (All-tail S (maker 1 one) (maker 2 other ∷ []) block.each),
    )

    by : (one other : Outcome) → one ≢ Err Worn → other ≢ Err Worn → S (maker 1 one) → S (maker 2 other) → All (IsOf 1 2) after → OneMakes one other ⊎ OneMakes other one
    by (Ok reply) other some some' first second of = inl (one_makes 1 2 after reply other (λ e. absurd (omega (arith, e))) some' of first second)
    by (Err refusal) (Ok reply) some some' first second of =
        inr (one_makes 2 1 after reply (Err refusal) (λ e. absurd (omega (arith, e))) some (swap_of 1 2 after of) second first)
    by (Err refusal) (Err refusal') some some' first second of =
        absurd (none_makes after refusal refusal' (λ e. some (ap (λ (r : Refusal). Err r) e)) of first second)
