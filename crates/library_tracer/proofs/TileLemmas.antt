-- Halves of halves tile names.
use Rattle.std.proofs.Common.{◌≡◌, ℕ, zero, suc, ◌+◌, ◌-◌, ◌*◌, ◌^◌, ◌<◌, ◌≤◌, List, [], ◌∷◌, ◌++◌, length, Option, Some, None, IfSome, IsSome, refl, sym, ap, subst, ◌∙◌, length-append, append_assoc, append-nil, arith}
use Rattle.std.proofs.Math.Nat.{pow-suc}
use Rattle.std.proofs.lemmas.List.Elements.{filter-append}
use Rattle.ticket_lock.specs.Calls.{AreHalves, IsMet}
use Rattle.ticket_lock.specs.Entries.{entries_under, is_under, Continues}
use Rattle.ticket_lock.specs.Moves.{middle_of}
use Rattle.ticket_lock.specs.declared.views.View.{View}
use Rattle.ticket_lock.proofs.Histories.{continues_itself, continues_narrower}
use Rattle.shared_mount.specs.MountCallers.{caller_view, IsCallerOf}
use Rattle.shared_mount.specs.MountEntries.{EntrySeen, caller_of, ticket_of}
use Rattle.shared_mount.specs.declared.caller.Caller.{Caller}
use Rattle.shared_mount.specs.declared.shared.SharedMount.{SharedMount}
use Rattle.library_tracer.specs.Tiled.{AreAll, AreFresh, AreParts, AreTiles, ContinuesEach, IsMeeting, IsRootOf, IsTile, MeetsNext}

-- what is split no more
pub one_part : (shared : SharedMount) (caller : Caller) (times : ℕ) → times ≡ 0 → IsCallerOf shared caller
    → (caller_view caller).end ≡ (caller_view caller).low + 64 * 2 ^ times → AreParts shared (caller_view caller).low (2 ^ times) (Some caller ∷ [])
one_part shared caller times e of names = record {
  count_is = ap (λ t. 2 ^ t) (sym e);
  tiles = (record { of = of; low_is = refl; end_is = names ∙ ap (λ t. (caller_view caller).low + 64 * 2 ^ t) e }, tt);
  all = tt;
}

pub falls : (t m : ℕ) → (t ≡ 0 → ⊥) → t ≡ m → t - 1 < m
falls t m other e = omega (arith, other, e)

pub twice : (t : ℕ) → (t ≡ 0 → ⊥) → 2 ^ t ≡ 2 ^ (t - 1) + 2 ^ (t - 1)
twice zero other = absurd (other refl)
twice (suc s) other =
    let one : suc s - 1 ≡ s = omega arith in
    rw one (pow-suc 2 s ∙ (omega arith))

middle : (low k end : ℕ) → end ≡ low + (64 * k + 64 * k) → middle_of low end ≡ low + 64 * k
middle low k end e = omega (arith, e)

module _ {E : Type 0} (v l u : View E) (t : ℕ) (other : t ≡ 0 → ⊥) (halves : AreHalves v l u) (end : v.end ≡ v.low + 64 * 2 ^ t) where
  doubled : v.end ≡ v.low + (64 * 2 ^ (t - 1) + 64 * 2 ^ (t - 1))
  doubled = let two = twice t other in omega (arith, two, end)

  at : middle_of v.low v.end ≡ v.low + 64 * 2 ^ (t - 1)
  at = middle v.low (2 ^ (t - 1)) v.end doubled

  pub lower_end : l.end ≡ l.low + 64 * 2 ^ (t - 1)
  lower_end = halves.lower_end ∙ at ∙ ap (λ n. n + 64 * 2 ^ (t - 1)) (sym halves.low)

  pub upper_low : u.low ≡ v.low + 64 * 2 ^ (t - 1)
  upper_low = halves.upper_low ∙ at

  pub upper_end : u.end ≡ u.low + 64 * 2 ^ (t - 1)
  upper_end = let low = upper_low in let end_is = halves.end in let d = doubled in omega (arith, low, end_is, d)

tiles_append : (shared : SharedMount) (low : ℕ) (xs ys : List (Option Caller)) → AreTiles shared low xs → AreTiles shared (low + 64 * length xs) ys
    → AreTiles shared low (xs ++ ys)
tiles_append shared low [] ys t s = let none : List (Option Caller) = [] in let e : low + 64 * length none ≡ low = omega arith in subst (λ n. AreTiles shared n ys) e s
tiles_append shared low (None ∷ xs) ys t s =
    let e : low + 64 * length (None ∷ xs) ≡ low + 64 + 64 * length xs = omega arith in
    tiles_append shared (low + 64) xs ys t (subst (λ n. AreTiles shared n ys) e s)
tiles_append shared low (Some caller ∷ xs) ys t s =
    let e : low + 64 * length (Some caller ∷ xs) ≡ low + 64 + 64 * length xs = omega arith in
    (t.0, tiles_append shared (low + 64) xs ys t.1 (subst (λ n. AreTiles shared n ys) e s))

all_append : (xs ys : List (Option Caller)) → AreAll xs → AreAll ys → AreAll (xs ++ ys)
all_append [] ys a b = b
all_append (None ∷ xs) ys a b = absurd a
all_append (Some caller ∷ xs) ys a b = all_append xs ys a b

pub parts_append : (shared : SharedMount) (low high n m : ℕ) (xs ys : List (Option Caller)) → high ≡ low + 64 * n → m ≡ n + n
    → AreParts shared low n xs → AreParts shared high n ys → AreParts shared low m (xs ++ ys)
parts_append shared low high n m xs ys at both p q =
    let count = p.count_is in let other = q.count_is in record {
      count_is = length-append xs ys ∙ (omega (arith, count, other, both));
      tiles = tiles_append shared low xs ys p.tiles (subst (λ k. AreTiles shared k ys) (at ∙ ap (λ k. low + 64 * k) (sym count)) q.tiles);
      all = all_append xs ys p.all q.all;
    }

pub fresh_append : (xs ys : List (Option Caller)) → AreFresh xs → AreFresh ys → AreFresh (xs ++ ys)
fresh_append [] ys a b = b
fresh_append (None ∷ xs) ys a b = fresh_append xs ys a b
fresh_append (Some caller ∷ xs) ys a b = (a.0, fresh_append xs ys a.1 b)

pub appended : (before between after xs ys : List (Option Caller)) → between ≡ before ++ xs → after ≡ between ++ ys → after ≡ before ++ (xs ++ ys)
appended before between after xs ys e f = f ∙ ap (λ zs. zs ++ ys) e ∙ append_assoc before xs ys

-- ---- callers that meet, one after another

-- a history continues what one continues that it continues
continues_on : (low end : ℕ) (seen history later : List EntrySeen) → Continues caller_of low end seen history → Continues caller_of low end history later
    → Continues caller_of low end seen later
continues_on low end seen history later (rest, whole, none) (more, longer, others) = (
  rest ++ more,
  longer ∙ ap (λ (es : List EntrySeen). es ++ more) whole ∙ append_assoc seen rest more,
  filter-append (is_under caller_of low end) rest more ∙ ap (λ (es : List EntrySeen). es ++ entries_under caller_of low end more) none ∙ others,
)

each_longer : (history later : List EntrySeen) (end low : ℕ) (xs : List (Option Caller)) → Continues caller_of 0 end history later → low + 64 * length xs ≤ end
    → ContinuesEach history low xs → ContinuesEach later low xs
each_longer history later end low [] goes fits each = tt
each_longer history later end low (None ∷ xs) goes fits each =
    let more : low + 64 * length (None ∷ xs) ≤ end = fits in each_longer history later end (low + 64) xs goes (omega (arith, more)) each
each_longer history later end low (Some caller ∷ xs) goes fits each =
    let more : low + 64 * length (Some caller ∷ xs) ≤ end = fits in (
      continues_on low (low + 64) (caller_view caller).seen history later each.0
          (continues_narrower caller_of 0 end low (low + 64) (omega arith) (omega (arith, more)) history later goes),
      each_longer history later end (low + 64) xs goes (omega (arith, more)) each.1,
    )

each_append : (history : List EntrySeen) (low : ℕ) (xs ys : List (Option Caller)) → ContinuesEach history low xs
    → ContinuesEach history (low + 64 * length xs) ys → ContinuesEach history low (xs ++ ys)
each_append history low [] ys a b =
    let none : List (Option Caller) = [] in
    let e : low + 64 * length none ≡ low = omega arith in subst (λ n. ContinuesEach history n ys) e b
each_append history low (None ∷ xs) ys a b =
    let e : low + 64 * length (None ∷ xs) ≡ low + 64 + 64 * length xs = omega arith in
    each_append history (low + 64) xs ys a (subst (λ n. ContinuesEach history n ys) e b)
each_append history low (Some caller ∷ xs) ys a b =
    let e : low + 64 * length (Some caller ∷ xs) ≡ low + 64 + 64 * length xs = omega arith in
    (a.0, each_append history (low + 64) xs ys a.1 (subst (λ n. ContinuesEach history n ys) e b))

begins : (shared : SharedMount) (every : List (Option Caller)) (caller : Caller) (rest : List (Option Caller)) → AreParts shared 0 1024 (Some caller ∷ rest)
    → every ≡ Some caller ∷ rest → MeetsNext shared every caller rest
begins shared every caller rest p is =
    let tile = p.tiles.0 in
    let v = caller_view caller in
    let low : v.low ≡ 0 = tile.low_is in
    let end : v.end ≡ 64 = tile.end_is in
    let one : List (Option Caller) = Some caller ∷ [] in
    let count : length (Some caller ∷ rest) ≡ 1024 = p.count_is in record {
      before = one;
      all_is = is;
      of = tile.of;
      low_is = low;
      end_is = let n : length one ≡ 1 = refl in omega (arith, end, n);
      tiles = subst (λ k. AreTiles shared k rest) (sym end) p.tiles.1;
      there = p.all;
      left = omega (arith, end, count);
      continues = (continues_itself caller_of 0 64 v.seen, tt);
    }

pub next_tile : (shared : SharedMount) (every : List (Option Caller)) (first second : Caller) (rest : List (Option Caller)) → MeetsNext shared every first (Some second ∷ rest)
    → IsTile shared (caller_view first).end second
next_tile shared every first second rest m = m.tiles.0

pub goes_on : (shared : SharedMount) (every : List (Option Caller)) (first second met : Caller) (rest : List (Option Caller))
    → MeetsNext shared every first (Some second ∷ rest) → IsCallerOf shared met
    → IsMet ticket_of caller_of (caller_view first) (caller_view second) (caller_view met) → MeetsNext shared every met rest
goes_on shared every first second met rest m of is =
    let tile = m.tiles.0 in
    let f = caller_view first in
    let s = caller_view second in
    let w = caller_view met in
    let last : w.end ≡ f.end + 64 = is.end ∙ tile.end_is in
    let left : f.end + 64 * length (Some second ∷ rest) ≡ 65536 = m.left in
    let here : f.end ≡ 64 * length m.before = m.end_is in
    let one : List (Option Caller) = Some second ∷ [] in
    let count : length (m.before ++ one) ≡ length m.before + length one = length-append m.before one in
    let single : length one ≡ 1 = refl in
    let low : s.low ≡ 0 + 64 * length m.before = tile.low_is ∙ here ∙ (omega arith) in
    let end : s.end ≡ 0 + 64 * length m.before + 64 = tile.end_is ∙ (omega (arith, here)) in
    let goes : Continues caller_of 0 f.end f.seen w.seen = subst (λ (n : ℕ). Continues caller_of n f.end f.seen w.seen) m.low_is is.first in
    let next : Continues caller_of (0 + 64 * length m.before) (0 + 64 * length m.before + 64) s.seen w.seen =
    subst (λ (n : ℕ). Continues caller_of (0 + 64 * length m.before) n s.seen w.seen) end
    (subst (λ (n : ℕ). Continues caller_of n s.end s.seen w.seen) low is.second) in record {
      before = m.before ++ one;
      all_is = m.all_is ∙ sym (append_assoc m.before one rest);
      of = of;
      low_is = is.low ∙ m.low_is;
      end_is = omega (arith, last, here, count, single);
      tiles = subst (λ k. AreTiles shared k rest) (sym last) m.tiles.1;
      there = m.there;
      left = omega (arith, last, left);
      continues = each_append w.seen 0 m.before one (each_longer f.seen w.seen f.end 0 m.before goes (omega (arith, here)) m.continues) (next, tt);
    }

-- none is missing
is_there : (shared : SharedMount) (every : List (Option Caller)) (met : Option Caller) (rest : List (Option Caller)) → IsMeeting shared every met (None ∷ rest) → ⊥
is_there shared every None rest m = m.0.all
is_there shared every (Some first) rest m = m.there

-- a step of the loop, by what it found
pub meets : (shared : SharedMount) (every : List (Option Caller)) (met caller : Option Caller) (rest left : List (Option Caller)) (first second : Caller)
    → rest ≡ caller ∷ left → met ≡ Some first → caller ≡ Some second → IsMeeting shared every met rest → MeetsNext shared every first (Some second ∷ left)
meets shared every met caller rest left first second e f g m =
    subst (λ n. IsMeeting shared every n (Some second ∷ left)) f (subst (λ xs. IsMeeting shared every met xs) (e ∙ ap (λ n. n ∷ left) g) m)

pub none_missing : (shared : SharedMount) (every : List (Option Caller)) (met caller : Option Caller) (rest left : List (Option Caller)) → rest ≡ caller ∷ left
    → caller ≡ None → IsMeeting shared every met rest → ⊥
none_missing shared every met caller rest left e g m =
    is_there shared every met left (subst (λ xs. IsMeeting shared every met xs) (e ∙ ap (λ n. n ∷ left) g) m)

by_first : (shared : SharedMount) (every : List (Option Caller)) (caller : Option Caller) (left : List (Option Caller)) → IsMeeting shared every None (caller ∷ left)
    → IsMeeting shared every caller left
by_first shared every None left m = absurd m.0.all
by_first shared every (Some first) left m = begins shared every first left m.0 m.1

pub first_one : (shared : SharedMount) (every : List (Option Caller)) (met caller : Option Caller) (rest left : List (Option Caller)) → rest ≡ caller ∷ left → met ≡ None
    → IsMeeting shared every met rest → IsMeeting shared every caller left
first_one shared every met caller rest left e f m =
    by_first shared every caller left (subst (λ n. IsMeeting shared every n (caller ∷ left)) f (subst (λ xs. IsMeeting shared every met xs) e m))

-- ---- all have met

empty : (xs : List (Option Caller)) → length xs ≡ 0 → xs ≡ []
empty [] e = refl
empty (x ∷ xs) e = let n : length (x ∷ xs) ≡ 0 = e in absurd (omega (arith, n))

root : (shared : SharedMount) (every : List (Option Caller)) (met : Option Caller) → IsMeeting shared every met [] → IsSome met × IfSome met (IsRootOf shared every)
root shared every None m =
    let none : List (Option Caller) = [] in
    let count : length none ≡ 1024 = m.0.count_is in absurd (omega (arith, count))
root shared every (Some first) m =
    let none : List (Option Caller) = [] in
    let left : (caller_view first).end + 64 * length none ≡ 65536 = m.left in (
      refl,
      record {
        of = m.of;
        names = (m.low_is, omega (arith, left));
        continues = subst (ContinuesEach (caller_view first).seen 0) (sym (m.all_is ∙ append-nil m.before)) m.continues;
      },
    )

pub all_met : (shared : SharedMount) (every : List (Option Caller)) (met : Option Caller) (rest : List (Option Caller)) → length rest ≡ 0 → IsMeeting shared every met rest
    → IsSome met × IfSome met (IsRootOf shared every)
all_met shared every met rest e m = root shared every met (subst (λ xs. IsMeeting shared every met xs) (empty rest e) m)
