-- What contracts see of the callers in the array.
use Rattle.std.proofs.Common.{◌≡◌, ◌↔◌, ℕ, zero, suc, ◌+◌, ◌*◌, ◌/◌, ◌<◌, Bool, true, false, List, [], ◌∷◌, length, slice_set, All, Option, Some, None, IfSome, IsSome, is_some, Result, Ok, IfOk, Global, refl, sym, ap, subst, ◌∙◌, arith}
use Rattle.std.specs.Arc.{arc_value}
use Rattle.std.specs.List.{slice_get, list_all, HoldsAt, AllWithin}
use Rattle.std.specs.Option.{option_map, MatchOption}
use Rattle.std.specs.declared.sync.Arc.{Arc}
use Rattle.std.proofs.lemmas.Bool.{false≢true}
use Rattle.std.proofs.lemmas.List.{length-map, map-set}
use Rattle.std.proofs.lemmas.List.Elements.{All-nil, All-cons, All-head, All-tail}
use Rattle.std.proofs.lemmas.Option.{none-some, same_Some, slice_get-get_or, slice_get-map, slice_get_within}
use Rattle.trace_command.specs.declared.command.Reply.TheVariants.{Done}
use Rattle.trace_script.specs.declared.outcome.Outcome.TheVariants.{Replied}
use Rattle.ticket_lock.specs.Entries.{Continues}
use Rattle.shared_mount.specs.LiveMountSeen.{SharedTerms, numbers_of}
use Rattle.shared_mount.specs.MountCallers.{caller_view, terms_of, IsCallerOf}
use Rattle.shared_mount.specs.MountEntries.{EntrySeen, caller_of}
use Rattle.shared_mount.specs.MountHistories.{IsOneHistory}
use Rattle.shared_mount.specs.declared.caller.Caller.{Caller}
use Rattle.shared_mount.specs.declared.shared.SharedMount.{SharedMount}
use Rattle.library_tracer.specs.ConsolesSeen.{ConsoleSeen}
use Rattle.library_tracer.specs.Inner.{known_by}
use Rattle.library_tracer.specs.InnerPasses.{seen_callers, seen_of, AreItsCallers}
use Rattle.library_tracer.specs.PassNames.{AreByName, HasNames, HasNamesIfThere, IsFresh, IsThereFresh}
use Rattle.library_tracer.specs.PassesSeen.{PassesSeen, AreNew, CanPutBack, ContinuesPass, HasBack, HasClosed, HasTaken, IsMissing, IsThere, IsWhole, NoneIsThere}
use Rattle.library_tracer.specs.Tiled.{AreAll, AreFresh, AreParts, AreTiles, ContinuesEach, IsFirstThere, IsTile}

-- ---- one is looked at, taken or put back

tile_at : (shared : SharedMount) (low : ℕ) (xs : List (Option Caller)) (i : ℕ) (caller : Caller) → AreTiles shared low xs
    → slice_get xs i ≡ Some (Some caller) → IsTile shared (low + 64 * i) caller
tile_at shared low [] i caller t e = absurd (none-some _ e)
tile_at shared low (None ∷ xs) zero caller t e = absurd (none-some _ (same_Some _ _ e))
tile_at shared low (Some other ∷ xs) zero caller t e =
    let at : low ≡ low + 64 * 0 = omega arith in
    subst (λ n. IsTile shared n caller) at (subst (λ c. IsTile shared low c) (same_Some _ _ (same_Some _ _ e)) t.0)
tile_at shared low (None ∷ xs) (suc i) caller t e =
    let at : low + 64 + 64 * i ≡ low + 64 * suc i = omega arith in
    subst (λ n. IsTile shared n caller) at (tile_at shared (low + 64) xs i caller t e)
tile_at shared low (Some other ∷ xs) (suc i) caller t e =
    let at : low + 64 + 64 * i ≡ low + 64 * suc i = omega arith in
    subst (λ n. IsTile shared n caller) at (tile_at shared (low + 64) xs i caller t.1 e)

tiles_without : (shared : SharedMount) (low : ℕ) (xs : List (Option Caller)) (i : ℕ) → AreTiles shared low xs → AreTiles shared low (slice_set xs i None)
tiles_without shared low [] i t = t
tiles_without shared low (None ∷ xs) zero t = t
tiles_without shared low (Some caller ∷ xs) zero t = t.1
tiles_without shared low (None ∷ xs) (suc i) t = tiles_without shared (low + 64) xs i t
tiles_without shared low (Some caller ∷ xs) (suc i) t = (t.0, tiles_without shared (low + 64) xs i t.1)

tiles_with : (shared : SharedMount) (low : ℕ) (xs : List (Option Caller)) (i : ℕ) (caller : Caller) → IsTile shared (low + 64 * i) caller
    → AreTiles shared low xs → AreTiles shared low (slice_set xs i (Some caller))
tiles_with shared low [] i caller own t = t
tiles_with shared low (None ∷ xs) zero caller own t = let e : low + 64 * 0 ≡ low = omega arith in (subst (λ n. IsTile shared n caller) e own, t)
tiles_with shared low (Some other ∷ xs) zero caller own t = let e : low + 64 * 0 ≡ low = omega arith in (subst (λ n. IsTile shared n caller) e own, t.1)
tiles_with shared low (None ∷ xs) (suc i) caller own t =
    let e : low + 64 * suc i ≡ low + 64 + 64 * i = omega arith in tiles_with shared (low + 64) xs i caller (subst (λ n. IsTile shared n caller) e own) t
tiles_with shared low (Some other ∷ xs) (suc i) caller own t =
    let e : low + 64 * suc i ≡ low + 64 + 64 * i = omega arith in
    (t.0, tiles_with shared (low + 64) xs i caller (subst (λ n. IsTile shared n caller) e own) t.1)

length_set : (xs : List (Option Caller)) (i : ℕ) (o : Option Caller) → length (slice_set xs i o) ≡ length xs
length_set [] i o = refl
length_set (x ∷ xs) zero o = refl
length_set (x ∷ xs) (suc i) o = ap (λ n. suc n) (length_set xs i o)

-- the name by which its index was found
pub index_of : (start low index : ℕ) → start ≡ low → low ≡ 64 * index → start / 64 ≡ index
index_of start low index e f = omega (arith, e, f)

-- ---- all of them

all_back : (xs : List (Option Caller)) → All IsThere (seen_callers xs) → AreAll xs
all_back [] h = tt
all_back (None ∷ xs) h = absurd (false≢true (All-head IsThere None (seen_callers xs) h))
all_back (Some caller ∷ xs) h = all_back xs (All-tail IsThere (Some (known_by caller)) (seen_callers xs) h)

tested_there : (xs : List (Option Caller)) → list_all (λ x. is_some x) xs ≡ true → All IsThere (seen_callers xs)
tested_there [] e = All-nil IsThere
tested_there (None ∷ xs) e = absurd (false≢true e)
tested_there (Some caller ∷ xs) e = All-cons IsThere (Some (known_by caller)) (seen_callers xs) refl (tested_there xs e)

there_tested : (xs : List (Option Caller)) → All IsThere (seen_callers xs) → list_all (λ x. is_some x) xs ≡ true
there_tested [] h = refl
there_tested (None ∷ xs) h = absurd (false≢true (All-head IsThere None (seen_callers xs) h))
there_tested (Some caller ∷ xs) h = there_tested xs (All-tail IsThere (Some (known_by caller)) (seen_callers xs) h)

missing : (xs : List (Option Caller)) → All (λ o. o ≡ None) xs → All IsMissing (seen_callers xs)
missing [] h = All-nil IsMissing
missing (None ∷ xs) h = All-cons IsMissing None (seen_callers xs) refl (missing xs (All-tail (λ o. o ≡ None) None xs h))
missing (Some caller ∷ xs) h = absurd (none-some _ (sym (All-head (λ o. o ≡ None) (Some caller) xs h)))

-- ---- names and what is known

all_fresh : (shared : SharedMount) (g : SharedTerms) (low : ℕ) (xs : List (Option Caller)) → terms_of shared ≡ g → AreAll xs → AreTiles shared low xs → AreFresh xs
    → All (IsThereFresh g) (seen_callers xs)
all_fresh shared g low [] e a t f = All-nil (IsThereFresh g)
all_fresh shared g low (None ∷ xs) e a t f = absurd a
all_fresh shared g low (Some caller ∷ xs) e a t f =
    let own : IsFresh g (known_by caller) = record { seen = f.0; base = t.0.of.asks.base ∙ ap numbers_of e } in
    All-cons (IsThereFresh g) (Some (known_by caller)) (seen_callers xs) own (all_fresh shared g (low + 64) xs e a t.1 f.1)

named_from : (shared : SharedMount) (low base : ℕ) (xs : List (Option Caller)) → low ≡ 64 * base → AreTiles shared low xs → (i : ℕ)
    → IfSome (slice_get (seen_callers xs) i) (HasNamesIfThere (base + i))
named_from shared low base [] e t i = tt
named_from shared low base (None ∷ xs) e t zero = tt
named_from shared low base (None ∷ xs) e t (suc i) =
    let next : low + 64 ≡ 64 * (base + 1) = omega (arith, e) in
    let at : base + 1 + i ≡ base + suc i = omega arith in
    subst (λ n. IfSome (slice_get (seen_callers xs) i) (HasNamesIfThere n)) at (named_from shared (low + 64) (base + 1) xs next t i)
named_from shared low base (Some caller ∷ xs) e t zero =
    let own = t.0 in
    let low_is : (caller_view caller).low ≡ low = own.low_is in
    let end_is : (caller_view caller).end ≡ low + 64 = own.end_is in
    record { low = omega (arith, e, low_is); end = omega (arith, e, end_is) }
named_from shared low base (Some caller ∷ xs) e t (suc i) =
    let next : low + 64 ≡ 64 * (base + 1) = omega (arith, e) in
    let at : base + 1 + i ≡ base + suc i = omega arith in
    subst (λ n. IfSome (slice_get (seen_callers xs) i) (HasNamesIfThere n)) at (named_from shared (low + 64) (base + 1) xs next t.1 i)

by_name : (shared : SharedMount) (xs : List (Option Caller)) → AreTiles shared 0 xs → AreByName (seen_callers xs)
by_name shared xs t i = let at : 0 + i ≡ i = omega arith in
    subst (λ n. IfSome (slice_get (seen_callers xs) i) (HasNamesIfThere n)) at (named_from shared 0 0 xs refl t i)

-- ---- the passes as they are seen

pub made_new : (g : SharedTerms) (shared : SharedMount) (xs : List (Option Caller)) → terms_of shared ≡ g → AreParts shared 0 1024 xs → AreFresh xs
    → AreNew g (Some (seen_of shared xs))
made_new g shared xs terms p f = record {
  passes = seen_of shared xs;
  is = refl;
  terms_are = terms;
  count = length-map xs _ ∙ p.count_is;
  by_name = by_name shared xs p.tiles;
  fresh = all_fresh shared g 0 xs terms p.all p.tiles f;
}

-- what contracts see of passes, and their invariant, by their fields
abbrev pub view : Option (Arc SharedMount Global) → List (Option Caller) → Option PassesSeen
view tracer xs = option_map (λ arc. seen_of (arc_value arc) xs) tracer

abbrev Sound : Option (Arc SharedMount Global) → List (Option Caller) → Type 0
Sound tracer xs = IfSome tracer (λ arc. AreItsCallers (arc_value arc) xs)

pub is_whole : (tracer : Option (Arc SharedMount Global)) (xs : List (Option Caller)) (before : Option PassesSeen) (r : Bool) → is_some tracer ≡ true
    → view tracer xs ≡ before → r ≡ list_all (λ x. is_some x) xs → (r ≡ true) ↔ IsWhole before
is_whole None xs before r some v e = absurd (false≢true some)
is_whole (Some arc) xs before r some v e =
    (λ k. subst IsWhole v (tested_there xs (sym e ∙ k)), λ w. e ∙ there_tested xs (subst IsWhole (sym v) w))

-- ---- one is taken

pub first_of : (xs : List (Option Caller)) (found : Option ℕ)
    → MatchOption found (AllWithin (λ o. o ≡ None) xs 0 (length xs)) (λ i. (i < length xs) × HoldsAt (λ o. IsSome o) xs i × AllWithin (λ o. o ≡ None) xs 0 i)
    → IsFirstThere xs found
first_of xs None m = m
first_of xs (Some i) m = m

pub none_seen : (tracer : Option (Arc SharedMount Global)) (xs : List (Option Caller)) (before : Option PassesSeen) → view tracer xs ≡ before
    → IsFirstThere xs None → NoneIsThere before
none_seen None xs before v none = subst NoneIsThere v tt
none_seen (Some arc) xs before v none = subst NoneIsThere v (missing xs (λ k d l. none k d (omega arith) l))

not_missing : (xs : List (Option Caller)) (i : ℕ) → i < length xs → HoldsAt (λ o. IsSome o) xs i → All IsMissing (seen_callers xs) → ⊥
not_missing [] i l h m = let none : List (Option Caller) = [] in let n : i < length none = l in absurd (omega (arith, n))
not_missing (None ∷ xs) zero l h m = absurd (false≢true (h None))
not_missing (Some caller ∷ xs) zero l h m = absurd (none-some _ (sym (All-head IsMissing (Some (known_by caller)) (seen_callers xs) m)))
not_missing (x ∷ xs) (suc i) l h m =
    let n : suc i < length (x ∷ xs) = l in
    not_missing xs i (omega (arith, n)) h (All-tail IsMissing (option_map known_by x) (seen_callers xs) m)

pub some_seen : (tracer : Option (Arc SharedMount Global)) (arc : Arc SharedMount Global) (xs : List (Option Caller)) (before : Option PassesSeen) (i : ℕ)
    → tracer ≡ Some arc → view tracer xs ≡ before → IsFirstThere xs (Some i) → NoneIsThere before → ⊥
some_seen None arc xs before i e v h m = absurd (none-some _ e)
some_seen (Some other) arc xs before i e v h m = not_missing xs i h.0 h.1 (subst NoneIsThere (sym v) m)

pub is_its : (tracer : Option (Arc SharedMount Global)) (arc : Arc SharedMount Global) (xs : List (Option Caller)) (i : ℕ) (caller : Caller)
    → tracer ≡ Some arc → Sound tracer xs → slice_get xs i ≡ Some (Some caller) → IsCallerOf (arc_value arc) caller
is_its None arc xs i caller e s there = absurd (none-some _ e)
is_its (Some other) arc xs i caller e s there =
    subst (λ a. IsCallerOf (arc_value a) caller) (same_Some _ _ e) (tile_at (arc_value other) 0 xs i caller s.tiles there).of

pub sound_without : (tracer : Option (Arc SharedMount Global)) (xs : List (Option Caller)) (i : ℕ) (o : Option Caller) → o ≡ None → Sound tracer xs
    → Sound tracer (slice_set xs i o)
sound_without None xs i o e s = tt
sound_without (Some arc) xs i o e s = subst (λ n. Sound (Some arc) (slice_set xs i n)) (sym e) (record {
  count = length_set xs i None ∙ s.count;
  tiles = tiles_without (arc_value arc) 0 xs i s.tiles;
})

-- the console of a caller, of which nothing was asked
abbrev pub new_console : SharedMount → Caller → ConsoleSeen
new_console shared caller = record {
  tracer = shared.lock.table.shared.table_id;
  terms = terms_of shared;
  has = Some (known_by caller);
  is_in_line = false;
  last = Replied Done;
  words = [];
}

has_taken : (shared : SharedMount) (xs : List (Option Caller)) (i : ℕ) (caller : Caller) → AreItsCallers shared xs
    → AllWithin (λ o. o ≡ None) xs 0 i → slice_get xs i ≡ Some (Some caller)
    → HasTaken (Some (seen_of shared xs)) (Some (seen_of shared (slice_set xs i None))) (new_console shared caller)
has_taken shared xs i caller s none there =
    let tile = tile_at shared 0 xs i caller s.tiles there in
    let low : (caller_view caller).low ≡ 0 + 64 * i = tile.low_is in
    let end : (caller_view caller).end ≡ 0 + 64 * i + 64 = tile.end_is in
    let within : i < length xs = slice_get_within xs i _ there in
    let count : length xs ≡ 1024 = s.count in
    record {
      passes = seen_of shared xs;
      was = refl;
      index = i;
      known = known_by caller;
      there = slice_get-map (option_map known_by) xs i ∙ ap (option_map (option_map known_by)) there;
      bound = omega (arith, within, count);
      names = record { low = omega (arith, low); end = omega (arith, end) };
      first = λ other l. slice_get-map (option_map known_by) xs other
          ∙ ap (option_map (option_map known_by)) (slice_get-get_or xs other None (omega (arith, l, within)) ∙ ap (λ o. Some o) (none other None (omega arith) l));
      taken = ap (λ ys. Some (record {
        tracer = shared.lock.table.shared.table_id;
        terms = terms_of shared;
        callers = ys;
      })) (map-set (option_map known_by) xs i None);
      console_is = refl;
    }

pub taken_of : (tracer : Option (Arc SharedMount Global)) (arc : Arc SharedMount Global) (xs : List (Option Caller)) (before : Option PassesSeen) (i : ℕ)
    (o : Option Caller) (caller : Caller) → tracer ≡ Some arc → view tracer xs ≡ before → Sound tracer xs → o ≡ None
    → AllWithin (λ o. o ≡ None) xs 0 i → slice_get xs i ≡ Some (Some caller)
    → HasTaken before (view tracer (slice_set xs i o)) (new_console (arc_value arc) caller)
taken_of None arc xs before i o caller e v s n none there = absurd (none-some _ e)
taken_of (Some other) arc xs before i o caller e v s n none there =
    subst (λ b. HasTaken b (view (Some other) (slice_set xs i o)) (new_console (arc_value arc) caller)) v
    (subst (λ a. HasTaken (Some (seen_of (arc_value other) xs)) (view (Some other) (slice_set xs i o)) (new_console (arc_value a) caller)) (same_Some _ _ e)
    (subst (λ x. HasTaken (Some (seen_of (arc_value other) xs)) (view (Some other) (slice_set xs i x)) (new_console (arc_value other) caller)) (sym n)
    (has_taken (arc_value other) xs i caller s none there)))

pub ok_with : {T E : Type 0} (r : Result T E) (P : T → Type 0) (x : T) → r ≡ Ok x → P x → IfOk r P
ok_with r P x e p = subst (λ s. IfOk s P) (sym e) p

-- ---- one is put back

pub sound_with : (tracer : Option (Arc SharedMount Global)) (xs : List (Option Caller)) (before : Option PassesSeen) (caller : Caller) (i : ℕ)
    (can : CanPutBack before caller) → view tracer xs ≡ before → Sound tracer xs → i ≡ can.index → Sound tracer (slice_set xs i (Some caller))
sound_with None xs before caller i can v s e = tt
sound_with (Some arc) xs before caller i can v s e =
    let shared = arc_value arc in
    let same : seen_of shared xs ≡ can.now = same_Some _ _ (v ∙ can.is) in
    let low : (caller_view caller).low ≡ 64 * can.index = can.names.low in
    let end : (caller_view caller).end ≡ 64 * can.index + 64 = can.names.end in
    let tile : IsTile shared (0 + 64 * i) caller = record {
      of = can.of shared (ap (λ (p : PassesSeen). p.tracer) same) (ap (λ (p : PassesSeen). p.terms) same);
      low_is = omega (arith, low, e);
      end_is = omega (arith, end, e);
    } in record {
      count = length_set xs i (Some caller) ∙ s.count;
      tiles = tiles_with shared 0 xs i caller tile s.tiles;
    }

pub back_of : (tracer : Option (Arc SharedMount Global)) (xs : List (Option Caller)) (before : Option PassesSeen) (caller : Caller) (i : ℕ)
    (can : CanPutBack before caller) → view tracer xs ≡ before → Sound tracer xs → i ≡ can.index
    → HasBack before (view tracer (slice_set xs i (Some caller))) (known_by caller)
back_of None xs before caller i can v s e = absurd (none-some _ (v ∙ can.is))
back_of (Some arc) xs before caller i can v s e =
    let shared = arc_value arc in
    let count : length (seen_callers xs) ≡ 1024 = length-map xs _ ∙ s.count in
    let bound : can.index < 1024 = can.bound in record {
      passes = seen_of shared xs;
      was = sym v;
      index = i;
      bound = omega (arith, e, count, bound);
      names = subst (λ n. HasNames n (caller_view caller)) (sym e) can.names;
      back = ap (λ ys. Some (record {
        tracer = shared.lock.table.shared.table_id;
        terms = terms_of shared;
        callers = ys;
      })) (map-set (option_map known_by) xs i (Some caller));
    }

-- ---- all are closed

pub are_parts : (tracer : Option (Arc SharedMount Global)) (arc : Arc SharedMount Global) (xs : List (Option Caller)) (before : Option PassesSeen)
    → tracer ≡ Some arc → view tracer xs ≡ before → Sound tracer xs → IsWhole before → AreParts (arc_value arc) 0 1024 xs
are_parts None arc xs before e v s w = absurd (none-some _ e)
are_parts (Some other) arc xs before e v s w = subst (λ a. AreParts (arc_value a) 0 1024 xs) (same_Some _ _ e)
    (record { count_is = s.count; tiles = s.tiles; all = all_back xs (subst IsWhole (sym v) w) })

each_from : (history : List EntrySeen) (low base : ℕ) (xs : List (Option Caller)) → low ≡ 64 * base → AreAll xs → ContinuesEach history low xs → (i : ℕ)
    → IfSome (slice_get (seen_callers xs) i) (ContinuesPass history (base + i))
each_from history low base [] e a each i = tt
each_from history low base (None ∷ xs) e a each i = absurd a
each_from history low base (Some caller ∷ xs) e a each zero =
    let at : low ≡ 64 * (base + 0) = omega (arith, e) in
    subst (λ (n : ℕ). Continues caller_of n (n + 64) (caller_view caller).seen history) at each.0
each_from history low base (Some caller ∷ xs) e a each (suc i) =
    let next : low + 64 ≡ 64 * (base + 1) = omega (arith, e) in
    let at : base + 1 + i ≡ base + suc i = omega arith in
    subst (λ (n : ℕ). IfSome (slice_get (seen_callers xs) i) (ContinuesPass history n)) at (each_from history (low + 64) (base + 1) xs next a each.1 i)

each_by_name : (history : List EntrySeen) (xs : List (Option Caller)) → AreAll xs → ContinuesEach history 0 xs → (i : ℕ)
    → IfSome (slice_get (seen_callers xs) i) (ContinuesPass history i)
each_by_name history xs a each i = let at : 0 + i ≡ i = omega arith in
    subst (λ (n : ℕ). IfSome (slice_get (seen_callers xs) i) (ContinuesPass history n)) at (each_from history 0 0 xs refl a each i)

pub closed_of : (tracer : Option (Arc SharedMount Global)) (arc : Arc SharedMount Global) (xs : List (Option Caller)) (before after : Option PassesSeen)
    (history : List EntrySeen) → tracer ≡ Some arc → view tracer xs ≡ before → IsWhole before
    → IsOneHistory (terms_of (arc_value arc)) history → ContinuesEach history 0 xs → after ≡ None → HasClosed before after
closed_of None arc xs before after history e v w one each n = absurd (none-some _ e)
closed_of (Some other) arc xs before after history e v w one each n = record {
  passes = seen_of (arc_value other) xs;
  was = sym v;
  whole = w;
  history = history;
  one = subst (λ a. IsOneHistory (terms_of (arc_value a)) history) (sym (same_Some _ _ e)) one;
  continues = each_by_name history xs (all_back xs (subst IsWhole (sym v) w)) each;
  nothing = n;
}
