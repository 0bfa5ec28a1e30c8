-- A pass that was taken, and put back.
use Rattle.std.proofs.Common.{◌≡◌, ℕ, zero, suc, ◌<◌, Bool, true, false, List, [], ◌∷◌, slice_set, All, Option, Some, None, refl, ap, sym, subst, ◌∙◌, arith}
use Rattle.std.specs.List.{slice_get}
use Rattle.std.proofs.lemmas.List.Elements.{All-head, All-tail}
use Rattle.std.proofs.lemmas.Option.{none-some, same_Some}
use Rattle.shared_mount.specs.MountCallers.{IsCallerOf}
use Rattle.shared_mount.specs.declared.caller.Caller.{Caller}
use Rattle.shared_mount.specs.declared.shared.SharedMount.{SharedMount}
use Rattle.library_tracer.specs.Consoles.{HasLeft, IsOfTracer}
use Rattle.library_tracer.specs.ConsolesSeen.{ConsoleSeen, Known}
use Rattle.library_tracer.specs.Inner.{known_by}
use Rattle.library_tracer.specs.PassNames.{HasNames}
use Rattle.library_tracer.specs.PassesSeen.{PassesSeen, CanPutBack, HasBack, HasTaken, IsMissing, IsOfPasses, NoneIsThere}

restored : (xs : List (Option Known)) (i : ℕ) (known : Known) → slice_get xs i ≡ Some (Some known) → slice_set (slice_set xs i None) i (Some known) ≡ xs
restored [] i known e = refl
restored (x ∷ xs) zero known e = ap (λ (o : Option Known). o ∷ xs) (sym (same_Some _ _ e))
restored (x ∷ xs) (suc i) known e = ap (λ (more : List (Option Known)). x ∷ more) (restored xs i known e)

not_all_missing : (xs : List (Option Known)) (i : ℕ) (known : Known) → slice_get xs i ≡ Some (Some known) → All IsMissing xs → ⊥
not_all_missing [] i known e h = none-some _ e
not_all_missing (x ∷ xs) zero known e h = none-some _ (sym (All-head IsMissing x xs h) ∙ same_Some _ _ e)
not_all_missing (x ∷ xs) (suc i) known e h = not_all_missing xs i known e (All-tail IsMissing x xs h)

-- where one was taken, one was there
pub one_was_there : (before after : Option PassesSeen) (console : ConsoleSeen) → HasTaken before after console → ¬ NoneIsThere before
one_was_there before after console t none =
    not_all_missing t.passes.callers t.index t.known t.there (subst (λ (passes : Option PassesSeen). NoneIsThere passes) t.was none)

-- ---- the console that was made of it leaves at once

known_again : (before after : Option PassesSeen) (console gone : ConsoleSeen) (known : Known) (t : HasTaken before after console) → HasLeft console gone known
    → known ≡ t.known
known_again before after console gone known t h =
    h.idle (ap (λ (c : ConsoleSeen). c.is_in_line) t.console_is) ∙ same_Some _ _ (sym h.had ∙ ap (λ (c : ConsoleSeen). c.has) t.console_is)

pub may_put_back : (before after : Option PassesSeen) (console gone : ConsoleSeen) (caller : Caller) → HasTaken before after console
    → HasLeft console gone (known_by caller) → ((shared : SharedMount) → IsOfTracer shared console → IsCallerOf shared caller) → CanPutBack after caller
may_put_back before after console gone caller t h of = record {
  now = record t.passes { callers = slice_set t.passes.callers t.index None };
  is = t.taken;
  of = λ shared at terms. of shared (at ∙ sym (ap (λ (c : ConsoleSeen). c.tracer) t.console_is), terms ∙ sym (ap (λ (c : ConsoleSeen). c.terms) t.console_is));
  index = t.index;
  bound = t.bound;
  names = subst (λ (known : Known). HasNames t.index known.view) (sym (known_again before after console gone (known_by caller) t h)) t.names;
}

pub all_again : (before after last : Option PassesSeen) (console gone : ConsoleSeen) (known : Known) → HasTaken before after console
    → HasLeft console gone known → HasBack after last known → last ≡ before
all_again before after last console gone known t h b =
    let own : known ≡ t.known = known_again before after console gone known t h in
    let left : PassesSeen = record t.passes { callers = slice_set t.passes.callers t.index None } in
    let found : b.passes ≡ left = same_Some _ _ (sym b.was ∙ t.taken) in
    let names : HasNames t.index known.view = subst (λ (k : Known). HasNames t.index k.view) (sym own) t.names in
    let at : b.index ≡ t.index = omega (arith, b.names.low, names.low) in
    b.back
    ∙ ap (λ (p : PassesSeen). Some (record p { callers = slice_set p.callers b.index (Some known) })) found
    ∙ ap (λ (i : ℕ). Some (record t.passes { callers = slice_set left.callers i (Some known) })) at
    ∙ ap (λ (k : Known). Some (record t.passes { callers = slice_set left.callers t.index (Some k) })) own
    ∙ ap (λ (xs : List (Option Known)). Some (record t.passes { callers = xs })) (restored t.passes.callers t.index t.known t.there)
    ∙ sym t.was

-- ---- a thread leaves

-- whether it had its turn or not, it keeps its names
same_names : (before after : ConsoleSeen) (known : Known) (h : HasLeft before after known)
    → (known.view.low ≡ h.was.view.low) × (known.view.end ≡ h.was.view.end)
same_names before after known h = by before.is_in_line refl
  where
    by : (in_line : Bool) → before.is_in_line ≡ in_line → (known.view.low ≡ h.was.view.low) × (known.view.end ≡ h.was.view.end)
    by true e = let idle = h.turn e in (idle.goes_on.low, idle.goes_on.end)
    by false e = let own = h.idle e in (ap (λ (k : Known). k.view.low) own, ap (λ (k : Known). k.view.end) own)

pub may_leave : (passes : Option PassesSeen) (console gone : ConsoleSeen) (caller : Caller) → IsOfPasses (Some passes) (Some console)
    → HasLeft console gone (known_by caller) → ((shared : SharedMount) → IsOfTracer shared console → IsCallerOf shared caller) → CanPutBack passes caller
may_leave None console gone caller own h of = absurd own
may_leave (Some passes) console gone caller own h of =
    let named : (index : ℕ) × (index < 1024) × HasNames index h.was.view = rw h.had at own.2 in
    record {
      now = passes;
      is = refl;
      of = λ shared at terms. of shared (at ∙ sym own.0, terms ∙ sym own.1);
      index = named.0;
      bound = named.1;
      names = let same = same_names console gone (known_by caller) h in record { low = same.0 ∙ named.2.low; end = same.1 ∙ named.2.end };
    }
