-- A console gives its caller back.
use Rattle.std.proofs.Common.{◌≡◌, true, false, List, Option, Some, None, Result, Ok, Err, IfNone, IfSome, IsOk, IsSome, is_some, refl, sym, ap, subst, ◌∙◌}
use Rattle.std.specs.Arc.{arc_value}
use Rattle.trace_command.specs.declared.refusal.Refusal.{Refusal}
use Rattle.shared_mount.specs.LiveMountSeen.{SharedTerms, numbers_of}
use Rattle.shared_mount.specs.MountCallers.{caller_view, IsCallerOf, IsIdle}
use Rattle.shared_mount.specs.MountEntries.{EntrySeen}
use Rattle.shared_mount.specs.MountHistories.{WereTaken}
use Rattle.shared_mount.specs.declared.caller.Caller.{Caller}
use Rattle.shared_mount.specs.declared.shared.SharedMount.{SharedMount}
use Rattle.library_tracer.specs.ConsolesSeen.{ConsoleSeen, Known}
use Rattle.library_tracer.specs.Consoles.{HasLeft, HasSeen, IsOfTracer, Looks}
use Rattle.library_tracer.specs.Inner.{known_by, seen, IsSound}
use Rattle.library_tracer.specs.declared.console.Console.TheInside.{Inside}
use Rattle.library_tracer.specs.declared.queued.Queued.{Queued}
use Rattle.library_tracer.proofs.ConsoleLemmas.{idle_is, not_in_line, seen_as}

-- a caller is that of any tracer with the same lock that was made with the same
pub its_caller : (i : Inside) (shared : SharedMount) (caller : Caller) → IsOfTracer shared (seen i) → IsCallerOf (arc_value i.tracer) caller
    → IsCallerOf shared caller
its_caller i shared caller same of = record {
  of = of.of ∙ sym same.0;
  asks = record {
    base = of.asks.base ∙ ap numbers_of (sym same.1);
    taken = subst (λ (g : SharedTerms). WereTaken g (caller_view caller).seen) (sym same.1) of.asks.taken;
  };
}

-- one that gave its caller back
gone : (i : Inside) (caller : Caller) → i.idle ≡ Some caller → IsSound i → seen (record i { idle = None }) ≡ record (seen i) { has = None; is_in_line = false }
gone i caller e sound =
    ap (λ (q : Option Queued). seen (record i { idle = None; queued = q })) (not_in_line i caller e sound)

pub idle_leaves : (i : Inside) (idle rest : Option Caller) → i.idle ≡ idle → rest ≡ None → IsSound i
    → IfSome idle (λ caller. HasLeft (seen i) (seen (record i { idle = rest })) (known_by caller))
idle_leaves i None rest e none sound = tt
idle_leaves i (Some caller) rest e none sound = record {
  was = known_by caller;
  had = ap (λ (c : ConsoleSeen). c.has) (idle_is i caller e sound);
  left = ap (λ (o : Option Caller). seen (record i { idle = o })) none ∙ gone i caller e sound;
  idle = λ out. refl;
  turn = λ in_line.
      let out : (seen i).is_in_line ≡ false = ap (λ (c : ConsoleSeen). c.is_in_line) (idle_is i caller e sound) in absurd (cc);
}

pub idle_of : (i : Inside) (idle : Option Caller) → i.idle ≡ idle → IsSound i → (shared : SharedMount) → IsOfTracer shared (seen i)
    → IfSome idle (λ caller. IsCallerOf shared caller)
idle_of i None e sound shared same = tt
idle_of i (Some caller) e sound shared same =
    its_caller i shared caller same (subst (λ (o : Option Caller). IfSome o (IsCallerOf (arc_value i.tracer))) e sound.idle)

-- one that is not in line has a caller
pub idle_stays : (i : Inside) (idle : Option Caller) (after : ConsoleSeen) → i.idle ≡ idle → is_some i.queued ≡ false → IsSome (seen i).has
    → IfNone idle ((after ≡ seen i) × ((seen i).is_in_line ≡ true))
idle_stays i None after e out has = absurd (none i.queued out (subst (λ (o : Option Caller). IsSome (seen (record i { idle = o })).has) e has))
  where
    none : (queued : Option Queued) → is_some queued ≡ false → IsSome (seen (record i { idle = None; queued = queued })).has → ⊥
    none None out some = absurd (cc)
    none (Some queued) out some = absurd (cc)
idle_stays i (Some caller) after e out has = tt

-- a look of one that is in line had its turn, if it told something
had_turn : {S : Type 0} (shows : List EntrySeen → S → Type 0) (before after : ConsoleSeen) (told : Result S Refusal) → IsOk told
    → Looks shows before after (Some told) → HasSeen (λ entries. Unit {0}) before after
had_turn shows before after (Ok seen) ok looks =
    seen_as (λ entries. shows entries seen) (λ entries. Unit {0}) (λ entries what. tt) before after looks
had_turn shows before after (Err refusal) ok looks = absurd (cc)

-- so it leaves
leaves_now : (i : Inside) (before : ConsoleSeen) (idle rest : Option Caller) → i.idle ≡ idle → rest ≡ None → IsSound i → before.is_in_line ≡ true
    → HasSeen (λ entries. Unit {0}) before (seen i) → IfSome idle (λ caller. HasLeft before (seen (record i { idle = rest })) (known_by caller))
leaves_now i before None rest e none sound in_line h = tt
leaves_now i before (Some caller) rest e none sound in_line h =
    let has : Some (known_by caller) ≡ Some h.now =
    sym (ap (λ (c : ConsoleSeen). c.has) (idle_is i caller e sound)) ∙ ap (λ (c : ConsoleSeen). c.has) h.left in
    let known : known_by caller ≡ h.now = cc in record {
      was = h.was;
      had = h.had;
      left = ap (λ (o : Option Caller). seen (record i { idle = o })) none ∙ gone i caller e sound
          ∙ ap (λ (c : ConsoleSeen). record c { has = None; is_in_line = false }) h.left;
      idle = λ out. absurd (cc);
      turn = λ _. subst (λ (k : Known). IsIdle before.terms h.was.view k.view) (sym known) h.idle;
    }

-- it has a caller to give back
gives : (i : Inside) (before : ConsoleSeen) (idle : Option Caller) (P : Type 0) → i.idle ≡ idle → HasSeen (λ entries. Unit {0}) before (seen i) → IfNone idle P
gives i before None P e h = absurd (none i.queued in_line has)
  where
    in_line : is_some i.queued ≡ false
    in_line = ap (λ (c : ConsoleSeen). c.is_in_line) h.left

    has : (seen (record i { idle = None })).has ≡ Some h.now
    has = ap (λ (o : Option Caller). (seen (record i { idle = o })).has) (sym e) ∙ ap (λ (c : ConsoleSeen). c.has) h.left

    none : (queued : Option Queued) → is_some queued ≡ false → (seen (record i { idle = None; queued = queued })).has ≡ Some h.now → ⊥
    none None out some = absurd (cc)
    none (Some queued) out some = absurd (cc)
gives i before (Some caller) P e h = tt

module _ {S : Type 0} (i : Inside) (shows : List EntrySeen → S → Type 0) (before mid : ConsoleSeen) (told : Result S Refusal) (idle rest : Option Caller)
    (view : seen i ≡ mid) (ok : IsOk told) (looks : Looks shows before mid (Some told)) (e : i.idle ≡ idle) where
  turn : HasSeen (λ entries. Unit {0}) before (seen i)
  turn = subst (λ (c : ConsoleSeen). HasSeen (λ entries. Unit {0}) before c) (sym view) (had_turn shows before mid told ok looks)

  pub line_leaves : rest ≡ None → IsSound i → before.is_in_line ≡ true
      → IfSome idle (λ caller. HasLeft before (seen (record i { idle = rest })) (known_by caller))
  line_leaves none sound in_line = leaves_now i before idle rest e none sound in_line turn

  pub line_gives : (P : Type 0) → IfNone idle P
  line_gives P = gives i before idle P e turn

  pub line_of : IsSound i → (shared : SharedMount) → IsOfTracer shared before → IfSome idle (λ caller. IsCallerOf shared caller)
  line_of sound shared same =
      let tracer : (seen i).tracer ≡ before.tracer = ap (λ (c : ConsoleSeen). c.tracer) turn.left in
      let terms : (seen i).terms ≡ before.terms = ap (λ (c : ConsoleSeen). c.terms) turn.left in
      idle_of i idle e sound shared (same.0 ∙ sym tracer, same.1 ∙ sym terms)
