-- The mask that is told in the turn of a call, or by a look.
use Rattle.std.proofs.Common.{◌≡◌, ◌⊎◌, inl, inr, ℕ, List, length, Option, Some, None, Result, Ok, Err, MatchResult, IfSome, IfNone, unwrap_or, refl, sym, ap, subst, ◌∙◌}
use Rattle.trace_command.specs.Commands.{Command}
use Rattle.trace_command.specs.Requests.{Request}
use Rattle.trace_command.specs.declared.refusal.Refusal.{Refusal}
use Rattle.tracer.specs.LiveMasks.{IsMaskAfter}
use Rattle.tracer.specs.LiveSeen.{LiveSeen}
use Rattle.tracer.specs.Lives.{IsLive}
use Rattle.trace_script.specs.Outcomes.{Gives}
use Rattle.trace_script.specs.declared.fault.LineError.{LineError}
use Rattle.trace_script.specs.declared.fault.LineError.TheVariants as errors
use Rattle.trace_script.specs.declared.fault.ScriptFault.{ScriptFault}
use Rattle.trace_script.specs.declared.line.Line.{Line}
use Rattle.trace_script.specs.declared.line.Line.TheVariants.{Ask}
use Rattle.trace_script.specs.declared.outcome.Outcome.{Outcome}
use Rattle.shared_mount.specs.LiveMountSeen.{SharedTerms}
use Rattle.shared_mount.specs.MountCallers.{IsToldOf}
use Rattle.shared_mount.specs.MountEntries.{EntrySeen, done_in}
use Rattle.library_tracer.specs.ConsolesSeen.{ConsoleSeen}
use Rattle.library_tracer.specs.Consoles.{failed, said_by, says, tells, Asks, Comes, LacksMemory, Looks, Said}
use Rattle.library_tracer.specs.Masks.{IsMaskOf, Masks}
use Rattle.library_tracer.specs.declared.console.Tried.{Tried}
use Rattle.library_tracer.specs.declared.console.Tried.TheVariants.{Busy, Told}
use Rattle.library_tracer.specs.declared.mask.Mask.{Mask}
use Rattle.library_tracer.specs.private.Turns.{HadNoTurn, IsSeenNow}
use Rattle.library_tracer.proofs.ConsoleLemmas.{seen_as}

-- ---- a look

abbrev pub tells_wanted : LiveSeen → Mask → Type 0
tells_wanted live mask = (past : List Request) → IsLive live.config past live → (mask.entries ≡ length past) × IsMaskAfter past mask.events

mask_of : (g : SharedTerms) (entries : List EntrySeen) (mask : Mask) → IsToldOf g tells_wanted entries mask → IsMaskOf entries mask
mask_of g entries mask told =
    let here = told.told (done_in entries) told.lives in record { count = here.0; events = here.1 }

pub wanted_seen : (before after : ConsoleSeen) (told : Option (Result Mask Refusal)) → Looks (IsToldOf before.terms tells_wanted) before after told
    → Looks IsMaskOf before after told
wanted_seen before after None looks = looks
wanted_seen before after (Some (Err refusal)) looks = looks
wanted_seen before after (Some (Ok mask)) looks =
    seen_as (λ entries. IsToldOf before.terms tells_wanted entries mask) (λ entries. IsMaskOf entries mask)
    (λ entries told. mask_of before.terms entries mask told) before after looks

-- ---- a call

-- it tells the mask that was seen in its turn
pub masked : (request : List EntrySeen → Request) (words : Refusal → List ℕ) (before after : ConsoleSeen) (tried : Tried) (told : Option Mask) (was now : Mask) → now ≡ unwrap_or told was
    → IfSome told (IsSeenNow (IsToldOf before.terms tells_wanted) after tried) → IfNone told (HadNoTurn after tried) → Masks (Asks request words) after tried was now
masked request words before after Busy None was now is saw none = is
masked request words before after Busy (Some mask) was now is saw none = absurd (saw.had_turn refl)
masked request words before after (Told status owes) None was now is saw (inl busy) = absurd (cc)
masked request words before after (Told status owes) None was now is saw (inr worn) = inr (worn, is)
masked request words before after (Told status owes) (Some mask) was now is saw none =
    inl (record { now = saw.now; has = saw.has; is = subst (λ (m : Mask). IsMaskOf saw.now.view.seen m) (sym is) (mask_of before.terms saw.now.view.seen mask saw.shown_is) })

-- ---- a line

-- what one comes to that says this, with its mask; or memory was refused
abbrev ComesMasked : Said → ConsoleSeen → ConsoleSeen → Tried → Mask → Mask → Type 0
ComesMasked said before after tried was now =
    (Comes said before after tried × Masks said after tried was now) ⊎ (LacksMemory before after tried × (now ≡ was))

pub run_line : (text : List ℕ) (read : Result Line LineError) (line : Result Line ScriptFault) (command : Command) (before after : ConsoleSeen) (tried : Tried)
    (was now : Mask) → Gives (λ line. line) read line → read ≡ Ok (Ask command) → Comes (says command) before after tried
    → Masks (says command) after tried was now → ComesMasked (said_by text line) before after tried was now
run_line text read line command before after tried was now gives is comes masks =
    let read_so : line ≡ Ok (Ask command) = subst (λ (r : Result Line LineError). Gives (λ line. line) r line) is gives in
    subst (λ (l : Result Line ScriptFault). ComesMasked (said_by text l) before after tried was now) (sym read_so) (inl (comes, masks))

pub told_line : (text : List ℕ) (read : Result Line LineError) (line : Result Line ScriptFault) (outcome : Outcome) (before after : ConsoleSeen) (tried : Tried)
    (mask : Mask) → Gives (λ line. line) read line
    → MatchResult read (λ line. (text : List ℕ) → said_by text (Ok line) ≡ tells text outcome) (λ error. outcome ≡ failed error)
    → Comes (tells text outcome) before after tried → ComesMasked (said_by text line) before after tried mask mask
told_line text (Ok one) line outcome before after tried mask gives told comes =
    subst (λ (s : Said). ComesMasked s before after tried mask mask) (sym (told text) ∙ sym (ap (said_by text) gives)) (inl (comes, refl))
told_line text (Err (errors.Fault fault)) line outcome before after tried mask gives told comes =
    subst (λ (l : Result Line ScriptFault). ComesMasked (said_by text l) before after tried mask mask) (sym gives)
    (inl (subst (λ (o : Outcome). Comes (tells text o) before after tried) told comes, refl))
told_line text (Err errors.Memory) line outcome before after tried mask gives told comes =
    inr (subst (λ (o : Outcome). Comes (tells text o) before after tried) told comes, refl)
