-- For which trigger texts no memory is taken.
use Rattle.std.proofs.Common.{◌≡◌, ◌≢◌, ℕ, Bool, true, false, ◌||◌, codes, if◌then◌else◌, is_some, List, Option, Some, None, Result, Ok, Err, refl}
use Rattle.std.specs.List.{list_all}
use Rattle.trace_lex.specs.Blanks.{is_blank}
use Rattle.trace_format.specs.Definitions.{Definition}
use Rattle.trace_trigger.specs.HistSpecs.{SpecSeen}
use Rattle.trace_trigger.specs.HistTexts.{spec_of}
use Rattle.trace_trigger.specs.TriggerAnswers.{◌>>=◌}
use Rattle.trace_trigger.specs.TriggerTexts.{after, begins, is_hist_text, said_after, said_of, snapshot_said, snapshot_trigger_of}
use Rattle.trace_trigger.specs.declared.fault.TriggerFault.{TriggerFault}
use Rattle.trace_trigger.specs.declared.fault.TriggerFault.TheVariants as fault
use Rattle.trace_trigger.specs.declared.trigger.SnapshotTrigger.{SnapshotTrigger}
use Rattle.trace_trigger.specs.declared.trigger.TriggerText.TheVariants as said
use Rattle.trace_command.specs.Refusals.{refusal_of_trigger}
use Rattle.trace_command.specs.declared.refusal.Refusal.TheVariants.{Memory}
use Rattle.tracer_specification.proofs.SaidHists.{snapshot-no_hist}
use Rattle.trace_instance.specs.MemoryTaken.{attaches_none}

-- a fault that is not out of memory becomes no such refusal
pub other-fault : (faulty : TriggerFault) → faulty ≢ fault.Memory → refusal_of_trigger faulty ≢ Memory
other-fault fault.Memory other is = other refl
other-fault faulty other is = cc

-- a string that says something of a hist trigger begins so
pub hist-begins : (definition : Definition) (text : List ℕ) (spec : SpecSeen) → said_of definition text ≡ Ok (said.Hist spec) → is_hist_text text ≡ true
unfolding said_of
hist-begins definition text spec e =
    blank (list_all is_blank text) (begins (codes "hist:") text) refl (begins (codes "!hist:") text) refl e
  where
    blank : (nothing one : Bool) → begins (codes "hist:") text ≡ one → (two : Bool) → begins (codes "!hist:") text ≡ two
        → (if nothing then Ok said.Nothing
        else if one then (spec_of definition text >>= λ s. Ok (said.Hist s)) else if two then (spec_of definition text >>= λ s. Ok (said.RemoveHist s)) else snapshot_said definition text) ≡ Ok (said.Hist spec)
        → is_hist_text text ≡ true
    blank true one is two also h = absurd (cc)
    blank false true is two also h = rw is refl
    blank false false is true also h = rw (is, also) refl
    blank false false is false also h = absurd (snapshot-no_hist definition text spec h)

-- so does one that removes a hist trigger
pub removed-begins : (definition : Definition) (text : List ℕ) (spec : SpecSeen) → said_of definition text ≡ Ok (said.RemoveHist spec) → is_hist_text text ≡ true
unfolding said_of snapshot_said
removed-begins definition text spec e =
    blank (list_all is_blank text) (begins (codes "hist:") text) refl (begins (codes "!hist:") text) refl (after (codes "!") text) e
  where
    attached : (read : Result SnapshotTrigger TriggerFault) → (read >>= λ t. Ok (said.AttachSnapshot t)) ≡ Ok (said.RemoveHist spec) → ⊥
    attached (Ok t) h = cc
    attached (Err f) h = cc

    removed : (read : Result SnapshotTrigger TriggerFault) → (read >>= λ t. Ok said.RemoveSnapshot) ≡ Ok (said.RemoveHist spec) → ⊥
    removed (Ok t) h = cc
    removed (Err f) h = cc

    blank : (nothing one : Bool) → begins (codes "hist:") text ≡ one → (two : Bool) → begins (codes "!hist:") text ≡ two → (body : Option (List ℕ))
        → (if nothing then Ok said.Nothing
        else if one then (spec_of definition text >>= λ s. Ok (said.Hist s)) else if two then (spec_of definition text >>= λ s. Ok (said.RemoveHist s)) else said_after definition text body) ≡ Ok (said.RemoveHist spec)
        → is_hist_text text ≡ true
    blank true one is two also body h = absurd (cc)
    blank false true is two also body h = rw is refl
    blank false false is true also body h = rw (is, also) refl
    blank false false is false also None h = absurd (attached (snapshot_trigger_of definition text text) h)
    blank false false is false also (Some body) h = absurd (removed (snapshot_trigger_of definition text body) h)

-- a string that attaches no trigger doesn't say one for snapshots
pub attaches-begins : (definition : Definition) (text : List ℕ) (trigger : SnapshotTrigger) → said_of definition text ≡ Ok (said.AttachSnapshot trigger)
    → attaches_none text ≡ true → ⊥
unfolding said_of snapshot_said
attaches-begins definition text trigger e none =
    blank (list_all is_blank text) (begins (codes "hist:") text) (begins (codes "!hist:") text) (after (codes "!") text) e none
  where
    hist : (read : Result SpecSeen TriggerFault) → (read >>= λ s. Ok (said.Hist s)) ≡ Ok (said.AttachSnapshot trigger) → ⊥
    hist (Ok s) h = cc
    hist (Err f) h = cc

    removed_hist : (read : Result SpecSeen TriggerFault) → (read >>= λ s. Ok (said.RemoveHist s)) ≡ Ok (said.AttachSnapshot trigger) → ⊥
    removed_hist (Ok s) h = cc
    removed_hist (Err f) h = cc

    removed : (read : Result SnapshotTrigger TriggerFault) → (read >>= λ t. Ok said.RemoveSnapshot) ≡ Ok (said.AttachSnapshot trigger) → ⊥
    removed (Ok t) h = cc
    removed (Err f) h = cc

    blank : (nothing one two : Bool) (body : Option (List ℕ))
        → (if nothing then Ok said.Nothing
        else if one then (spec_of definition text >>= λ s. Ok (said.Hist s)) else if two then (spec_of definition text >>= λ s. Ok (said.RemoveHist s)) else said_after definition text body) ≡ Ok (said.AttachSnapshot trigger)
        → (nothing || is_some body) ≡ true → ⊥
    blank true one two body h n = cc
    blank false true two body h n = hist (spec_of definition text) h
    blank false false true body h n = removed_hist (spec_of definition text) h
    blank false false false None h n = cc
    blank false false false (Some body) h n = removed (snapshot_trigger_of definition text body) h
