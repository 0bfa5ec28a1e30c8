-- What a string written to `trigger` says of a hist trigger is the specification that is read from it.
use Rattle.std.proofs.Common.{◌≡◌, ℕ, Bool, true, false, if◌then◌else◌, List, Option, None, Some, Result, Ok, Err, codes}
use Rattle.std.specs.List.{list_all}
use Rattle.trace_lex.specs.Blanks.{is_blank}
use Rattle.trace_format.specs.Definitions.{Definition}
use Rattle.trace_trigger.specs.HistSpecs.{SpecSeen}
use Rattle.trace_trigger.specs.HistTexts.{spec_of}
use Rattle.trace_trigger.specs.TriggerAnswers.{◌>>=◌}
use Rattle.trace_trigger.specs.TriggerTexts.{after, begins, said_after, said_of, snapshot_said, snapshot_trigger_of}
use Rattle.trace_trigger.specs.declared.fault.TriggerFault.{TriggerFault}
use Rattle.trace_trigger.specs.declared.trigger.SnapshotTrigger.{SnapshotTrigger}
use Rattle.trace_trigger.specs.declared.trigger.TriggerText.TheVariants.{Nothing, AttachSnapshot, RemoveSnapshot, Hist, RemoveHist}

attach-no_hist : (spec : SpecSeen) (read : Result SnapshotTrigger TriggerFault) → (read >>= λ trigger. Ok (AttachSnapshot trigger)) ≡ Ok (Hist spec) → ⊥
attach-no_hist spec (Ok trigger) is = cc
attach-no_hist spec (Err fault) is = cc

remove-no_hist : (spec : SpecSeen) (read : Result SnapshotTrigger TriggerFault) → (read >>= λ trigger. Ok RemoveSnapshot) ≡ Ok (Hist spec) → ⊥
remove-no_hist spec (Ok trigger) is = cc
remove-no_hist spec (Err fault) is = cc

-- what is said of a snapshot trigger is nothing of a hist trigger
pub snapshot-no_hist : (event : Definition) (text : List ℕ) (spec : SpecSeen) → snapshot_said event text ≡ Ok (Hist spec) → ⊥
unfolding snapshot_said
snapshot-no_hist event text spec is = by (after (codes "!") text) is
  where
    by : (body : Option (List ℕ)) → said_after event text body ≡ Ok (Hist spec) → ⊥
    by None said = attach-no_hist spec (snapshot_trigger_of event text text) said
    by (Some body) said = remove-no_hist spec (snapshot_trigger_of event text body) said

hist-read : (spec : SpecSeen) (read : Result SpecSeen TriggerFault) → (read >>= λ s. Ok (Hist s)) ≡ Ok (Hist spec) → read ≡ Ok spec
hist-read spec (Ok s) is = cc
hist-read spec (Err fault) is = absurd (cc)

removed-no_hist : (spec : SpecSeen) (read : Result SpecSeen TriggerFault) → (read >>= λ s. Ok (RemoveHist s)) ≡ Ok (Hist spec) → ⊥
removed-no_hist spec (Ok s) is = cc
removed-no_hist spec (Err fault) is = cc

-- and what is said of a hist trigger is what is read of it
pub said-spec : (event : Definition) (text : List ℕ) (spec : SpecSeen) → said_of event text ≡ Ok (Hist spec) → spec_of event text ≡ Ok spec
unfolding said_of
said-spec event text spec said = by (list_all is_blank text) (begins (codes "hist:") text) (begins (codes "!hist:") text) said
  where
    by : (blank hist removed : Bool)
        → (if blank then Ok Nothing
        else if hist then (spec_of event text >>= λ s. Ok (Hist s))
        else if removed then (spec_of event text >>= λ s. Ok (RemoveHist s))
        else snapshot_said event text) ≡ Ok (Hist spec)
        → spec_of event text ≡ Ok spec
    by true hist removed is = absurd (cc)
    by false true removed is = hist-read spec (spec_of event text) is
    by false false true is = absurd (removed-no_hist spec (spec_of event text) is)
    by false false false is = absurd (snapshot-no_hist event text spec is)
