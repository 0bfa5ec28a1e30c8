-- Without a spare the other side is empty.
use Rattle.std.proofs.Common.{◌≡◌, ◌⊎◌, inl, inr, ℕ, ◌+◌, ◌-◌, Bool, true, false, ◌&&◌, if◌then◌else◌, List, [], ◌∷◌, replicate, is_some, Option, None, Some, unwrap_or, Result, Ok, Err, refl, sym, ap, ◌∙◌, true≢false}
use Rattle.std.proofs.lemmas.Bool.{and_parts, false≢true}
use Rattle.std.proofs.lemmas.List.{length-replicate}
use Rattle.page_ring.specs.Events as ring
use Rattle.trace_buffer.specs.Families.{all_cleared}
use Rattle.trace_format.specs.declared.bad_row.BadRow.{BadRow}
use Rattle.trace_format.specs.Definitions.{Definition}
use Rattle.trace_format.specs.Cells.{Cells}
use Rattle.trace_format.specs.Rows.{row_of}
use Rattle.trace_command.specs.Paths.{OfInstance}
use Rattle.trace_command.specs.Requests.{Request, Emission, MakeInstance, WriteFile}
use Rattle.trace_command.specs.declared.command.Config.{Config}
use Rattle.trace_command.specs.declared.file_name.TopFile.TheVariants as top
use Rattle.tracer_specification.specs.Emissions.{Emitted, emitted, emitted_event, emitted_row}
use Rattle.tracer_specification.specs.Laws.{SparesBeginEmpty}
use Rattle.tracer_specification.specs.Rings.{new_rings, spare_after, other_rings}
use Rattle.tracer_specification.specs.Settings.{NumberedEvent, is_same, makes, set_by, event_named, now_of}
use Rattle.tracer_specification.specs.Snapshots.{SnapshotWrite, Frees, Takes, Empties, written_snapshot, takes_snapshot, clears_spare, spare_written, sets_spare, has_spare, is_exchanged_by, exchanges, live_side}
use Rattle.tracer_specification.specs.Triggers.{Trigger, snapshot_trigger_of, has_snapshot_trigger, acts}
use Rattle.tracer_specification.proofs.PipeReads.{is_same-self}
use Rattle.tracer_specification.proofs.Spares.{IsFreed, left, named-passes, set-freed, triggers_have_their_spare}
use Rattle.tracer_specification.proofs.Sides.{rings-stay, rings-made, side-has_all_cpus}

-- new rings stay so on the other side
new-stay : (g : Config) (instance : Option (List ℕ)) (request : Request) → spare_after g instance request (new_rings g) ≡ new_rings g
new-stay g instance (WriteFile other (Some (OfInstance top.Snapshot)) append text) = by (is_same instance other && clears_spare (written_snapshot text))
  where
    by : (clears : Bool) → (if clears then all_cleared (new_rings g) else new_rings g) ≡ new_rings g
    by true =
        let none : List ring.Event = [] in
        ap (λ (n : ℕ). let rings : List (List ring.Event) = replicate n none in rings) (length-replicate g.cpus none)
    by false = refl
new-stay g instance (MakeInstance name) = by (makes instance (MakeInstance name))
  where
    by : (new : Bool) → (if new then new_rings g else new_rings g) ≡ new_rings g
    by true = refl
    by false = refl
new-stay g instance request = refl

-- a spare that is freed is emptied
freed-new : (g : Config) (instance : Option (List ℕ)) (past : List Request) (request : Request) → IsFreed instance request
    → spare_after g instance request (other_rings g instance past) ≡ new_rings g
freed-new g instance past request free =
    let none : List ring.Event = [] in
    let family = other_rings g instance past in
    ap (λ (r : Request). spare_after g instance r family) free.is
    ∙ rw (is_same-self instance, free.frees)
    (ap (λ (n : ℕ). let rings : List (List ring.Event) = replicate n none in rings) (side-has_all_cpus g instance (1 - live_side instance past) past))

takes-spare : (write : Option SnapshotWrite) → takes_snapshot write ≡ true → spare_written write ≡ Some true
takes-spare (Some Takes) is = refl
takes-spare (Some Frees) is = absurd (cc)
takes-spare (Some Empties) is = absurd (cc)
takes-spare None is = absurd (cc)

-- what exchanges the sides makes a spare, or is an emission on which a trigger acts
exchange-armed : (instance : Option (List ℕ)) (past : List Request) (request : Request) → exchanges instance past request ≡ true
    → (set_by instance (sets_spare past) request ≡ Some true)
    ⊎ ((is_exchanged_by instance past (emitted past request) ≡ true) × (set_by instance (sets_spare past) request ≡ None))
exchange-armed instance past (WriteFile other (Some (OfInstance top.Snapshot)) append text) is =
    let parts = and_parts (is_same instance other) (takes_snapshot (written_snapshot text)) is in
    inl (rw parts.0 (takes-spare (written_snapshot text) parts.1))
exchange-armed instance past (Emission name cpu pid pairs) is = inr (is, refl)
exchange-armed instance past _ is = absurd (false≢true is)

-- Without a spare the other side is empty, where it was so and a trigger that acts has a spare.
pub empty-after : (g : Config) (instance : Option (List ℕ)) (past : List Request) (request : Request)
    → (is_exchanged_by instance past (emitted past request) ≡ true → has_spare instance past ≡ true)
    → (has_spare instance past ≡ false → other_rings g instance past ≡ new_rings g)
    → has_spare instance (request ∷ past) ≡ false → other_rings g instance (request ∷ past) ≡ new_rings g
empty-after g instance past request acting before without = by_life (makes instance request) refl without
  where
    set_spare : Option Bool
    set_spare = set_by instance (sets_spare past) request

    by_set : (set : Option Bool) → set_spare ≡ set → unwrap_or set (has_spare instance past) ≡ false
        → spare_after g instance request (other_rings g instance past) ≡ new_rings g
    by_set None is h = ap (spare_after g instance request) (before h) ∙ new-stay g instance request
    by_set (Some true) is h = absurd (true≢false h)
    by_set (Some false) is h = freed-new g instance past request (set-freed instance past request is)

    no_exchange : unwrap_or set_spare (has_spare instance past) ≡ false
        → (set_spare ≡ Some true) ⊎ ((is_exchanged_by instance past (emitted past request) ≡ true) × (set_spare ≡ None)) → ⊥
    no_exchange h (inl set) = let e : true ≡ false = rw set at h in true≢false e
    no_exchange h (inr acts) =
        let e : has_spare instance past ≡ false = rw acts.1 at h in
        true≢false (sym (acting acts.0) ∙ e)

    by_exchange : (flips : Bool) → makes instance request ≡ false → exchanges instance past request ≡ flips
        → unwrap_or set_spare (has_spare instance past) ≡ false → other_rings g instance (request ∷ past) ≡ new_rings g
    by_exchange true alive is h = absurd (no_exchange h (exchange-armed instance past request is))
    by_exchange false alive is h = (rings-stay g instance past request alive is).spare ∙ by_set set_spare refl h

    by_life : (new : Bool) → makes instance request ≡ new → left false new set_spare (has_spare instance past) ≡ false
        → other_rings g instance (request ∷ past) ≡ new_rings g
    by_life true new h = (rings-made g instance past request new).spare
    by_life false alive h = by_exchange (exchanges instance past request) alive refl h

-- an emission on which a trigger acts is one of a declared event that has it
pub acting-has_snapshot_trigger : (instance : Option (List ℕ)) (past : List Request) (request : Request)
    → is_exchanged_by instance past (emitted past request) ≡ true → has_snapshot_trigger instance past ≡ true
acting-has_snapshot_trigger instance past (Emission name cpu pid pairs) is = by (event_named name past) refl is
  where
    by_trigger : (e : Emitted) (o : Option Trigger) → snapshot_trigger_of instance e.k.event past ≡ o → event_named name past ≡ Some e.k
        → acts past e o ≡ true → has_snapshot_trigger instance past ≡ true
    by_trigger e None was there h = absurd (false≢true h)
    by_trigger e (Some t) was there h =
        named-passes (λ (event : Definition). is_some (snapshot_trigger_of instance event past)) past name e.k there (ap is_some was)

    by_row : (k : NumberedEvent) (row : Result Cells BadRow) → event_named name past ≡ Some k
        → is_exchanged_by instance past (emitted_row (now_of past + 1) cpu pid k row) ≡ true → has_snapshot_trigger instance past ≡ true
    by_row k (Err missing) there h = absurd (false≢true h)
    by_row k (Ok row) there h =
        by_trigger (record { k = k; row = row; cpu = cpu; pid = pid; timestamp = now_of past + 1 }) (snapshot_trigger_of instance k.event past) refl there h

    by : (found : Option NumberedEvent) → event_named name past ≡ found
        → is_exchanged_by instance past (emitted_event (now_of past + 1) cpu pid pairs found) ≡ true → has_snapshot_trigger instance past ≡ true
    by None none h = absurd (false≢true h)
    by (Some k) there h = by_row k (row_of k.event pairs) there h
acting-has_snapshot_trigger instance past _ is = absurd (false≢true is)

pub spares_begin_empty : SparesBeginEmpty
spares_begin_empty g [] instance done without = refl
spares_begin_empty g (request ∷ past) instance done without =
    empty-after g instance past request
    (λ acting. triggers_have_their_spare g past instance done.1 (acting-has_snapshot_trigger instance past request acting))
    (spares_begin_empty g past instance done.1) without
