-- What exchanges leave of the two sides of an instance.
use Rattle.std.proofs.Common.{◌≡◌, ℕ, Bool, true, false, List, Option, Some, option_map, refl, ap, ◌∙◌}
use Rattle.page_ring.specs.Events as ring
use Rattle.trace_lex.specs.Decimals.{written_number}
use Rattle.trace_command.specs.Paths.{OfInstance}
use Rattle.trace_command.specs.Requests.{Request, Emission, MakeInstance, WriteFile}
use Rattle.trace_command.specs.declared.command.Config.{Config}
use Rattle.trace_command.specs.declared.file_name.TopFile.TheVariants as top
use Rattle.tracer_specification.specs.Emissions.{Emitted}
use Rattle.tracer_specification.specs.Laws.{writes_snapshot, SnapshotsSwapTheSides, TriggersSwapTheSides, SnapshotsStay}
use Rattle.tracer_specification.specs.Rings.{with_emitted, rings_after_write, rings_after, spare_after, rings, other_rings}
use Rattle.tracer_specification.specs.Settings.{makes}
use Rattle.tracer_specification.specs.Snapshots.{Takes, snapshot_write, is_exchanged_by, exchanges, written_snapshot}
use Rattle.tracer_specification.proofs.PipeReads.{is_same-self}
use Rattle.tracer_specification.proofs.Sides.{rings-stay, rings-exchanged}

-- ---- a write of 1

one-takes : (text : List ℕ) → written_number text ≡ Some 1 → written_snapshot text ≡ Some Takes
unfolding written_snapshot
one-takes text one = ap (option_map snapshot_write) one

-- the write itself leaves the rings as they are
written-stay : (append : Bool) (family : List (List ring.Event)) → rings_after_write append (Some (OfInstance top.Snapshot)) family ≡ family
written-stay true family = refl
written-stay false family = refl

pub snapshots_swap_the_sides : SnapshotsSwapTheSides
snapshots_swap_the_sides g past instance append text one =
    let request : Request = WriteFile instance (Some (OfInstance top.Snapshot)) append text in
    let takes = one-takes text one in
    let flips : exchanges instance past request ≡ true = rw (is_same-self instance, takes) refl in
    let swapped = rings-exchanged g instance past request refl flips in
    let kept : spare_after g instance request (other_rings g instance past) ≡ other_rings g instance past = rw (is_same-self instance, takes) refl in
    let written : rings_after g instance past request (rings g instance past) ≡ rings g instance past = rw (is_same-self instance) (written-stay append (rings g instance past)) in
    (swapped.live ∙ kept, swapped.spare ∙ written)

-- ---- an emission that makes a trigger act

pub triggers_swap_the_sides : TriggersSwapTheSides
triggers_swap_the_sides g past instance (Emission name cpu pid pairs) e is acting =
    let request : Request = Emission name cpu pid pairs in
    let flips : exchanges instance past request ≡ true = ap (is_exchanged_by instance past) is ∙ acting in
    let swapped = rings-exchanged g instance past request refl flips in
    (swapped.live, swapped.spare ∙ ap (λ (o : Option Emitted). with_emitted instance past o (rings g instance past)) is)
triggers_swap_the_sides g past instance _ e is acting = absurd (cc)

-- ---- all else

spare-stays : (g : Config) (instance : Option (List ℕ)) (request : Request) (family : List (List ring.Event)) → makes instance request ≡ false
    → writes_snapshot instance request ≡ false → spare_after g instance request family ≡ family
spare-stays g instance (WriteFile other (Some (OfInstance top.Snapshot)) append text) family alive elsewhere = rw elsewhere refl
spare-stays g instance (MakeInstance name) family alive elsewhere = rw alive refl
spare-stays g instance request family alive elsewhere = refl

pub snapshots_stay : SnapshotsStay
snapshots_stay g past instance request alive elsewhere stays =
    (rings-stay g instance past request alive stays).spare ∙ spare-stays g instance request (other_rings g instance past) alive elsewhere
