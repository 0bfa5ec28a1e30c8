-- Over both sides of an instance, the emissions that were recorded since a ring was emptied are all of them, if none was.
use Rattle.std.proofs.Common.{◌≡◌, ℕ, zero, suc, ◌+◌, ◌-◌, ◌%◌, ◌≤◌, ◌==◌, Bool, true, false, ◌||◌, if◌then◌else◌, List, [], ◌∷◌, Option, refl, ◌∙◌, ap, arith, true≢false}
use Rattle.trace_command.specs.Requests.{Request}
use Rattle.tracer_specification.specs.Settings.{makes}
use Rattle.tracer_specification.specs.Snapshots.{exchanges, exchange_count, live_side}
use Rattle.tracer_specification.proofs.Sides.{live-small}
use Rattle.history_laws.specs.AccountedFor.{emissions_of, empties_live, empties_spare, shown_of, since_made, was_emptied, EmissionsAreAccountedFor, EmissionsAreShownOrCounted, ShownCountsAccountForEmissions}
use Rattle.history_laws.specs.RingTotals.{since_new, ReadIsWhatPipesShowed, RingsCountEmissions}

-- ---- one request later

neither : (x y : Bool) → (x || y) ≡ false → (x ≡ false) × (y ≡ false)
neither true y h = absurd (true≢false h)
neither false y h = (refl, h)

-- a request that empties neither ring of the CPU adds to the one that is live
added-after : (adds : List Request → Request → ℕ) (instance : Option (List ℕ)) (cpu side : ℕ) (past : List Request) (request : Request) → makes instance request ≡ false
    → empties_live instance cpu request ≡ false → empties_spare instance request ≡ false
    → since_new adds instance side cpu (request ∷ past)
    ≡ since_new adds instance side cpu past + (if side == live_side instance past then adds past request else 0)
added-after adds instance cpu side past request alive live spare = rw alive (by (side == live_side instance past))
  where
    n : ℕ
    n = since_new adds instance side cpu past

    added : Bool → ℕ
    added here = n + (if here then adds past request else 0)

    by : (here : Bool) → (if (if here then empties_live instance cpu request else empties_spare instance request) then 0 else added here) ≡ added here
    by true = rw live refl
    by false = rw spare refl

added-made : (adds : List Request → Request → ℕ) (instance : Option (List ℕ)) (cpu side : ℕ) (past : List Request) (request : Request) → makes instance request ≡ true
    → since_new adds instance side cpu (request ∷ past) ≡ 0
added-made adds instance cpu side past request new = rw new refl

-- ---- over both sides

-- one of the sides is live
one-live : (side added : ℕ) → side ≤ 1 → (if 0 == side then added else 0) + (if 1 == side then added else 0) ≡ added
one-live zero added few = omega arith
one-live (suc zero) added few = omega arith
one-live (suc (suc side)) added few = absurd (omega (arith, few))

both-added : (adds : List Request → Request → ℕ) (past : List Request) (instance : Option (List ℕ)) (cpu : ℕ) → was_emptied instance cpu past ≡ false
    → since_new adds instance 0 cpu past + since_new adds instance 1 cpu past ≡ since_made adds instance past
both-added adds [] instance cpu keeps = refl
both-added adds (request ∷ past) instance cpu keeps = by (makes instance request) refl keeps (both-added adds past instance cpu)
  where
    by : (new : Bool) → makes instance request ≡ new
        → (if new then false else empties_live instance cpu request || (empties_spare instance request || was_emptied instance cpu past)) ≡ false
        → (was_emptied instance cpu past ≡ false → since_new adds instance 0 cpu past + since_new adds instance 1 cpu past ≡ since_made adds instance past)
        → since_new adds instance 0 cpu (request ∷ past) + since_new adds instance 1 cpu (request ∷ past)
        ≡ (if new then 0 else since_made adds instance past + adds past request)
    by true new keeps before =
        omega (arith, added-made adds instance cpu 0 past request new, added-made adds instance cpu 1 past request new)
    by false alive keeps before =
        let first = neither (empties_live instance cpu request) (empties_spare instance request || was_emptied instance cpu past) keeps in
        let others = neither (empties_spare instance request) (was_emptied instance cpu past) first.1 in
        omega (
          arith,
          added-after adds instance cpu 0 past request alive first.0 others.0,
          added-after adds instance cpu 1 past request alive first.0 others.0,
          one-live (live_side instance past) (adds past request) (live-small instance past),
          before others.1,
        )

-- the sides are the live one and the other
both-sides : (f : ℕ → ℕ) (side : ℕ) → side ≤ 1 → f side + f (1 - side) ≡ f 0 + f 1
both-sides f zero few = refl
both-sides f (suc zero) few = omega arith
both-sides f (suc (suc side)) few = absurd (omega (arith, few))

-- what requests add to the live side and to the other
sides-added : (adds : List Request → Request → ℕ) (past : List Request) (instance : Option (List ℕ)) (cpu : ℕ) → was_emptied instance cpu past ≡ false
    → let side = live_side instance past in
    since_new adds instance side cpu past + since_new adds instance (1 - side) cpu past ≡ since_made adds instance past
sides-added adds past instance cpu keeps =
    both-sides (λ side. since_new adds instance side cpu past) (live_side instance past) (live-small instance past)
    ∙ both-added adds past instance cpu keeps

pub emissions_are_accounted_for : RingsCountEmissions → EmissionsAreAccountedFor
emissions_are_accounted_for counts g past instance cpu inside keeps =
    let side = live_side instance past in
    omega (
      arith,
      counts g past instance side cpu inside,
      counts g past instance (1 - side) cpu inside,
      sides-added (emissions_of instance cpu) past instance cpu keeps,
    )

pub emissions_are_shown_or_counted : RingsCountEmissions → ReadIsWhatPipesShowed → EmissionsAreShownOrCounted
emissions_are_shown_or_counted counts read g past instance cpu inside keeps =
    let side = live_side instance past in
    omega (
      arith,
      emissions_are_accounted_for counts g past instance cpu inside keeps,
      read g past instance side cpu,
      read g past instance (1 - side) cpu,
      sides-added (shown_of g instance cpu) past instance cpu keeps,
    )

-- ---- without a snapshot

-- side 0 is live, and nothing was added to the other
record IsFirstLive (adds : List Request → Request → ℕ) (instance : Option (List ℕ)) (cpu : ℕ) (past : List Request) : Type 0 where
  live : live_side instance past ≡ 0
  other : since_new adds instance 1 cpu past ≡ 0

first-live : (adds : List Request → Request → ℕ) (past : List Request) (instance : Option (List ℕ)) (cpu : ℕ) → exchange_count instance past ≡ 0
    → IsFirstLive adds instance cpu past
first-live adds past instance cpu none = record { live = ap (λ (n : ℕ). n % 2) none; other = other past none }
  where
    other : (past : List Request) → exchange_count instance past ≡ 0 → since_new adds instance 1 cpu past ≡ 0
    other [] none = refl
    other (request ∷ past) none = by (makes instance request) refl none (other past)
      where
        added : ℕ
        added = since_new adds instance 1 cpu past + (if 1 == live_side instance past then adds past request else 0)

        by_emptied : (empties : Bool) → added ≡ 0 → (if empties then 0 else added) ≡ 0
        by_emptied true is = refl
        by_emptied false is = is

        by : (new : Bool) → makes instance request ≡ new
            → (if new then 0 else exchange_count instance past + (if exchanges instance past request then 1 else 0)) ≡ 0
            → (exchange_count instance past ≡ 0 → since_new adds instance 1 cpu past ≡ 0) → since_new adds instance 1 cpu (request ∷ past) ≡ 0
        by true new none before = added-made adds instance cpu 1 past request new
        by false alive none before =
            let still : exchange_count instance past ≡ 0 = omega (arith, none) in
            let live : live_side instance past ≡ 0 = ap (λ (n : ℕ). n % 2) still in
            let added_none : added ≡ 0 = rw live (omega (arith, before still)) in
            rw alive (by_emptied (if 1 == live_side instance past then empties_live instance cpu request else empties_spare instance request) added_none)

pub shown_counts_account_for_emissions : RingsCountEmissions → ShownCountsAccountForEmissions
shown_counts_account_for_emissions counts g past instance cpu inside keeps none =
    let adds = emissions_of instance cpu in
    let first = first-live adds past instance cpu none in
    omega (
      arith,
      counts g past instance (live_side instance past) cpu inside,
      ap (λ (side : ℕ). since_new adds instance side cpu past) first.live,
      first.other,
      both-added adds past instance cpu keeps,
    )
