-- What becomes of the sides of an instance: where the live one is written to or cleared, and where a spare is made, emptied or exchanged for
-- the live one.
use Rattle.std.proofs.Common.{◌≡◌, ℕ, zero, suc, ◌+◌, ◌<◌, ◌≤◌, true, false, List, [], ◌∷◌, length, replicate, get_or, set, Option, Some, None, IfSome, refl, sym, ap, ◌∙◌, subst, arith}
use Rattle.std.proofs.lemmas.List.{length-map}
use Rattle.std.specs.List.{AllByRecursion}
use Rattle.page_ring.specs.Events.{Event, Put}
use Rattle.page_ring.specs.Shown as ring
use Rattle.trace_buffer.specs.Buffers as buffers
use Rattle.trace_buffer.specs.Families.{with_events, all_cleared}
use Rattle.trace_command.specs.declared.command.Config.{Config}
use Rattle.trace_snapshot.specs.Sides.{SideFamilies, SidesSeen, StandsFor, HasShapeOf, IsSpareOf, IsSpareCleared, exchanged, spare_cleared, with_spare}
use Rattle.trace_instance.specs.Changes.{IsApplied}
use Rattle.trace_instance.specs.Instances.{HasShape, InstanceSeen, IsShaped, WasOffered, WereOffered}
use Rattle.trace_instance.specs.Deliveries.{IsDelivered, IsExchanged, IsOffered, IsWritten, counted_down, recorded_in, row_of}
use Rattle.trace_instance.specs.declared.change.Delivery.{Delivery}
use Rattle.trace_instance.specs.declared.change.InstanceChange.TheVariants.{Clear, ClearSpare, TakeSnapshot}
use Rattle.trace_instance.specs.declared.change.Reach.{Reach}
use Rattle.trace_instance.specs.KeptHists.{AreHit}
use Rattle.trace_instance.specs.declared.tables.Table.{Table}
use Rattle.trace_instance.proofs.KeptLists.{recursion_at}

-- ---- counts

all-set : (P : ℕ → Type 0) (xs : List ℕ) (k v : ℕ) → AllByRecursion P xs → P v → AllByRecursion P (set xs k v)
all-set P [] k v all own = tt
all-set P (x ∷ xs) zero v all own = (own, all.1)
all-set P (x ∷ xs) (suc k) v all own = (all.0, all-set P xs k v all.1 own)

pub all-none : (most cpus : ℕ) → AllByRecursion (λ n. n ≤ most) (replicate cpus 0)
all-none most zero = tt
all-none most (suc cpus) = (omega arith, all-none most cpus)

all-more : (most : ℕ) (xs : List ℕ) → AllByRecursion (λ n. n ≤ most) xs → AllByRecursion (λ n. n ≤ most + 1) xs
all-more most [] all = tt
all-more most (x ∷ xs) all = (omega (arith, all.0), all-more most xs all.1)

pub all-one_more : (most : ℕ) (xs : List ℕ) (k : ℕ) → k < length xs → AllByRecursion (λ n. n ≤ most) xs
    → AllByRecursion (λ n. n ≤ most + 1) (set xs k (get_or xs k 0 + 1))
all-one_more most xs k inside all =
    let here = recursion_at (λ n. n ≤ most) xs k 0 all inside in
    all-set (λ n. n ≤ most + 1) xs k (get_or xs k 0 + 1) (all-more most xs all) (omega (arith, here))

spare-more : (most : ℕ) (spare : Option buffers.Seen) → IfSome spare (WasOffered most) → IfSome spare (WasOffered (most + 1))
spare-more most None all = all
spare-more most (Some side) all = all-more most (buffers.offers side) all

pub offered_more : (most : ℕ) (s : SidesSeen) → WereOffered most s → WereOffered (most + 1) s
offered_more most s all = (all-more most (buffers.offers s.live) all.0, spare-more most s.spare all.1)

-- ---- the live side

-- the sides with another live side of the same shape have theirs
live-shaped : (g : Config) (s : SidesSeen) (new : buffers.Seen) → buffers.cpus new ≡ buffers.cpus s.live → new.pages ≡ s.live.pages
    → new.page_bytes ≡ s.live.page_bytes → IsShaped g s → IsShaped g (record s { live = new })
live-shaped g s new cpus pages page_bytes shaped = record {
  cpus = shaped.cpus;
  pages = shaped.pages;
  page_bytes = shaped.page_bytes;
  live = record { cpus = cpus ∙ shaped.live.cpus; pages = pages ∙ shaped.live.pages; page_bytes = page_bytes ∙ shaped.live.page_bytes };
  spare = shaped.spare;
}

-- ---- both sides

-- each side has it
abbrev OfEach : (buffers.Seen → Type 0) → SidesSeen → Type 0
OfEach P s = P s.live × IfSome s.spare P

reshaped : (g : Config) (old new : SidesSeen) → HasShapeOf old new → IsShaped g old → OfEach (HasShape g) new → IsShaped g new
reshaped g old new shape shaped each = record {
  cpus = shape.0 ∙ shaped.cpus;
  pages = shape.1 ∙ shaped.pages;
  page_bytes = shape.2 ∙ shaped.page_bytes;
  live = each.0;
  spare = each.1;
}

-- ---- a spare that is made

-- a new side has it
abbrev OfNew : (buffers.Seen → Type 0) → SidesSeen → Type 0
OfNew P s = (side : buffers.Seen) → IsSpareOf s None side → P side

new-shaped : (g : Config) (s : SidesSeen) → IsShaped g s → OfNew (HasShape g) s
new-shaped g s shaped = λ side is.
    record { cpus = is.cpus ∙ shaped.cpus; pages = is.pages ∙ shaped.pages; page_bytes = is.page_bytes ∙ shaped.page_bytes }

new-offered : (most : ℕ) (s : SidesSeen) → OfNew (WasOffered most) s
new-offered most s = λ side is. subst (AllByRecursion (λ n. n ≤ most)) (sym is.offers) (all-none most s.cpus)

-- so the spare has it that there was or that is made
spare-has : (P : buffers.Seen → Type 0) (s : SidesSeen) (spare : Option buffers.Seen) (side : buffers.Seen) → OfNew P s → IfSome spare P
    → IsSpareOf s spare side → P side
spare-has P s None side fresh kept is = fresh side is
spare-has P s (Some spare) side fresh kept is = subst P (sym is) kept

-- what holds of each side that there may be holds of the one that is there
if_some : (P : buffers.Seen → Type 0) (spare : Option buffers.Seen) → ((side : buffers.Seen) → spare ≡ Some side → P side) → IfSome spare P
if_some P None each = tt
if_some P (Some side) each = each side refl

armed : (P : buffers.Seen → Type 0) (old new : SidesSeen) → OfNew P old → new.live ≡ old.live
    → ((side : buffers.Seen) → new.spare ≡ Some side → IsSpareOf old old.spare side) → OfEach P old → OfEach P new
armed P old new fresh live spare all =
    (subst P (sym live) all.0, if_some P new.spare (λ side is. spare-has P old old.spare side fresh all.1 (spare side is)))

pub armed_shaped : (g : Config) (old new : SidesSeen) → new.live ≡ old.live
    → ((side : buffers.Seen) → new.spare ≡ Some side → IsSpareOf old old.spare side) → HasShapeOf old new → IsShaped g old → IsShaped g new
armed_shaped g old new live spare shape shaped =
    reshaped g old new shape shaped (armed (HasShape g) old new (new-shaped g old shaped) live spare (shaped.live, shaped.spare))

pub armed_offered : (most : ℕ) (old new : SidesSeen) → new.live ≡ old.live
    → ((side : buffers.Seen) → new.spare ≡ Some side → IsSpareOf old old.spare side) → WereOffered most old → WereOffered most new
armed_offered most old new live spare all = armed (WasOffered most) old new (new-offered most old) live spare all

-- ---- a snapshot

exchanged-has : (P : buffers.Seen → Type 0) (old new : SidesSeen) → OfNew P old → IsSpareOf old old.spare new.live → new.spare ≡ Some old.live
    → OfEach P old → OfEach P new
exchanged-has P old new fresh live spare all =
    (spare-has P old old.spare new.live fresh all.1 live, subst (λ (o : Option buffers.Seen). IfSome o P) (sym spare) all.0)

-- ---- a spare that is emptied

emptied-has : (P : buffers.Seen → Type 0) (old new : Option buffers.Seen)
    → ((one other : buffers.Seen) → IsSpareCleared (Some one) (Some other) → P one → P other) → IsSpareCleared old new → IfSome old P → IfSome new P
emptied-has P old None each is kept = tt
emptied-has P None (Some new) each is kept = absurd is
emptied-has P (Some old) (Some new) each is kept = each old new is kept

-- ---- the live side is lent

-- a record was put there
pub written : (d : Delivery) (reach : Reach) (value old : InstanceSeen) (lent new : buffers.Seen) (bytes : List ℕ) → old ≡ value → lent ≡ old.sides.live
    → bytes ≡ d.record.items → reach.records ≡ true → d.cpu < buffers.cpus value.sides.live
    → ((family : List (List Event)) → buffers.StandsFor lent family → buffers.StandsFor new (with_events d.cpu (Put bytes old.overwrite ∷ []) family))
    → buffers.cpus new ≡ buffers.cpus lent → new.pages ≡ lent.pages → new.page_bytes ≡ lent.page_bytes
    → buffers.offers new ≡ set (buffers.offers lent) d.cpu (get_or (buffers.offers lent) d.cpu 0 + 1)
    → IsWritten d reach value (record old { sides = record old.sides { live = new } })
written d reach value old lent new bytes view lends copied records room stands cpus pages page_bytes offers =
    subst (λ (v : InstanceSeen). IsWritten d reach v (record old { sides = record old.sides { live = new } })) view (record {
      rest = refl;
      sides = λ f s. rw records (record {
        live = subst (λ (bs : List ℕ). buffers.StandsFor new (with_events d.cpu (Put bs old.overwrite ∷ []) f.live)) copied
            (stands f.live (rw lends s.live));
        spare = s.spare;
      });
      spare = refl;
      shaped = λ g s. live-shaped g old.sides new (rw lends at cpus) (rw lends at pages) (rw lends at page_bytes) s;
      offered = λ most all. (
        subst (AllByRecursion (λ n. n ≤ most + 1)) (sym (rw lends at offers)) (all-one_more most (buffers.offers old.sides.live) d.cpu inside all.0),
        spare-more most old.sides.spare all.1,
      );
    })
  where
    here : d.cpu < buffers.cpus old.sides.live
    here = subst (λ (v : InstanceSeen). d.cpu < buffers.cpus v.sides.live) (sym view) room

    inside : d.cpu < length (buffers.offers old.sides.live)
    inside = omega (arith, here, length-map old.sides.live.rings ring.offered)

pub unwritten : (d : Delivery) (reach : Reach) (i : InstanceSeen) → reach.records ≡ false → IsWritten d reach i i
unwritten d reach i none = record {
  rest = refl;
  sides = λ f s. rw none s;
  spare = refl;
  shaped = λ g s. s;
  offered = λ most all. offered_more most i.sides all;
}

-- ---- changes of the sides alone

-- it was cleared
pub cleared : (value old : InstanceSeen) (lent new : buffers.Seen) → old ≡ value → lent ≡ old.sides.live
    → ((family : List (List Event)) → buffers.StandsFor lent family → buffers.StandsFor new (all_cleared family))
    → buffers.cpus new ≡ buffers.cpus lent → new.pages ≡ lent.pages → new.page_bytes ≡ lent.page_bytes
    → buffers.offers new ≡ replicate (buffers.cpus lent) 0 → IsApplied Clear value (record old { sides = record old.sides { live = new } })
cleared value old lent new view lends stands cpus pages page_bytes offers =
    subst (λ (v : InstanceSeen). IsApplied Clear v (record old { sides = record old.sides { live = new } })) view (record {
      enabled = refl;
      filters = refl;
      triggers = refl;
      hists = refl;
      tables = λ n used. refl;
      unused = λ n off. refl;
      overwrite = refl;
      tracing = refl;
      sides = λ f s. record { live = stands f.live (rw lends s.live); spare = s.spare };
      shaped = λ g s. live-shaped g old.sides new (rw lends at cpus) (rw lends at pages) (rw lends at page_bytes) s;
      offered = λ most all.
          (subst (AllByRecursion (λ n. n ≤ most)) (sym (rw lends at offers)) (all-none most (buffers.cpus old.sides.live)), all.1);
    })

pub taken : (value old : InstanceSeen) (new : SidesSeen) → old ≡ value → IsSpareOf old.sides old.sides.spare new.live
    → new.spare ≡ Some old.sides.live
    → ((f : SideFamilies) → StandsFor old.sides f → StandsFor new (exchanged (with_spare old.sides.cpus f))) → HasShapeOf old.sides new
    → IsApplied TakeSnapshot value (record old { sides = new })
taken value old new view live spare stands shape =
    subst (λ (v : InstanceSeen). IsApplied TakeSnapshot v (record old { sides = new })) view (record {
      enabled = refl;
      filters = refl;
      triggers = refl;
      hists = refl;
      tables = λ n used. refl;
      unused = λ n off. refl;
      overwrite = refl;
      tracing = refl;
      sides = stands;
      shaped = λ g s. reshaped g old.sides new shape s
          (exchanged-has (HasShape g) old.sides new (new-shaped g old.sides s) live spare (s.live, s.spare));
      offered = λ most all. exchanged-has (WasOffered most) old.sides new (new-offered most old.sides) live spare all;
    })

pub emptied : (value old : InstanceSeen) (new : SidesSeen) → old ≡ value → new.live ≡ old.sides.live → IsSpareCleared old.sides.spare new.spare
    → ((f : SideFamilies) → StandsFor old.sides f → StandsFor new (spare_cleared f)) → HasShapeOf old.sides new
    → IsApplied ClearSpare value (record old { sides = new })
emptied value old new view live spare stands shape =
    subst (λ (v : InstanceSeen). IsApplied ClearSpare v (record old { sides = new })) view (record {
      enabled = refl;
      filters = refl;
      triggers = refl;
      hists = refl;
      tables = λ n used. refl;
      unused = λ n off. refl;
      overwrite = refl;
      tracing = refl;
      sides = stands;
      shaped = λ g s. reshaped g old.sides new shape s (
        subst (HasShape g) (sym live) s.live,
        emptied-has (HasShape g) old.sides.spare new.spare
            (λ one other is kept. record { cpus = is.0 ∙ kept.cpus; pages = is.1 ∙ kept.pages; page_bytes = is.2 ∙ kept.page_bytes }) spare s.spare,
      );
      offered = λ most all. (
        subst (WasOffered most) (sym live) all.0,
        emptied-has (WasOffered most) old.sides.spare new.spare
            (λ one other is kept. subst (AllByRecursion (λ n. n ≤ most)) (sym is.3) (all-none most (buffers.cpus one))) spare all.1,
      );
    })

-- ---- an emission

-- the record was written, if it is written here, and then the row was offered to the hist triggers of the event
pub record IsTakenIn (d : Delivery) (reach : Reach) (old new : InstanceSeen) : Type 0 where
  pub rest : new ≡ record old { tables = new.tables; sides = new.sides }
  pub tables : AreHit (row_of d) (get_or old.hists d.event []) old.tables new.tables
  pub sides : (f : SideFamilies) → StandsFor old.sides f
      → StandsFor new.sides (record { live = recorded_in reach.records old.overwrite d.cpu d.record.items f.live; spare = f.spare })
  pub shaped : (g : Config) → IsShaped g old.sides → IsShaped g new.sides
  pub offered : (most : ℕ) → WereOffered most old.sides → WereOffered (most + 1) new.sides

pub taken_in : (d : Delivery) (reach : Reach) (old between new : InstanceSeen) → IsWritten d reach old between → IsOffered d between new
    → IsTakenIn d reach old new
taken_in d reach old between new a o = record {
  rest = o.rest ∙ ap (λ (i : InstanceSeen). record i { tables = new.tables }) a.rest
      ∙ ap (λ (s : SidesSeen). record old { tables = new.tables; sides = s }) (sym same);
  tables = subst (λ (i : InstanceSeen). AreHit (row_of d) (get_or i.hists d.event []) i.tables new.tables) a.rest o.tables;
  sides = λ f s. subst (λ (n : SidesSeen). StandsFor n (record { live = recorded_in reach.records old.overwrite d.cpu d.record.items f.live; spare = f.spare }))
      (sym same) (a.sides f s);
  shaped = λ g s. subst (IsShaped g) (sym same) (a.shaped g s);
  offered = λ most all. subst (WereOffered (most + 1)) (sym same) (a.offered most all);
}
  where
    same : new.sides ≡ between.sides
    same = ap (λ (i : InstanceSeen). i.sides) o.rest

-- and the sides stay where the trigger does not act
pub delivered_still : (d : Delivery) (reach : Reach) (old new : InstanceSeen) → IsTakenIn d reach old new → reach.snapshot_fires ≡ false
    → IsDelivered d reach old new
delivered_still d reach old new a off = record {
  enabled = ap (λ (i : InstanceSeen). i.enabled) a.rest;
  filters = ap (λ (i : InstanceSeen). i.filters) a.rest;
  triggers = rw off (ap (λ (i : InstanceSeen). i.triggers) a.rest);
  hists = ap (λ (i : InstanceSeen). i.hists) a.rest;
  tables = a.tables;
  overwrite = ap (λ (i : InstanceSeen). i.overwrite) a.rest;
  tracing = ap (λ (i : InstanceSeen). i.tracing) a.rest;
  sides = λ f s. rw off (a.sides f s);
  shaped = a.shaped;
  offered = a.offered;
}

-- and are exchanged where it does
pub delivered_exchanged : (d : Delivery) (reach : Reach) (old between new : InstanceSeen) → IsTakenIn d reach old between → reach.snapshot_fires ≡ true
    → IsExchanged d.event between new → IsDelivered d reach old new
delivered_exchanged d reach old between new a on x = record {
  enabled = ap (λ (i : InstanceSeen). i.enabled) x.rest ∙ ap (λ (i : InstanceSeen). i.enabled) a.rest;
  filters = ap (λ (i : InstanceSeen). i.filters) x.rest ∙ ap (λ (i : InstanceSeen). i.filters) a.rest;
  triggers = rw on (ap (λ (i : InstanceSeen). i.triggers) x.rest
      ∙ ap (λ (i : InstanceSeen). set i.triggers d.event (counted_down (get_or i.triggers d.event None))) a.rest);
  hists = ap (λ (i : InstanceSeen). i.hists) x.rest ∙ ap (λ (i : InstanceSeen). i.hists) a.rest;
  tables = subst (λ (t : List Table). AreHit (row_of d) (get_or old.hists d.event []) old.tables t) (sym (ap (λ (i : InstanceSeen). i.tables) x.rest)) a.tables;
  overwrite = ap (λ (i : InstanceSeen). i.overwrite) x.rest ∙ ap (λ (i : InstanceSeen). i.overwrite) a.rest;
  tracing = ap (λ (i : InstanceSeen). i.tracing) x.rest ∙ ap (λ (i : InstanceSeen). i.tracing) a.rest;
  sides = λ f s. rw on (x.sides (record { live = recorded_in reach.records old.overwrite d.cpu d.record.items f.live; spare = f.spare }) (a.sides f s));
  shaped = λ g s. x.shaped g (a.shaped g s);
  offered = λ most all. x.offered (most + 1) (a.offered most all);
}
