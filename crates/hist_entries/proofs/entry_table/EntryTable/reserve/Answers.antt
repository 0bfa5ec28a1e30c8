use Rattle.std.proofs.Common.{take, slice_get, sym, ap, ◌∙◌, subst, refl, arith}
use Rattle.hist_entries.specs.RowPlaces.{IsPlaceOf}
use Rattle.hist_entries.specs.KeptEntries.{entries_in, place_at, empty_entry, key_of}
use Rattle.hist_entries.proofs.Reserving.{place-known, among-take, length-shown, get-put, kept-place, on_err, stays, stays-kept, stays-put}
use Rattle.hist_entries.proofs.entry_table.EntryTable.reserve.Goals as goal

-- ---- the key has an entry

pub returns-then-index-self-clause-stays : goal.returns-then-index-self-clause-stays
returns-then-index-self-clause-stays c =
    stays-kept c.args.self.now.shown c.args.self.now.entries.entries _ c.requires.shown c.keep_first.ensures c.args.self.now.size c.args.self.now.width c.requires.size

pub returns-then-index-self-clause-place : goal.returns-then-index-self-clause-place
returns-then-index-self-clause-place c =
    kept-place c.args.self.now.shown c.args.self.now.entries.entries _ c.requires.shown c.keep_first.ensures c.in-Some.index c.args.self.now.size
    (take c.args.self.now.shown (entries_in c.args.self.now.entries.entries)) _ c.if-index-self.true c.in-Some.ensures

pub returns-else-index-self-clause-stays : goal.returns-else-index-self-clause-stays
returns-else-index-self-clause-stays c =
    stays c.args.self.now.shown c.args.self.now.size c.args.self.now.width c.args.self.now.entries.entries c.requires.shown c.requires.size c.requires.end _ refl

pub returns-else-index-self-clause-place : goal.returns-else-index-self-clause-place
returns-else-index-self-clause-place c =
    place-known (entries_in c.args.self.now.entries.entries) c.in-Some.index _ c.args.self.now.size (take c.args.self.now.shown (entries_in c.args.self.now.entries.entries)) c.in-Some.ensures

-- ---- it has none

pub returns-then-self-clause-stays : goal.returns-then-self-clause-stays
returns-then-self-clause-stays c =
    stays c.args.self.now.shown c.args.self.now.size c.args.self.now.width c.args.self.now.entries.entries c.requires.shown c.requires.size c.requires.end _ refl

pub returns-then-self-clause-place : goal.returns-then-self-clause-place
returns-then-self-clause-place c =
    let count = length-shown c.args.self.now.entries.entries c.args.self.now.shown c.requires.shown in
    (among-take c.args.self.now.shown (entries_in c.args.self.now.entries.entries) _ c.in_default.ensures, omega (arith, c.if-self.true, count.0))

pub returns-in_err-make_room-clause-stays : goal.returns-in_err-make_room-clause-stays
returns-in_err-make_room-clause-stays c =
    stays c.args.self.now.shown c.args.self.now.size c.args.self.now.width c.args.self.now.entries.entries c.requires.shown c.requires.size c.requires.end _ refl

pub returns-in_err-make_room-clause-room : goal.returns-in_err-make_room-clause-room
returns-in_err-make_room-clause-room c = on_err _ c.if-self.false

pub returns-in_err-make_room-clause-new : goal.returns-in_err-make_room-clause-new
returns-in_err-make_room-clause-new c = on_err _ c.in_default.ensures

pub returns-in_err-reserve_entry-clause-stays : goal.returns-in_err-reserve_entry-clause-stays
returns-in_err-reserve_entry-clause-stays c =
    stays c.args.self.now.shown c.args.self.now.size c.args.self.now.width c.args.self.now.entries.entries c.requires.shown c.requires.size c.requires.end _ c.in_err-reserve_entry.ensures.err

pub returns-in_err-reserve_entry-clause-room : goal.returns-in_err-reserve_entry-clause-room
returns-in_err-reserve_entry-clause-room c = on_err _ c.if-self.false

pub returns-in_err-reserve_entry-clause-new : goal.returns-in_err-reserve_entry-clause-new
returns-in_err-reserve_entry-clause-new c = on_err _ c.in_default.ensures

pub returns-clause-stays : goal.returns-clause-stays
returns-clause-stays c =
    stays-put c.args.self.now.shown c.args.self.now.size c.args.self.now.width c.args.self.now.entries.entries c.requires.shown c.if-self.false _ _ c.in_ok-reserve_entry.ensures.ok

pub returns-clause-place : goal.returns-clause-place
returns-clause-place c =
    let entries = entries_in c.args.self.now.entries.entries in
    let key = key_of c.args.keys.now c.args.emission.now in
    let count = length-shown c.args.self.now.entries.entries c.args.self.now.shown c.requires.shown in
    subst (λ o. IsPlaceOf (place_at o) c.args.self.now.size (take c.args.self.now.shown entries) key)
    (sym (ap (λ es. slice_get es c.args.self.now.shown) c.in_ok-reserve_entry.ensures.ok ∙ get-put c.args.self.now.shown entries (empty_entry c.args.self.now.width key) count.1)) refl
