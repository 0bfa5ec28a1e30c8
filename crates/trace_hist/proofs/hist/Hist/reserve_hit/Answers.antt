use Rattle.std.proofs.Common.{◌≡◌, ◌≢◌, false, ℤ, to_z, of_z, sym, ap, ◌∙◌, subst, OnOk, OnErr, rules}
use Rattle.std.specs.Int.{w32}
use Rattle.trace_format.specs.Operands.{Emission}
use Rattle.hist_entries.specs.HistEntries.{is_among}
use Rattle.hist_entries.specs.RowPlaces.{In, IsPlaceOf, entry_keys}
use Rattle.trace_hist.specs.TriggerHits.{hit_of}
use Rattle.trace_hist.specs.Hists.{Seen, IsReservedFor, NeedsEntryAs}
use Rattle.trace_hist.specs.Stored.{seen_of}
use Rattle.trace_hist.proofs.Histograms.{idle-reserved, told-reserved, told-unchanged, told-needed}
use Rattle.trace_hist.proofs.hist.Hist.reserve_hit.Goals as goal

pub returns-then-self-clause-reserved : goal.returns-then-self-clause-reserved
returns-then-self-clause-reserved c = idle-reserved c.args.self.now c.args.self.now.spec _ (sym (ap (λ (s : Seen). s.paused) c.self.view_is) ∙ c.if-self.true)

pub returns-clause-reserved : goal.returns-clause-reserved
returns-clause-reserved c =
    let h = c.self.inside in
    let emission : Emission = record { values = c.args.row.now.values; cpu = c.args.cpu; pid = c.args.pid } in
    let pid : to_z w32 (of_z w32 c.args.pid) ≡ c.args.pid = search rules in
    let place : OnOk c.reserve.result (IsPlaceOf c.reserve.new.self.next h.counts.size h.counts.table.entries (hit_of h.spec emission).key) =
    subst (λ (n : ℤ). OnOk c.reserve.result (IsPlaceOf c.reserve.new.self.next h.counts.size h.counts.table.entries (hit_of h.spec (record { values = c.args.row.now.values; cpu = c.args.cpu; pid = n })).key)) pid
    (rw c.deref.ensures at c.reserve.ensures.place) in
    subst (λ (s : Seen). OnOk c.reserve.result (IsReservedFor s.spec emission c.args.self.now (seen_of h.spec h.paused c.reserve.new.self))) c.self.view_is
    (told-reserved h.spec h.paused h.counts c.self.invariant c.args.self.now c.self.view_is c.reserve.new.self h.spec emission c.reserve.result c.reserve.ensures.table place)

pub returns-clause-err : goal.returns-clause-err
returns-clause-err c =
    let h = c.self.inside in
    let emission : Emission = record { values = c.args.row.now.values; cpu = c.args.cpu; pid = c.args.pid } in
    told-unchanged h.spec h.paused h.counts c.self.invariant c.args.self.now c.self.view_is c.reserve.new.self h.spec emission c.reserve.result c.reserve.ensures.table c.reserve.ensures.err

pub returns-clause-memory : goal.returns-clause-memory
returns-clause-memory c =
    let h = c.self.inside in
    let emission : Emission = record { values = c.args.row.now.values; cpu = c.args.cpu; pid = c.args.pid } in
    let pid : to_z w32 (of_z w32 c.args.pid) ≡ c.args.pid = search rules in
    let new : OnErr c.reserve.result (is_among (entry_keys h.counts.table.entries) (hit_of h.spec emission).key ≡ false) =
    subst (λ (n : ℤ). OnErr c.reserve.result (is_among (entry_keys h.counts.table.entries) (hit_of h.spec (record { values = c.args.row.now.values; cpu = c.args.cpu; pid = n })).key ≡ false)) pid (rw c.deref.ensures at c.reserve.ensures.new) in
    let unreserved : OnErr c.reserve.result (h.counts.next ≢ In (hit_of h.spec emission).key) =
    subst (λ (n : ℤ). OnErr c.reserve.result (h.counts.next ≢ In (hit_of h.spec (record { values = c.args.row.now.values; cpu = c.args.cpu; pid = n })).key)) pid (rw c.deref.ensures at c.reserve.ensures.unreserved) in
    subst (λ (s : Seen). OnErr c.reserve.result (NeedsEntryAs c.args.self.now s.spec emission)) c.self.view_is
    (told-needed h.spec h.paused h.counts c.self.invariant c.args.self.now c.self.view_is c.reserve.new.self h.spec emission c.reserve.result c.reserve.ensures.table c.if-self.false c.reserve.ensures.room new unreserved)
