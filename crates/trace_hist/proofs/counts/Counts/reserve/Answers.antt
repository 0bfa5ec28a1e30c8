use Rattle.std.proofs.Common.{◌≡◌, ◌≢◌, false, sym, ap, ◌∙◌, subst, rules}
use Rattle.hist_entries.specs.HistEntries.{is_among}
use Rattle.hist_entries.specs.RowPlaces.{In, entry_keys}
use Rattle.hist_entries.specs.KeptEntries.{entries_in, key_of}
use Rattle.trace_hist.specs.Stored.{Kept}
use Rattle.trace_hist.proofs.Counting.{unreserved-new}
use Rattle.hist_entries.proofs.Reserving.{among-take}
use Rattle.trace_hist.proofs.counts.Counts.reserve.Goals as goal

pub returns-in_err-self-inside-clause-new : goal.returns-in_err-self-inside-clause-new
returns-in_err-self-inside-clause-new c =
    let entries = entries_in c.self.inside.kept.entries.entries in
    let key = key_of c.args.by.now.keys c.args.emission.now in
    let new : is_among (entry_keys entries) key ≡ false = search rules in
    let none : is_among (entry_keys c.args.self.now.table.entries) key ≡ false =
    ap (λ (k : Kept). is_among (entry_keys k.table.entries) key) (sym c.self.view_is) ∙ among-take c.self.inside.kept.shown entries key new in
    search rules

pub returns-in_err-self-inside-clause-unreserved : goal.returns-in_err-self-inside-clause-unreserved
returns-in_err-self-inside-clause-unreserved c =
    let entries = entries_in c.self.inside.kept.entries.entries in
    let key = key_of c.args.by.now.keys c.args.emission.now in
    let new : is_among (entry_keys entries) key ≡ false = search rules in
    let none : c.args.self.now.next ≢ In key = subst (λ (k : Kept). k.next ≢ In key) c.self.view_is (unreserved-new entries c.self.inside.next key new) in
    search rules

pub invariant_of-self : goal.invariant_of-self
invariant_of-self c = rw c.reserve.ensures.rest (record {
  shown = c.reserve.ensures.stays.shown;
  size = c.reserve.ensures.stays.size;
  end = c.reserve.ensures.stays.end;
  rows = c.reserve.ensures.stays.counted c.self.inside.hits c.self.invariant.rows;
})

pub invariant_of-self-2 : goal.invariant_of-self-2
invariant_of-self-2 c = rw c.reserve.ensures.rest (record {
  shown = c.reserve.ensures.stays.shown;
  size = c.reserve.ensures.stays.size;
  end = c.reserve.ensures.stays.end;
  rows = c.reserve.ensures.stays.counted c.self.inside.hits c.self.invariant.rows;
})
