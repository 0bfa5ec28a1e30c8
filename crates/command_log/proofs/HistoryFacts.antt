-- What a history shows after a step of it.
use Rattle.std.proofs.Common.{◌≡◌, ℕ, ◌+◌, ◌<◌, [], ◌++◌, length, refl, arith, length-append}
use Rattle.command_log.specs.PackedEntries.{entries_in}
use Rattle.command_log.specs.ChunkSeen.{ChunkSeen, entries_of}
use Rattle.command_log.specs.HistoryBytes.{seen_history, IsHistory}
use Rattle.command_log.specs.declared.history.History.TheInside.{Inside}
use Rattle.command_log.proofs.PackedLemmas.{length-entries_in}

-- what is written ahead is appended
pub appended_history : (h : Inside) (last : ChunkSeen) (count : ℕ) → IsHistory h → last ≡ record h.last { entries = h.last.entries ++ entries_in h.ahead h.last.ahead; ahead = [] } → count ≡ h.count + h.ahead → IsHistory (record h { last = last; count = count; ahead = 0 })
appended_history h last count is e more = rw e (record {
  count = omega (arith, is.count, more, length-append (entries_of h.full.items) (h.last.entries ++ entries_in h.ahead h.last.ahead), length-append h.last.entries (entries_in h.ahead h.last.ahead), length-append (entries_of h.full.items) h.last.entries, length-entries_in h.ahead h.last.ahead);
  ahead = refl;
})

-- the last chunk has no more entries than the history
pub few_in_last : (h : Inside) (most : ℕ) → length (seen_history h).entries + length (seen_history h).ahead < most → length h.last.entries + h.ahead < most
few_in_last h most few =
    omega (arith, few, length-append (entries_of h.full.items) h.last.entries, length-entries_in h.ahead h.last.ahead)

pub few_in_all : (h : Inside) (most : ℕ) → IsHistory h → length (seen_history h).entries + length (seen_history h).ahead < most → h.count + h.ahead < most
few_in_all h most is few = omega (arith, few, is.count, length-entries_in h.ahead h.last.ahead)
