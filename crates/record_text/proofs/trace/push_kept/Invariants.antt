use Rattle.std.proofs.Common.{◌≡◌, ◌++◌}
use Rattle.std.specs.List.{flat_map}
use Rattle.page_ring.specs.Account.{Reading}
use Rattle.record_text.specs.RecordText.{record_line}
use Rattle.record_text.proofs.trace.push_kept.Given as goal

-- what was written and what is left to write are all
abbrev pub invariant-loop-kept : goal.invariant-loop-kept
invariant-loop-kept l =
    l.out.items ++ flat_map (λ (r : Reading). record_line l.catalog l.cpu r.rec) l.kept-iterator
    ≡ l.initial.out.items ++ flat_map (λ (r : Reading). record_line l.catalog l.cpu r.rec) l.fn.records
