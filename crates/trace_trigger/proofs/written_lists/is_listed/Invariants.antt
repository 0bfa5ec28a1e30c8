use Rattle.std.proofs.Common.{◌≡◌, drop}
use Rattle.std.specs.List.{list_any}
use Rattle.std.specs.Prelude.{bytes_eq}
use Rattle.trace_trigger.specs.declared.piece.ListItem.{ListItem}
use Rattle.trace_trigger.proofs.written_lists.is_listed.Given as goal

abbrev pub invariant-loop-item : goal.invariant-loop-item
invariant-loop-item l = list_any (λ (item : ListItem). bytes_eq l.name item.bytes) l.items ≡ list_any (λ (item : ListItem). bytes_eq l.name item.bytes) (drop l.item-index l.items)
