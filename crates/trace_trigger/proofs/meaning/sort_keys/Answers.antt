use Rattle.std.proofs.Common.{sym}
use Rattle.trace_trigger.proofs.SortKeyLemmas.{sort_keys_some, sort_keys_none}
use Rattle.trace_trigger.proofs.meaning.sort_keys.Goals as goal

pub returns-then-is_empty : goal.returns-then-is_empty
returns-then-is_empty c = sort_keys_none c.args.items.now (sym c.if-is_empty.ensures) c.hitcount_alone.result c.hitcount_alone.ensures

pub returns-else-is_empty : goal.returns-else-is_empty
returns-else-is_empty c = sort_keys_some c.args.items.now (sym c.if-is_empty.ensures) c.written_sort_keys.result c.written_sort_keys.ensures
