use Rattle.std.proofs.Common.{◌≡◌, rules}
use Rattle.std.specs.Bool.{Decides}
use Rattle.std.specs.Cmp.Lexicographic.{bytes_decides}
use Rattle.std.proofs.lemmas.Slice.Eq.{slice_eq-Decides}
use Rattle.trace_trigger.specs.declared.spec.SortKey.{SortKey}
use Rattle.trace_trigger.specs.contracts.spec.SortKeyPartialEq.TheImpl.{eq-value as sort_key_eq}
use Rattle.trace_trigger.proofs.spec.is_same_sort.Goals as goal

sort_key_decided : (a b : SortKey) → Decides (sort_key_eq.it a b) (a ≡ b)
sort_key_decided a b = search (rules, bytes_decides)

pub returns-clause-same : goal.returns-clause-same
returns-clause-same c = slice_eq-Decides sort_key_decided _ _ _ c.eq.ensures
