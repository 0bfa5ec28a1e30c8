use Rattle.std.proofs.Common.{ap, arith}
use Rattle.std.proofs.lemmas.List.{length-reverse}
use Rattle.std.specs.List.{sum}
use Rattle.trace_filter.specs.Grammar.{open_count}
use Rattle.trace_filter.specs.Syntax.{Standing}
use Rattle.trace_filter.proofs.Sums.{sum-reverse}
use Rattle.trace_filter.proofs.syntax.Reader.depth.Goals as goal

pub total-requires : goal.total-requires
total-requires c = omega (arith, ap (λ (s : Standing). open_count s.opened) c.self.view_is, sum-reverse c.self.inside.outer.items, ap sum c.deref.ensures.0, c.requires)

pub overflow_add-result-2 : goal.overflow_add-result-2
overflow_add-result-2 c = omega (arith, ap (λ (s : Standing). open_count s.opened) c.self.view_is, sum-reverse c.self.inside.outer.items, length-reverse c.self.inside.outer.items, ap sum c.deref.ensures.0, c.total.ensures, c.requires)

pub returns : goal.returns
returns c = omega (arith, ap (λ (s : Standing). open_count s.opened) c.self.view_is, sum-reverse c.self.inside.outer.items, length-reverse c.self.inside.outer.items, ap sum c.deref.ensures.0, c.total.ensures)
