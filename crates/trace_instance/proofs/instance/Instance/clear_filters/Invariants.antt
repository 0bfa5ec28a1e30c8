use Rattle.std.proofs.Common.{◌≡◌, None, length, take, replicate}
use Rattle.trace_instance.proofs.instance.Instance.clear_filters.Given as goal

abbrev pub invariant-loop-event : goal.invariant-loop-event
invariant-loop-event l = record {
  rest : l.self ≡ record l.fn.self { filters = l.self.filters };
  done : take l.event l.self.filters ≡ replicate l.event None;
  end : l.event-end ≡ length l.self.filters;
  all : length l.self.filters ≡ length l.fn.self.filters;
}
