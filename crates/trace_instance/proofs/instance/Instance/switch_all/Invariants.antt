use Rattle.std.proofs.Common.{◌≡◌, length, take, replicate}
use Rattle.trace_instance.proofs.instance.Instance.switch_all.Given as goal

abbrev pub invariant-loop-event : goal.invariant-loop-event
invariant-loop-event l = record {
  rest : l.self ≡ record l.fn.self { enabled = l.self.enabled };
  done : take l.event l.self.enabled ≡ replicate l.event l.flag;
  end : l.event-end ≡ length l.self.enabled;
  all : length l.self.enabled ≡ length l.fn.self.enabled;
}
