use Rattle.std.proofs.Common.{◌≡◌, ◌+◌, ◌-◌, ◌^◌, ◌≤◌, List, length}
use Rattle.fuse_serve.proofs.Delivering.{IsBegun}
use Rattle.fuse_serve.specs.Calls.{Call}
use Rattle.fuse_serve.proofs.deliver.deliver.Given as goal

abbrev pub invariant-loop-rest : goal.invariant-loop-rest
invariant-loop-rest g l =
    let device = g.D.Device in
    (writes : List Call)
    × record {
      begun : IsBegun l.reply l.rest writes (device.calls l.fn.device) (device.calls l.device) (device.contents l.fn.device) (device.contents l.device);
      tries : 2 ^ 64 - 1 ≤ length writes + l.tries;
      remaining : device.remaining l.device ≡ device.remaining l.fn.device;
    }

abbrev pub decreases-loop-rest : goal.decreases-loop-rest
decreases-loop-rest g l = length l.rest + l.tries
