use Rattle.std.proofs.Common.{◌+◌, ◌≤◌, List, length, vec_capacity}
use Rattle.fuse_serve.specs.Calls.{Call, reads_in}
use Rattle.fuse_serve.specs.Endings.{ReadsOn, WritesOn}
use Rattle.fuse_serve.specs.Exchanges.{Exchange, HasServed, device_seen}
use Rattle.fuse_serve.proofs.service.serve.Given as goal

abbrev pub invariant-loop : goal.invariant-loop
invariant-loop g l =
    let server = g.S.Server in
    let device = g.D.Device in
    (calls : List Call) × (exchanges : List Exchange)
    × record {
      served : HasServed server.answers server.ends server.owes l.fn.server l.server
          (device_seen (device.calls l.fn.device) (device.remaining l.fn.device) (device.contents l.fn.device))
          (device_seen (device.calls l.device) (device.remaining l.device) (device.contents l.device)) calls exchanges l.inbox;
      reads : ReadsOn calls;
      writes : WritesOn exchanges;
      turns : l.counter ≤ length (reads_in calls) + length exchanges;
      room : 135168 ≤ vec_capacity l.reply;
    }
