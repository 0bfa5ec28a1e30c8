use Rattle.std.proofs.Common.{rules, arith}
use Rattle.ticket_lock.proofs.SeatFields.{idle_stage}
use Rattle.ticket_lock.proofs.Steps.{splits}
use Rattle.ticket_lock.proofs.lock.TicketLock.split.Goals as goal

pub split_seat-upper-requires : goal.split_seat-upper-requires
split_seat-upper-requires g c = (search rules, search rules, splits _ _ _ _ _ _ _ (idle_stage _ c.args.pass.idle) (omega arith))
