use Rattle.std.proofs.Common.{rules}
use Rattle.trace_instance.proofs.NewInstance.{made-stands}
use Rattle.tracer_state.proofs.make.new_instance.Goals as goal

pub returns-clause-stands : goal.returns-clause-stands
returns-clause-stands c = λ past many.
    made-stands c.args.config.now past c.args.name.now c.in_ok-new.field-0 (rw (← many) (search rules))
