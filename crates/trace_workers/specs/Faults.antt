-- What is shown of a fault.
use Rattle.std.specs.Prelude.{ℕ, List, codes}
use Rattle.trace_workers.specs.declared.fault.BlockFault.{BlockFault}
use Rattle.trace_workers.specs.declared.fault.BlockFault.TheVariants.{Memory, Stopped, NoThread}

unfoldable pub shown_fault : BlockFault → List ℕ
shown_fault Memory = codes "out of memory"
shown_fault Stopped = codes "the gate stopped a worker"
shown_fault NoThread = codes "a thread could not be started"
