use Rattle.trace_script.proofs.FaultOrder.{fault_found, fault_read}
use Rattle.trace_script.proofs.line.faults_come_in_order.Goals as goal

pub returns-clause-found : goal.returns-clause-found
returns-clause-found c = fault_found

pub returns-clause-told : goal.returns-clause-told
returns-clause-told c = fault_read
