use Rattle.std.proofs.Common.{ℕ, ◌<◌, List, length, get_or, Result, Ok, Err, OnErr, subst}
use Rattle.std.proofs.lemmas.List.{get_or_default}
use Rattle.trace_instance.specs.MemoryTaken.{TakesMemory}
use Rattle.trace_instance.specs.declared.change.InstanceChange.{InstanceChange}
use Rattle.tracer_state.specs.declared.state.Named.{Named}
use Rattle.tracer_state.proofs.state.change_one.Goals as goal

pub apply-requires : goal.apply-requires
apply-requires c = c.requires.lawful c.index-instances-index.result

-- the instance that was to be changed is the one at the index, whatever is read beyond the last one
whichever : {A E : Type 0} (result : Result A E) (instances : List Named) (index : ℕ) (one : Named) (change : InstanceChange) → index < length instances
    → OnErr result (TakesMemory (get_or instances index one).instance change)
    → OnErr result ((d : Named) → TakesMemory (get_or instances index d).instance change)
whichever (Ok done) instances index one change inside takes = tt
whichever (Err error) instances index one change inside takes = λ d.
    subst (λ (n : Named). TakesMemory n.instance change) (get_or_default instances index one d inside) takes

pub returns-clause-takes_memory : goal.returns-clause-takes_memory
returns-clause-takes_memory c =
    whichever c.apply.result c.args.instances.now c.args.index c.index-instances-index.result c.args.change c.requires.index c.apply.ensures.memory
