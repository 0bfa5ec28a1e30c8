use Rattle.trace_instance.proofs.instance.Instance.reach.Goals as goal

pub returns : goal.returns
returns c = λ k. record { records = c.records.ensures k; snapshot_fires = c.snapshot_fires.ensures k }
