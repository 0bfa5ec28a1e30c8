use Rattle.tracer_state.proofs.state.State.prepare.Goals as goal

pub returns-in-Rmdir-clause-prepared : goal.returns-in-Rmdir-clause-prepared
returns-in-Rmdir-clause-prepared c = λ past number stands.
    let prepared = c.prepare_remove.ensures.prepared c.args.config.now past stands in
    rw (c.in-Rmdir.is, ← c.as_bytes-in-Rmdir.ensures) prepared

pub returns-in-Mkdir-clause-memory : goal.returns-in-Mkdir-clause-memory
returns-in-Mkdir-clause-memory c = λ past stands late. absurd (rw c.in-Mkdir.is at late)

pub returns-in-Write-clause-memory : goal.returns-in-Write-clause-memory
returns-in-Write-clause-memory c = λ past stands late.
    c.prepare_write.ensures.memory past stands (rw (c.in-Write.is, ← c.as_bytes-text.ensures, ← c.as_bytes-in-Write.ensures, ← c.address_of.ensures) at late)

pub returns-in-Read-clause-memory : goal.returns-in-Read-clause-memory
returns-in-Read-clause-memory c = λ past stands late. absurd (rw c.in-Read.is at late)

pub returns-in-Mkdir-clause-takes_none : goal.returns-in-Mkdir-clause-takes_none
returns-in-Mkdir-clause-takes_none c = λ past stands none. absurd (rw c.in-Mkdir.is at none)

pub returns-in-Rmdir-clause-takes_none : goal.returns-in-Rmdir-clause-takes_none
returns-in-Rmdir-clause-takes_none c = λ past stands none. c.prepare_remove.ensures.takes_none

pub returns-in-Write-clause-takes_none : goal.returns-in-Write-clause-takes_none
returns-in-Write-clause-takes_none c = λ past stands none.
    c.prepare_write.ensures.takes_none past stands (rw (c.in-Write.is, ← c.as_bytes-text.ensures, ← c.as_bytes-in-Write.ensures, ← c.address_of.ensures) at none)

pub returns-in-Read-clause-takes_none : goal.returns-in-Read-clause-takes_none
returns-in-Read-clause-takes_none c = λ past stands none. absurd (rw c.in-Read.is at none)
