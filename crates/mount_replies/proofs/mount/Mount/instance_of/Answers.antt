use Rattle.mount_replies.proofs.PipeLemmas.{mapped}
use Rattle.mount_replies.proofs.mount.Mount.instance_of.Goals as goal

pub returns-in-Top-clause-there : goal.returns-in-Top-clause-there
returns-in-Top-clause-there c = rw (← c.self.view_is, c.in-Top.is) (λ past lives there. c.instance.ensures.there past lives)

pub returns-in-Top-clause-cpus : goal.returns-in-Top-clause-cpus
returns-in-Top-clause-cpus c =
    rw (← c.self.view_is)
    (mapped _ _ c.instance.result (λ i stands. stands.shaped.live.cpus) (c.instance.ensures.stands c.was_led.ensures.past c.was_led.ensures.lives))

pub returns-in_ok-name-in-Made-clause-cpus : goal.returns-in_ok-name-in-Made-clause-cpus
returns-in_ok-name-in-Made-clause-cpus c =
    rw (← c.self.view_is)
    (mapped _ _ c.instance-in-Made.result (λ i stands. stands.shaped.live.cpus)
    (c.instance-in-Made.ensures.stands c.was_led.ensures.past c.was_led.ensures.lives))

pub returns-in-Top-clause-stands : goal.returns-in-Top-clause-stands
returns-in-Top-clause-stands c = rw (← c.self.view_is, c.in-Top.is) (λ past lives. c.instance.ensures.stands past lives)

pub returns-in_ok-name-in-Made-clause-there : goal.returns-in_ok-name-in-Made-clause-there
returns-in_ok-name-in-Made-clause-there c =
    rw (← c.self.view_is, c.in-Made.is, ← c.in_ok-name-in-Made.ensures) (λ past lives there. c.instance-in-Made.ensures.there past lives)

pub returns-in_ok-name-in-Made-clause-stands : goal.returns-in_ok-name-in-Made-clause-stands
returns-in_ok-name-in-Made-clause-stands c =
    rw (← c.self.view_is, c.in-Made.is, ← c.in_ok-name-in-Made.ensures) (λ past lives. c.instance-in-Made.ensures.stands past lives)
