-- What contracts see of the fields of a tracer that keeps no history, and what is true of them.
use Rattle.tracer.specs.LiveSeen.{LiveSeen}
use Rattle.tracer.specs.Lives.{WasLedTo}
use Rattle.tracer.specs.declared.tracer.Tracer.TheInside.{Inside}

abbrev pub seen : Inside → LiveSeen
seen live = record { config = live.config; state = live.state; delivery = live.delivery; done = live.done }

-- some requests led to it
abbrev pub IsLed : Inside → Type 0
IsLed live = WasLedTo (seen live)
