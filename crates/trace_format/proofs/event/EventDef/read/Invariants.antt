use Rattle.std.proofs.Common.{◌≡◌, ◌-◌, ◌≤◌, length, drop}
use Rattle.trace_format.specs.Words.{spots_from}
use Rattle.trace_format.specs.Reading.{reading, definition_of, cause_from, cause_in}
use Rattle.trace_format.proofs.event.EventDef.read.Given as goal

-- what is left of the text gives the definition
abbrev pub invariant-loop-word : goal.invariant-loop-word
invariant-loop-word l = (l.from ≤ length l.text) × (reading l.reader (spots_from 0 l.from (drop l.from l.text)) (length l.text) ≡ definition_of l.text)
    × (cause_from l.reader (spots_from 0 l.from (drop l.from l.text)) ≡ cause_in l.text)

abbrev pub decreases-loop-word : goal.decreases-loop-word
decreases-loop-word l = length l.text - l.from
