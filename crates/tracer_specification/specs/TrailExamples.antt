-- Two callers who ask side by side, with all that they may be answered, worked by hand.
use Rattle.std.specs.Prelude.{◌≡◌, ◌≢◌, ◌⊎◌, ℕ, List, [], ◌∷◌, Result, Err, codes}
use Rattle.trace_command.specs.declared.command.CommandOf.TheVariants.{Mkdir}
use Rattle.trace_command.specs.declared.command.Entry.{Entry}
use Rattle.trace_command.specs.declared.command.Reply.{Reply}
use Rattle.trace_command.specs.declared.refusal.Refusal.{Refusal}
use Rattle.trace_command.specs.declared.refusal.Refusal.TheVariants.{InstanceExists, Worn}
use Rattle.tracer_specification.specs.Blocks.{Trail, IsBlock}
use Rattle.tracer_specification.specs.Examples.{small, done}

-- a caller of this number makes the instance `a`, and is answered so
abbrev pub maker : ℕ → Result Reply Refusal → Trail
maker by reply = record { by = by; commands = Mkdir (codes "instances/a") ∷ []; replies = reply ∷ [] }

-- two callers make it, with nothing done before, and some history has these answers to both
abbrev pub IsLawful : Result Reply Refusal → Result Reply Refusal → Type 0
IsLawful one other = (after : List Entry) × IsBlock (small 1) [] after (maker 1 one ∷ maker 2 other ∷ [])

-- it is made for the first of them, and is there already for the second; or the other way around
abbrev pub FirstMakes : Type 0
FirstMakes = IsLawful done (Err InstanceExists)

abbrev pub SecondMakes : Type 0
SecondMakes = IsLawful (Err InstanceExists) done

abbrev pub OneMakes : Result Reply Refusal → Result Reply Refusal → Type 0
OneMakes one other = (one ≡ done) × (other ≡ Err InstanceExists)

-- no other answers are lawful: it is never made for both, and never for none
abbrev pub ExactlyOneMakes : Type 0
ExactlyOneMakes =
    (one other : Result Reply Refusal) → one ≢ Err Worn → other ≢ Err Worn → IsLawful one other → OneMakes one other ⊎ OneMakes other one
