-- `==` of refusals tells whether they are one.
use Rattle.std.proofs.Common.{rules, ◌≡◌, true, refl, subst, ap}
use Rattle.std.proofs.lemmas.Bool.{false≢true}
use Rattle.std.specs.Bool.{Decides}
use Rattle.std.specs.Cmp.Lexicographic.{bytes_decides}
use Rattle.trace_format.specs.contracts.bad_row.BadRowPartialEq.TheImpl.{eq-value as row_eq}
use Rattle.trace_format.specs.declared.bad_row.BadRow.{BadRow as WrongRow}
use Rattle.trace_command.specs.declared.refusal.Refusal.{Refusal}
use Rattle.trace_command.specs.declared.refusal.Refusal.TheVariants.{NoSuchFile, NotReadable, NotWritable, BadValue, BadTrigger, NoSuchEvent, EventExists, BadDefinition, TooBig, FilterSyntax, NoSuchField, WrongOperator, HistSyntax, BadSize, TriggerExists, NoSuchTrigger, TooMany, InstanceExists, NoSuchInstance, Busy, NoSuchCpu, BadRow, HistoryFull, Memory, Worn}
use Rattle.trace_command.specs.contracts.refusal.RefusalPartialEq.TheImpl.{eq-value as refusal_eq}

row_decided : (a b : WrongRow) → Decides (row_eq.it a b) (a ≡ b)
row_decided a b = search (rules, bytes_decides)

one_refusal : (a b : Refusal) → refusal_eq.it a b ≡ true → a ≡ b
one_refusal NoSuchFile NoSuchFile e = refl
one_refusal NotReadable NotReadable e = refl
one_refusal NotWritable NotWritable e = refl
one_refusal BadValue BadValue e = refl
one_refusal (BadTrigger x) (BadTrigger y) e = search rules
one_refusal NoSuchEvent NoSuchEvent e = refl
one_refusal EventExists EventExists e = refl
one_refusal (BadDefinition x c) (BadDefinition y d) e = search rules
one_refusal TooBig TooBig e = refl
one_refusal (FilterSyntax x c) (FilterSyntax y d) e = search rules
one_refusal (NoSuchField x) (NoSuchField y) e = search rules
one_refusal (WrongOperator x c) (WrongOperator y d) e = search rules
one_refusal (HistSyntax x c) (HistSyntax y d) e = search rules
one_refusal BadSize BadSize e = refl
one_refusal TriggerExists TriggerExists e = refl
one_refusal NoSuchTrigger NoSuchTrigger e = refl
one_refusal (TooMany x) (TooMany y) e = search rules
one_refusal InstanceExists InstanceExists e = refl
one_refusal NoSuchInstance NoSuchInstance e = refl
one_refusal Busy Busy e = refl
one_refusal NoSuchCpu NoSuchCpu e = refl
one_refusal (BadRow x) (BadRow y) e = ap BadRow ((row_decided x y).0 e)
one_refusal HistoryFull HistoryFull e = refl
one_refusal Memory Memory e = refl
one_refusal Worn Worn e = refl
one_refusal _ _ e = absurd (false≢true e)

equals_itself : (a : Refusal) → refusal_eq.it a a ≡ true
equals_itself NoSuchFile = refl
equals_itself NotReadable = refl
equals_itself NotWritable = refl
equals_itself BadValue = refl
equals_itself (BadTrigger x) = search rules
equals_itself NoSuchEvent = refl
equals_itself EventExists = refl
equals_itself (BadDefinition x c) = search rules
equals_itself TooBig = refl
equals_itself (FilterSyntax x c) = search rules
equals_itself (NoSuchField x) = search rules
equals_itself (WrongOperator x c) = search rules
equals_itself (HistSyntax x c) = search rules
equals_itself BadSize = refl
equals_itself TriggerExists = refl
equals_itself NoSuchTrigger = refl
equals_itself (TooMany x) = search rules
equals_itself InstanceExists = refl
equals_itself NoSuchInstance = refl
equals_itself Busy = refl
equals_itself NoSuchCpu = refl
equals_itself (BadRow x) = (row_decided x x).1 refl
equals_itself HistoryFull = refl
equals_itself Memory = refl
equals_itself Worn = refl

pub refusal_decided : (a b : Refusal) → Decides (refusal_eq.it a b) (a ≡ b)
refusal_decided a b = (one_refusal a b, λ e. subst (λ c. refusal_eq.it a c ≡ true) e (equals_itself a))
