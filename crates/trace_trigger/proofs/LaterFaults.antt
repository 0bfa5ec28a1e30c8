-- What is told of a hist trigger's text once its syntax is right.
use Rattle.std.proofs.Common.{◌≡◌, ◌≢◌, ℕ, ◌-◌, Bool, true, false, not, ◌&&◌, nat_lt, if◌then◌else◌, bytes_eq, List, [], ◌∷◌, length, Option, Some, None, Result, Ok, Err, ap, subst}
use Rattle.trace_format.specs.Definitions.{Definition}
use Rattle.trace_format.specs.declared.operand.Operand.{Operand}
use Rattle.trace_format.specs.Operands.{operand_named, is_text}
use Rattle.trace_filter.specs.declared.fault.FilterFault.{FilterFault}
use Rattle.trace_filter.specs.declared.fault.FilterFault.TheVariants as filter
use Rattle.trace_filter.specs.Filters.{Parsed, answer_of}
use Rattle.trace_trigger.specs.declared.piece.ListItem.{ListItem}
use Rattle.trace_trigger.specs.declared.fault.TriggerFault.{TriggerFault}
use Rattle.trace_trigger.specs.declared.fault.TriggerFault.TheVariants.{BadText, FilterTooLong, FilterTooDeep, TooManyKeys, TooManyValues, TooManySortKeys, FilterSyntax, NoSuchField, WrongOperator, HistSyntax, BadSize, Memory}
use Rattle.trace_trigger.specs.declared.fault.TextCause.{TextCause}
use Rattle.trace_trigger.specs.declared.fault.OperatorCause.TheVariants.{Modified, Summed}
use Rattle.trace_trigger.specs.declared.offset.Mistake.{Mistake}
use Rattle.trace_trigger.specs.Frames.{moved, filter_read, filter_of}
use Rattle.trace_trigger.specs.TriggerAnswers.{◌>>=◌, IsAnswered}
use Rattle.trace_trigger.specs.HistParts.{attributes_of, tail_of, condition_of}
use Rattle.trace_trigger.specs.HistLists.{Lists, lists_of, summed_items, item_name, item_suffix}
use Rattle.trace_trigger.specs.HistOffsets.{mistakes, leftmost}
use Rattle.trace_trigger.specs.HistMeanings.{is_too_many, excess, summed_len, few, each, key_as, key_meant, key_in, value_meant, value_source, told_size, size_of}
use Rattle.trace_trigger.specs.HistSpecs.{SpecSeen}
use Rattle.trace_trigger.specs.HistTexts.{unless_wrong, read_of, spec_from, spec_of}

-- all faults but those of how a text is written
abbrev pub IsLater : TriggerFault → Type 0
IsLater (BadText cause) = ⊥
IsLater FilterTooLong = Unit {0}
IsLater FilterTooDeep = Unit {0}
IsLater TooManyKeys = Unit {0}
IsLater TooManyValues = Unit {0}
IsLater TooManySortKeys = Unit {0}
IsLater (FilterSyntax at cause) = Unit {0}
IsLater (NoSuchField at) = Unit {0}
IsLater (WrongOperator at cause) = Unit {0}
IsLater (HistSyntax at cause) = ⊥
IsLater BadSize = Unit {0}
IsLater Memory = Unit {0}

abbrev pub IsAnyLater : {A : Type 0} → Result A TriggerFault → Type 0
IsAnyLater (Ok value) = Unit {0}
IsAnyLater (Err fault) = IsLater fault

then_later : {A B : Type 0} (first : Result A TriggerFault) (next : A → Result B TriggerFault) → IsAnyLater first → ((value : A) → IsAnyLater (next value)) → IsAnyLater (first >>= next)
then_later (Ok value) next is more = more value
then_later (Err fault) next is more = is

each_later : {A B : Type 0} (read : A → Result B TriggerFault) → ((x : A) → IsAnyLater (read x)) → (xs : List A) → IsAnyLater (each read xs)
each_later read are [] = tt
each_later read are (x ∷ xs) = then_later (read x) (λ y. each read xs >>= λ ys. Ok (y ∷ ys)) (are x) (λ y. then_later (each read xs) (λ ys. Ok (y ∷ ys)) (each_later read are xs) (λ ys. tt))

key_later : (item : ListItem) (named : Option Operand) → IsAnyLater (key_meant item named)
key_later item None = tt
key_later item (Some named) = by (is_text named && not (bytes_eq (item_suffix item.bytes) []))
  where
    by : (b : Bool) → IsAnyLater (if b then Err (WrongOperator item.at Modified) else Ok (key_as item named))
    by true = tt
    by false = tt

value_later : (at : ℕ) (named : Option Operand) → IsAnyLater (value_meant at named)
value_later at None = tt
value_later at (Some named) = by (is_text named)
  where
    by : (b : Bool) → IsAnyLater (if b then Err (WrongOperator at Summed) else Ok named)
    by true = tt
    by false = tt

told_later : (size : Option ℕ) → IsAnyLater (told_size size)
told_later None = tt
told_later (Some n) = tt

size_later : (size : Option (List ℕ)) → IsAnyLater (size_of size)
size_later None = tt
size_later (Some digits) = told_later _

moved_later : (before : ℕ) (fault : FilterFault) → IsLater (moved before fault)
moved_later before filter.TooLong = tt
moved_later before filter.TooDeep = tt
moved_later before (filter.FilterSyntax at cause) = tt
moved_later before (filter.NoSuchField at) = tt
moved_later before (filter.WrongOperator at) = tt
moved_later before filter.Memory = tt

read_later : (before : ℕ) (answer : Result Parsed FilterFault) → IsAnyLater (filter_read before answer)
read_later before (Ok read) = tt
read_later before (Err fault) = moved_later before fault

pub filter_later : (definition : Definition) (text : List ℕ) (condition : Option (List ℕ)) → IsAnyLater (filter_of definition text condition)
unfolding filter_of
filter_later definition text None = tt
filter_later definition text (Some condition) = read_later (length text - length condition) (answer_of definition condition)

few_later : (lists : Lists) → IsAnyLater (few lists)
few_later lists = by (is_too_many lists) (excess_later (nat_lt 3 (length lists.keys)) (nat_lt 3 (summed_len lists.values)))
  where
    excess_later : (keys values : Bool) → IsLater (if keys then TooManyKeys else (if values then TooManyValues else TooManySortKeys))
    excess_later true values = tt
    excess_later false true = tt
    excess_later false false = tt

    by : (b : Bool) → IsLater (excess lists) → IsAnyLater (if b then Err (excess lists) else Ok lists)
    by true is = is
    by false is = tt

from_later : (definition : Definition) (text : List ℕ) (lists : Lists) → IsAnyLater (spec_from definition text lists)
unfolding spec_from
from_later definition text lists =
    then_later (each (key_in definition.fields) lists.keys) _ (each_later (key_in definition.fields) (λ item. key_later item (operand_named definition.fields (item_name item.bytes))) lists.keys) (λ keys.
    then_later (each (value_source definition.fields) (summed_items lists.values)) _ (each_later (value_source definition.fields) (λ item. value_later item.at (operand_named definition.fields item.bytes)) (summed_items lists.values)) (λ values.
    then_later (size_of lists.size) _ (size_later lists.size) (λ size.
    then_later (filter_of definition text (condition_of (tail_of text))) _ (filter_later definition text (condition_of (tail_of text))) (λ only_if. tt))))

pub read_is_later : (definition : Definition) (text : List ℕ) (lists : Lists) → IsAnyLater (few lists >>= λ lists. spec_from definition text lists)
read_is_later definition text lists = then_later (few lists) (λ lists. spec_from definition text lists) (few_later lists) (λ lists. from_later definition text lists)

-- no text of a hist trigger is refused as no trigger's text at all
pub never_bad : (definition : Definition) (text : List ℕ) (cause : TextCause) → spec_of definition text ≡ Err (BadText cause) → ⊥
unfolding spec_of read_of
never_bad definition text cause e = by (leftmost (mistakes text)) e
  where
    by : (found : Option Mistake) → (unless_wrong found (lists_of (attributes_of text)) >>= λ lists. few lists >>= λ lists. spec_from definition text lists) ≡ Err (BadText cause) → ⊥
    by None f = let P : Result SpecSeen TriggerFault → Type 0 = λ answer. IsAnyLater answer in subst P f (read_is_later definition text (lists_of (attributes_of text)))
    by (Some mistake) f = cc

-- so no call that answers it, or a step of it, tells of that
pub known_read : (definition : Definition) (text : List ℕ) (result : Result Lists TriggerFault) (cause : TextCause) → IsAnswered result (read_of text) → result ≢ Err (BadText cause)
unfolding spec_of
known_read definition text result cause is bad =
    let told : read_of text ≡ Err (BadText cause) = subst (λ r. IsAnswered r (read_of text)) bad is in
    never_bad definition text cause (ap (λ r. r >>= λ lists. few lists >>= λ lists. spec_from definition text lists) told)

pub known_told : (definition : Definition) (text : List ℕ) (lists : Lists) (result : Result SpecSeen TriggerFault) (cause : TextCause)
    → IsAnswered result (spec_from definition text lists) → result ≢ Err (BadText cause)
known_told definition text lists result cause is bad =
    let told : spec_from definition text lists ≡ Err (BadText cause) = subst (λ r. IsAnswered r (spec_from definition text lists)) bad is in
    let P : Result SpecSeen TriggerFault → Type 0 = λ answer. IsAnyLater answer in
    subst P told (from_later definition text lists)
