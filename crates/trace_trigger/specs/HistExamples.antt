-- Strings written to an event's `trigger` file, with what each says of a hist trigger or why it is refused, worked by hand (histogram.rst, "hist
-- triggers"). The checker computes them.
use Rattle.std.specs.Prelude.{◌≡◌, ℕ, Bool, true, false, List, [], ◌∷◌, map, None, Some, Result, Ok, Err, codes}
use Rattle.trace_format.specs.declared.kind.Kind.TheVariants.{Number, Char}
use Rattle.trace_format.specs.declared.kind.NumberType.TheVariants.{U64, S64}
use Rattle.trace_format.specs.Definitions.{Definition}
use Rattle.trace_format.specs.declared.operand.Operand.{Operand}
use Rattle.trace_format.specs.declared.operand.Operand.TheVariants.{Pid, Cpu, Field}
use Rattle.trace_trigger.specs.declared.fault.TriggerFault.{TriggerFault}
use Rattle.trace_trigger.specs.declared.fault.TriggerFault.TheVariants.{HistSyntax, TooManyKeys, TooManyValues, TooManySortKeys, NoSuchField, WrongOperator, BadSize, FilterSyntax}
use Rattle.trace_trigger.specs.declared.fault.OperatorCause.TheVariants.{Compared, Modified, Summed}
use Rattle.trace_trigger.specs.declared.fault.HistCause.TheVariants as cause
use Rattle.trace_filter.specs.declared.fault.FilterCause.TheVariants as filter
use Rattle.trace_trigger.specs.declared.spec.Action.TheVariants.{Attach, Pause, Continue, Clear}
use Rattle.trace_format.specs.declared.key.Key.{Key}
use Rattle.trace_format.specs.declared.modifier.Modifier.{Modifier}
use Rattle.trace_format.specs.declared.modifier.Modifier.TheVariants.{Plain, Hex, Log2, Buckets}
use Rattle.trace_trigger.specs.declared.spec.SortKey.{SortKey}
use Rattle.trace_format.specs.declared.sort_rule.SortRule.{SortRule}
use Rattle.trace_format.specs.declared.sort_rule.SortSource.{SortSource}
use Rattle.trace_format.specs.declared.sort_rule.SortSource.TheVariants as sorted
use Rattle.trace_trigger.specs.HistSpecs.{SpecSeen}
use Rattle.trace_trigger.specs.HistTexts.{spec_of}

-- ---- events

-- `tick u64 n`
abbrev pub tick : Definition
tick = record { name = codes "tick"; fields = record { name = codes "n"; kind = Number U64 } ∷ [] }

-- `move char who[8]; s64 d`
abbrev pub move : Definition
move = record {
  name = codes "move";
  fields = record { name = codes "who"; kind = Char 8 } ∷ record { name = codes "d"; kind = Number S64 } ∷ [];
}

-- ---- strings and what they say

pub record Case : Type 0 where
  pub text : List ℕ
  pub answer : Result SpecSeen TriggerFault

infix 90 ◌gives◌
abbrev pub ◌gives◌ : List ℕ → Result SpecSeen TriggerFault → Case
text gives answer = record { text = text; answer = answer }

-- the strings say of the event what is beside them
abbrev pub AreRead : Definition → List Case → Type 0
AreRead definition cases = map (λ (x : Case). spec_of definition x.text) cases ≡ map (λ (x : Case). x.answer) cases

-- a field of numbers, and one of strings
abbrev pub number_field : ℕ → Operand
number_field index = Field index false

abbrev pub text_field : ℕ → Operand
text_field index = Field index true

-- a key that is a name, and one with a modifier
abbrev pub key : List ℕ → Operand → Key
key name operand = record { written = name; name = name; modifier = Plain; operand = operand }

abbrev pub modified : List ℕ → List ℕ → Modifier → Operand → Key
modified written name modifier operand = record { written = written; name = name; modifier = modifier; operand = operand }

-- a name to sort by, and where it is found
abbrev pub upwards : List ℕ → SortKey
upwards name = record { name = name; descending = false }

abbrev pub downwards : List ℕ → SortKey
downwards name = record { name = name; descending = true }

abbrev pub by : SortSource → Bool → SortRule
by source descending = record { source = source; descending = descending }

-- ---- what is accepted

-- a key alone: 2,048 entries, sorted by `hitcount`
abbrev pub by_n : SpecSeen
by_n = record {
  name = None;
  keys = key (codes "n") (number_field 0) ∷ [];
  values = [];
  sort = upwards (codes "hitcount") ∷ [];
  size = 2048;
  action = Attach;
  filter = None;
  value_sources = [];
  sort_sources = by sorted.Hitcount false ∷ [];
}

-- another key alone, and sorted by it
abbrev pub by_key : Key → SpecSeen
by_key other = record by_n { keys = other ∷ [] }

abbrev pub sorted_by : List ℕ → SpecSeen → SpecSeen
sorted_by name spec = record spec { sort = upwards name ∷ []; sort_sources = by (sorted.Key 0) false ∷ [] }

-- and with a name
abbrev pub called : List ℕ → SpecSeen → SpecSeen
called name spec = record spec { name = Some name }

-- `hitcount` is there whether it is written or not, and a size is rounded up to a power of two
abbrev pub accepted : List Case
accepted =
    codes "hist:keys=n" gives Ok by_n
    ∷ codes "!hist:vals=hitcount:key=n:sort=hitcount.ascending \t " gives Ok by_n
    ∷ codes "hist:size=0065:keys=n:clear" gives Ok (record by_n { size = 128; action = Clear })
    ∷ codes "hist:keys=n:size=131072:cont" gives Ok (record by_n { size = 131072; action = Continue })
    ∷ codes "hist:keys=n.hex" gives Ok (by_key (modified (codes "n.hex") (codes "n") Hex (number_field 0)))
    ∷ codes "hist:keys=n.log2:sort=n" gives Ok (sorted_by (codes "n") (by_key (modified (codes "n.log2") (codes "n") Log2 (number_field 0))))
    ∷ codes "hist:keys=n.buckets=4294967295" gives Ok (by_key (modified (codes "n.buckets=4294967295") (codes "n") (Buckets 4294967295) (number_field 0)))
    ∷ codes "hist:keys=common_pid.buckets=1" gives Ok (by_key (modified (codes "common_pid.buckets=1") (codes "common_pid") (Buckets 1) Pid))
    ∷ codes "hist:keys=n:name=both" gives Ok (called (codes "both") by_n)
    ∷ codes "!hist:name=abcdefghijklmnopqrstuvwxyz_12345:keys=n" gives Ok (called (codes "abcdefghijklmnopqrstuvwxyz_12345") by_n)
    ∷ codes "hist:name=n:keys=n:sort=n" gives Ok (called (codes "n") (sorted_by (codes "n") by_n))
    ∷ []

-- all that a string can say: lists in the order written, the field of a sum and of a filter
abbrev pub by_who : SpecSeen
by_who = record {
  name = None;
  keys = key (codes "who") (text_field 0) ∷ key (codes "common_pid") Pid ∷ [];
  values = codes "d" ∷ [];
  sort = downwards (codes "d") ∷ upwards (codes "who") ∷ [];
  size = 256;
  action = Pause;
  filter = Some (record { text = codes "d > 5"; subjects = number_field 1 ∷ [] });
  value_sources = number_field 1 ∷ [];
  sort_sources = by (sorted.Value 0) true ∷ by (sorted.Key 0) false ∷ [];
}

-- a name that is a key and a value too is sorted by as a value
abbrev pub by_both : SpecSeen
by_both = record {
  name = None;
  keys = key (codes "common_cpu") Cpu ∷ key (codes "d") (number_field 1) ∷ [];
  values = codes "common_pid" ∷ codes "d" ∷ [];
  sort = upwards (codes "d") ∷ upwards (codes "common_cpu") ∷ [];
  size = 2048;
  action = Continue;
  filter = None;
  value_sources = Pid ∷ number_field 1 ∷ [];
  sort_sources = by (sorted.Value 1) false ∷ by (sorted.Key 0) false ∷ [];
}

abbrev pub accepted_of_move : List Case
accepted_of_move =
    codes "hist:sort=d.descending,who:vals=hitcount,d:size=129:keys=who,common_pid:pause if d > 5 " gives Ok by_who
    ∷ codes "hist:keys=common_cpu,d:values=common_pid,hitcount,d:sort=d,common_cpu:continue" gives Ok by_both
    ∷ []

-- ---- what is refused

-- a string is refused at the leftmost offset where it breaks the grammar, the first word's end among them if there are no keys; and with what is wrong
-- there, which at that end is an empty attribute or item, if one is there
abbrev pub wrong_attributes : List Case
wrong_attributes =
    codes "hist:" gives Err (HistSyntax 5 cause.Unknown)
    ∷ codes "hist:vals=n:" gives Err (HistSyntax 12 cause.Unknown)
    ∷ codes "hist::keys=n" gives Err (HistSyntax 5 cause.Unknown)
    ∷ codes "hist:keys=n:" gives Err (HistSyntax 12 cause.Unknown)
    ∷ codes "hist:foo=1:keys=n" gives Err (HistSyntax 5 cause.Unknown)
    ∷ codes "hist:keys=n:pause=1" gives Err (HistSyntax 12 cause.Unknown)
    ∷ codes "hist:keys" gives Err (HistSyntax 5 cause.Unknown)
    ∷ codes "hist:keys=n:size=x" gives Err (HistSyntax 12 cause.Size)
    ∷ codes "hist:keys=n:size=128:size=128" gives Err (HistSyntax 21 cause.Size)
    ∷ codes "hist:keys=n:key=n" gives Err (HistSyntax 12 cause.Repeated)
    ∷ codes "hist:keys=n:pause:clear" gives Err (HistSyntax 18 cause.Action)
    ∷ codes "hist:vals=n" gives Err (HistSyntax 11 cause.NoKeys)
    ∷ codes "hist:vals=n x" gives Err (HistSyntax 11 cause.NoKeys)
    ∷ codes "hist:keys=n x" gives Err (HistSyntax 12 cause.Condition)
    ∷ codes "!hist:keys=n  if " gives Err (HistSyntax 14 cause.Condition)
    ∷ []

-- a table's name that is none, at its first byte. A second one is wrong at the attribute's, and a name cannot be sorted by
abbrev pub wrong_table_names : List Case
wrong_table_names =
    codes "hist:keys=n:name=9x" gives Err (HistSyntax 17 cause.Name)
    ∷ codes "!hist:keys=n:name=" gives Err (HistSyntax 18 cause.Name)
    ∷ codes "hist:keys=n:name= x" gives Err (HistSyntax 17 cause.Name)
    ∷ codes "hist:name=a,b:keys=n" gives Err (HistSyntax 10 cause.Name)
    ∷ codes "hist:keys=n:name=a=b:foo" gives Err (HistSyntax 17 cause.Name)
    ∷ codes "hist:name=abcdefghijklmnopqrstuvwxyz_123456:keys=n" gives Err (HistSyntax 10 cause.Name)
    ∷ codes "hist:foo:keys=n:name=9x" gives Err (HistSyntax 5 cause.Unknown)
    ∷ codes "hist:keys=n:name" gives Err (HistSyntax 12 cause.Unknown)
    ∷ codes "hist:keys=n:name=a:name=a" gives Err (HistSyntax 19 cause.Repeated)
    ∷ codes "hist:keys=n:name=a:name=9x" gives Err (HistSyntax 19 cause.Repeated)
    ∷ codes "hist:keys=n:name=9x:name=a" gives Err (HistSyntax 17 cause.Name)
    ∷ codes "hist:keys=n:name=t:sort=t" gives Err (HistSyntax 24 (cause.Sort true))
    ∷ []

abbrev pub wrong_items : List Case
wrong_items =
    codes "hist:keys=" gives Err (HistSyntax 10 (cause.Key true))
    ∷ codes "!hist:keys=n,9x" gives Err (HistSyntax 13 (cause.Key false))
    ∷ codes "hist:keys=n,n" gives Err (HistSyntax 12 (cause.Key false))
    ∷ codes "hist:keys=n.log2,n.hex" gives Err (HistSyntax 17 (cause.Key false))
    ∷ codes "hist:keys=n:vals=n.hex" gives Err (HistSyntax 17 (cause.Value true))
    ∷ codes "hist:keys=n.log2:sort=n.log2" gives Err (HistSyntax 22 (cause.Sort true))
    ∷ codes "hist:keys=n:vals=,n" gives Err (HistSyntax 17 (cause.Value true))
    ∷ codes "hist:vals=n," gives Err (HistSyntax 12 (cause.Value false))
    ∷ codes "hist:sort=n" gives Err (HistSyntax 10 (cause.Sort true))
    ∷ codes "hist:sort=m:keys=n:keys=m" gives Err (HistSyntax 10 (cause.Sort true))
    ∷ codes "hist:keys=n:sort=n,n.descending" gives Err (HistSyntax 19 (cause.Sort false))
    ∷ codes "hist:keys=n:sort=n.upwards" gives Err (HistSyntax 17 (cause.Sort true))
    ∷ []

-- what is no modifier; the key's name may be sorted by all the same
abbrev pub wrong_modifiers : List Case
wrong_modifiers =
    codes "hist:keys=n.foo" gives Err (HistSyntax 10 (cause.Key true))
    ∷ codes "hist:sort=n:keys=n.foo" gives Err (HistSyntax 17 (cause.Key true))
    ∷ codes "hist:keys=n." gives Err (HistSyntax 10 (cause.Key true))
    ∷ codes "hist:keys=.hex" gives Err (HistSyntax 10 (cause.Key true))
    ∷ codes "hist:keys=common_pid,n.hex.hex" gives Err (HistSyntax 21 (cause.Key false))
    ∷ codes "hist:keys=n.buckets=" gives Err (HistSyntax 10 (cause.Key true))
    ∷ codes "hist:keys=n.buckets=0" gives Err (HistSyntax 10 (cause.Key true))
    ∷ codes "hist:keys=n.buckets=010" gives Err (HistSyntax 10 (cause.Key true))
    ∷ codes "hist:keys=n.buckets=4294967296" gives Err (HistSyntax 10 (cause.Key true))
    ∷ []

-- too much of something comes before the names that the event does not have
abbrev pub too_many : List Case
too_many =
    codes "hist:keys=n,common_pid,common_cpu,x" gives Err TooManyKeys
    ∷ codes "hist:keys=n:vals=a,b,hitcount,c,d" gives Err TooManyValues
    ∷ codes "hist:keys=n,common_pid:sort=n,common_pid,hitcount" gives Err TooManySortKeys
    ∷ codes "hist:sort=n,a,b:vals=a,b,c,d:keys=n,a,b,c" gives Err TooManyKeys
    ∷ codes "hist:sort=n,a,b:vals=a,b,c,d:keys=n" gives Err TooManyValues
    ∷ []

-- the leftmost wrong key comes before the leftmost wrong value, then the size, then the filter
abbrev pub wrong_names : List Case
wrong_names =
    codes "hist:vals=x:keys=n,y:size=1" gives Err (NoSuchField 19)
    ∷ codes "hist:keys=hitcount" gives Err (NoSuchField 10)
    ∷ codes "hist:keys=n:vals=hitcount,x,y:size=1 if z" gives Err (NoSuchField 26)
    ∷ codes "hist:keys=n:size=64 if z == 1" gives Err BadSize
    ∷ codes "hist:keys=n:size=131073" gives Err BadSize
    ∷ codes "hist:keys=n:size=18446744073709551616" gives Err BadSize
    ∷ codes "hist:keys=n if n == " gives Err (FilterSyntax 20 filter.Value)
    ∷ codes "hist:keys=n if z == 1" gives Err (NoSuchField 15)
    ∷ codes "!hist:keys=n  if\tn ~ 1" gives Err (WrongOperator 19 Compared)
    ∷ []

-- a string is in no bucket, and cannot be summed
abbrev pub wrong_keys_of_move : List Case
wrong_keys_of_move =
    codes "hist:keys=who.hex" gives Err (WrongOperator 10 Modified)
    ∷ codes "hist:keys=d.buckets=10,who.log2,x" gives Err (WrongOperator 23 Modified)
    ∷ codes "hist:keys=x.hex,who.hex" gives Err (NoSuchField 10)
    ∷ []

abbrev pub wrong_values_of_move : List Case
wrong_values_of_move =
    codes "hist:keys=who:vals=d,who,x" gives Err (WrongOperator 21 Summed)
    ∷ codes "hist:keys=who:vals=x,who" gives Err (NoSuchField 19)
    ∷ []
