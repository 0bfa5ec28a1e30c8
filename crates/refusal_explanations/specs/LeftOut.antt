-- What a kernel's tracer has and this one leaves out: the tables are those of src/left_out.rt, of names and of the sentence on each.
use Rattle.std.specs.Prelude.{ℕ, if◌then◌else◌, List, [], ◌∷◌, map, take}
use Rattle.std.specs.List.{prefix_len}
use Rattle.std.specs.Str.{bytes_eq}
use Rattle.trace_lex.specs.Names.{is_name_byte}
use Rattle.refusal_explanations.specs.declared.left_out.TheConstants.{ATTRIBUTES, FIELDS, TRIGGERS}

-- the sentence in the first row of this name, or, if there is none, the other one
abbrev pub told_of : List (List ℕ × List ℕ) → List ℕ → List ℕ → List ℕ
told_of [] name other = other
told_of (row ∷ rows) name other = if bytes_eq row.0 name then row.1 else told_of rows name other

-- the letters, digits and `_` that a string begins with
abbrev pub name_len : List ℕ → ℕ
name_len text = prefix_len is_name_byte text

abbrev pub name_at : List ℕ → List ℕ
name_at text = take (name_len text) text

-- what is told of a string that begins with such a name, in place of the other sentence
abbrev pub of_attributes : List ℕ → List ℕ → List ℕ
of_attributes text other = told_of (map (λ row. (row.0.now, row.1.now)) ATTRIBUTES) (name_at text) other

abbrev pub of_fields : List ℕ → List ℕ → List ℕ
of_fields text other = told_of (map (λ row. (row.0.now, row.1.now)) FIELDS) (name_at text) other

abbrev pub of_triggers : List ℕ → List ℕ → List ℕ
of_triggers text other = told_of (map (λ row. (row.0.now, row.1.now)) TRIGGERS) (name_at text) other
