-- An event's line in `synthetic_events`, after "Synthetic events" of histogram.rst. That a blank and no tab stands behind the name, that a
-- text is written `char f[N]`, and that there is no `;` behind the last field, was chosen by this project.
use Rattle.std.specs.Prelude.{ℕ, List, [], ◌∷◌, ◌++◌, codes}
use Rattle.trace_format.specs.declared.event.Field.{Field}
use Rattle.trace_format.specs.Definitions.{Definition}
use Rattle.record_text.specs.FieldText.{field_text}

-- fields that follow another one
abbrev pub further_fields : List Field → List ℕ
further_fields [] = []
further_fields (field ∷ fields) = codes "; " ++ field_text field ++ further_fields fields

-- fields with `; ` between each two
abbrev pub fields_text : List Field → List ℕ
fields_text [] = []
fields_text (field ∷ fields) = field_text field ++ further_fields fields

-- the event's name and its fields in order of declaration
unfoldable pub declaration_text : Definition → List ℕ
declaration_text definition = definition.name ++ codes " " ++ fields_text definition.fields ++ codes "\n"
