-- A filter as the program keeps and evaluates it. That its value is the truth of the filter's tree is the law
-- `filters_hold_as_their_trees`.
use Rattle.std.specs.Prelude.{pos, Bool, true, false, not, ◌&&◌, ◌||◌, nat_lt, if◌then◌else◌, List, [], ◌∷◌, ◌++◌, length, reverse, Option, None, Some, unwrap_or}
use Rattle.trace_format.specs.declared.event.Field.{Field}
use Rattle.trace_format.specs.declared.operand.Operand.{Operand}
use Rattle.trace_format.specs.Operands.{Emission, is_text, operand_value}
use Rattle.trace_format.specs.Cells.{Datum, Whole, Bytes, datum_of}
use Rattle.trace_filter.specs.declared.token.Comparison.{Comparison}
use Rattle.trace_filter.specs.declared.steps.Step as step
use Rattle.trace_filter.specs.declared.steps.Step.TheVariants as steps
use Rattle.trace_filter.specs.declared.frames.Frame.{Frame}
use Rattle.trace_filter.specs.declared.frames.Frames.{Frames}
use Rattle.trace_filter.specs.Tokens.{Literal, Token, Open, Close, Bang, AndAnd, OrOr, Compare, Name, Value, Illegible}
use Rattle.trace_filter.specs.Subjects.{subject_behind}
use Rattle.trace_filter.specs.Truth.{literal_number, literal_bytes}
use Rattle.trace_filter.specs.Tests.{datum_test}

-- ---- steps

pub data Move : Type 0 where
  Opens : Move
  Closes : Move
  Inverts : Move
  AndThen : Move
  OrElse : Move
  Checks : Operand → Comparison → Datum → Move

abbrev pub move_of : step.Step → Move
move_of steps.Open = Opens
move_of steps.Close = Closes
move_of steps.Not = Inverts
move_of steps.And = AndThen
move_of steps.Or = OrElse
move_of (steps.Test t) = Checks t.subject t.comparison (datum_of t.value)

abbrev pub datum_at : Bool → Literal → Datum
datum_at true literal = Bytes (literal_bytes literal)
datum_at false literal = Whole (unwrap_or (literal_number literal) (pos 0))

-- the steps of one token, where the subject and the comparison were named last
abbrev pub moves_of : Operand → Comparison → Token → List Move
moves_of subject by Open = Opens ∷ []
moves_of subject by Close = Closes ∷ []
moves_of subject by Bang = Inverts ∷ []
moves_of subject by AndAnd = AndThen ∷ []
moves_of subject by OrOr = OrElse ∷ []
moves_of subject by (Compare c) = []
moves_of subject by (Name name) = []
moves_of subject by (Value literal) = Checks subject by (datum_at (is_text subject) literal) ∷ []
moves_of subject by Illegible = []

abbrev pub comparison_behind : Comparison → Token → Comparison
comparison_behind by Open = by
comparison_behind by Close = by
comparison_behind by Bang = by
comparison_behind by AndAnd = by
comparison_behind by OrOr = by
comparison_behind by (Compare c) = c
comparison_behind by (Name name) = by
comparison_behind by (Value literal) = by
comparison_behind by Illegible = by

abbrev pub moves_from : List Field → Operand → Comparison → List Token → List Move
moves_from fields subject by [] = []
moves_from fields subject by (token ∷ tokens) = moves_of subject by token ++ moves_from fields (subject_behind fields subject token) (comparison_behind by token) tokens

-- the steps of tokens whose tests are about these subjects, in order
abbrev pub moves_about : List Operand → Comparison → List Token → List Move
moves_about subjects by [] = []
moves_about subjects by (Open ∷ tokens) = Opens ∷ moves_about subjects by tokens
moves_about subjects by (Close ∷ tokens) = Closes ∷ moves_about subjects by tokens
moves_about subjects by (Bang ∷ tokens) = Inverts ∷ moves_about subjects by tokens
moves_about subjects by (AndAnd ∷ tokens) = AndThen ∷ moves_about subjects by tokens
moves_about subjects by (OrOr ∷ tokens) = OrElse ∷ moves_about subjects by tokens
moves_about subjects by (Compare c ∷ tokens) = moves_about subjects c tokens
moves_about subjects by (Name name ∷ tokens) = moves_about subjects by tokens
moves_about [] by (Value literal ∷ tokens) = moves_about [] by tokens
moves_about (subject ∷ subjects) by (Value literal ∷ tokens) = Checks subject by (datum_at (is_text subject) literal) ∷ moves_about subjects by tokens
moves_about subjects by (Illegible ∷ tokens) = moves_about subjects by tokens

-- what steps test, in order
abbrev pub subjects_tested : List Move → List Operand
subjects_tested [] = []
subjects_tested (Opens ∷ moves) = subjects_tested moves
subjects_tested (Closes ∷ moves) = subjects_tested moves
subjects_tested (Inverts ∷ moves) = subjects_tested moves
subjects_tested (AndThen ∷ moves) = subjects_tested moves
subjects_tested (OrElse ∷ moves) = subjects_tested moves
subjects_tested (Checks subject by b ∷ moves) = subject ∷ subjects_tested moves

-- ---- their value

-- what was found inside the innermost open `(`, and inside those round it, innermost first. Of each: whether an alternative before this one
-- holds, whether all operands of this one hold so far, and whether the next operand is inverted
pub record State : Type 0 where
  pub frame : Frame
  pub outer : List Frame

abbrev pub fresh : Frame
fresh = record { any = false; all = true; odd = false }

abbrev pub inverted : Bool → Bool → Bool
inverted true holds = not holds
inverted false holds = holds

abbrev pub with_operand : Frame → Bool → Frame
with_operand frame holds = record { any = frame.any; all = frame.all && inverted frame.odd holds; odd = false }

abbrev pub total : Frame → Bool
total frame = frame.any || frame.all

abbrev pub opened : Frame → List Frame → State
opened frame outer = if nat_lt (length outer) 16 then record { frame = fresh; outer = frame ∷ outer } else record { frame = frame; outer = outer }

abbrev pub closed : Frame → List Frame → State
closed frame [] = record { frame = frame; outer = [] }
closed frame (before ∷ outer) = record { frame = with_operand before (total frame); outer = outer }

abbrev pub test_of : Comparison → Option Datum → Datum → Bool
test_of by None b = false
test_of by (Some a) b = datum_test by a b

abbrev pub behind_move : Emission → State → Move → State
behind_move emission state Opens = opened state.frame state.outer
behind_move emission state Closes = closed state.frame state.outer
behind_move emission state Inverts = record { frame = record { any = state.frame.any; all = state.frame.all; odd = not state.frame.odd }; outer = state.outer }
behind_move emission state AndThen = state
behind_move emission state OrElse = record { frame = record { any = total state.frame; all = true; odd = false }; outer = state.outer }
behind_move emission state (Checks subject by b) = record { frame = with_operand state.frame (test_of by (operand_value emission subject) b); outer = state.outer }

abbrev pub evaluated : Emission → State → List Move → Bool
evaluated emission state [] = total state.frame
evaluated emission state (move ∷ moves) = evaluated emission (behind_move emission state move) moves

abbrev pub at_start : State
at_start = record { frame = fresh; outer = [] }

-- what the program's frames stand for
abbrev pub state_of : Frames → State
state_of f = record { frame = f.current; outer = reverse f.outer.items }
