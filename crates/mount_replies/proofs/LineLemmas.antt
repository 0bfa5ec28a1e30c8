-- Lines of `inject`, and fields that are left out.
use Rattle.std.proofs.Common.{◌≡◌, ℕ, ◌<◌, ◌≤◌, ◌+◌, suc, Bool, true, false, cond, List, [], ◌∷◌, ◌++◌, length, drop, get_or, pos, None, Some, Ok, Err, codes, refl, sym, ap, ◌∙◌, add-one, append-nil, append_assoc, drop-cons}
use Rattle.std.proofs.lemmas.List.{drop_all}
use Rattle.std.specs.List.{list_any}
use Rattle.std.specs.Str.{bytes_eq}
use Rattle.trace_format.specs.declared.event.Field.{Field}
use Rattle.trace_format.specs.declared.pair.Pair.{Pair}
use Rattle.trace_script.specs.Lines.{line_of}
use Rattle.trace_command.specs.declared.command.CommandOf.TheVariants.{Emit}
use Rattle.trace_script.specs.declared.line.Line.{Line}
use Rattle.trace_script.specs.declared.line.Line.TheVariants.{Ask}
use Rattle.trace_script.specs.declared.fault.ScriptFault.{ScriptFault}
use Rattle.mount_replies.specs.Injections.{default_pair, left_out, pairs_asked, pairs_of_line}

-- the pairs of a line
pub asked : (line text : List ℕ) (said : Line) → text ≡ codes "emit 0 0 e " ++ line → line_of text ≡ Ok said → pairs_asked (Ok said) ≡ pairs_of_line line
unfolding pairs_of_line
asked line text said is says = ap pairs_asked (sym says ∙ ap line_of is)

pub faulty : (line text : List ℕ) (fault : ScriptFault) → text ≡ codes "emit 0 0 e " ++ line → line_of text ≡ Err fault → None ≡ pairs_of_line line
unfolding pairs_of_line
faulty line text fault is says = ap pairs_asked (sym says ∙ ap line_of is)

pub plain-asked : (line : List ℕ) (pairs : List Pair) → line_of (codes "emit 0 0 e " ++ line) ≡ Ok (Ask (Emit (codes "e") 0 (pos 0) pairs)) → pairs_of_line line ≡ Some pairs
unfolding pairs_of_line
plain-asked line pairs says = ap pairs_asked says

-- ---- fields that are left out

rest_of : (fields : List Field) (i : ℕ) (field : Field) → i < length fields → field ≡ get_or fields i field → drop i fields ≡ field ∷ drop (i + 1) fields
rest_of fields i field within is = rw add-one (drop-cons fields i field within ∙ ap (λ (first : Field). first ∷ drop (suc i) fields) (sym is))

one-left : (given : List Pair) (field : Field) (rest : List Field) → left_out given (field ∷ rest) ≡ left_out given (field ∷ []) ++ left_out given rest
unfolding left_out
one-left given field rest = by (list_any (λ (pair : Pair). bytes_eq pair.name field.name) given)
  where
    by : (t : Bool) → cond t (left_out given rest) (default_pair field ∷ left_out given rest)
        ≡ cond t (left_out given []) (default_pair field ∷ left_out given []) ++ left_out given rest
    by true = refl
    by false = refl

pub one_more : (given sofar now all : List Pair) (fields : List Field) (i : ℕ) (field : Field) → i < length fields → field ≡ get_or fields i field
    → now ≡ sofar ++ left_out given (field ∷ []) → sofar ++ left_out given (drop i fields) ≡ all → now ++ left_out given (drop (i + 1) fields) ≡ all
one_more given sofar now all fields i field within is more before =
    ap (λ (l : List Pair). l ++ left_out given (drop (i + 1) fields)) more
    ∙ append_assoc sofar (left_out given (field ∷ [])) (left_out given (drop (i + 1) fields))
    ∙ ap (λ (l : List Pair). sofar ++ l) (sym (ap (left_out given) (rest_of fields i field within is) ∙ one-left given field (drop (i + 1) fields))) ∙ before

pub all_left : (given sofar all : List Pair) (fields : List Field) (i : ℕ) → length fields ≤ i → sofar ++ left_out given (drop i fields) ≡ all → sofar ≡ all
unfolding left_out
all_left given sofar all fields i end before =
    sym (append-nil sofar) ∙ ap (λ (l : List Field). sofar ++ left_out given l) (sym (drop_all i fields end)) ∙ before
