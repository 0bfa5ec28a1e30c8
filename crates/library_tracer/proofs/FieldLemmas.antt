-- Fields cut off a string one by one, and their pairs.
use Rattle.std.proofs.Common.{◌≡◌, ◌≢◌, ℕ, ◌+◌, ◌<◌, suc, Bool, true, false, not, ◌==◌, cond, List, [], ◌∷◌, ◌++◌, length, take, drop, Option, Some, None, Result, Ok, Err, IsErrAnd, refl, ap, sym, subst, ◌∙◌, arith}
use Rattle.std.proofs.lemmas.Bool.{eqb-true}
use Rattle.std.specs.List.{prefix_len}
use Rattle.std.specs.Option.{option_map, option_and_then}
use Rattle.std.proofs.lemmas.List.{append-nil, append_assoc, drop_all, take_all}
use Rattle.trace_format.specs.declared.pair.Pair.{Pair}
use Rattle.trace_lex.specs.Prefixes.{is_not}
use Rattle.trace_script.specs.Lines.{pair_of}
use Rattle.trace_script.specs.Outcomes.{Fails, Gives, or_fault}
use Rattle.trace_script.specs.declared.fault.LineError.{LineError}
use Rattle.trace_script.specs.declared.fault.LineError.TheVariants.{Fault, Memory}
use Rattle.trace_script.specs.declared.fault.ScriptFault.{ScriptFault}
use Rattle.trace_script.specs.declared.fault.ScriptFault.TheVariants.{WrongWords}
use Rattle.library_tracer.specs.Fields.{begun_with, fields_in, pairs_in}

-- ---- fields

-- how many bytes stand before the first byte 0
abbrev len : List ℕ → ℕ
len = prefix_len (is_not 0)

-- a field that a byte 0 ends
ended_field : (text : List ℕ) → len text < length text → fields_in text ≡ take (len text) text ∷ fields_in (drop (len text + 1) text)
unfolding fields_in
ended_field [] h = absurd (omega (arith, h))
ended_field (b ∷ bs) h = by_test (b == 0) (λ low. ended_field bs low) h
  where
    by_test : (t : Bool) → (len bs < length bs → fields_in bs ≡ take (len bs) bs ∷ fields_in (drop (len bs + 1) bs)) → cond (not t) (1 + len bs) 0 < suc (length bs)
        → cond t ([] ∷ fields_in bs) (begun_with b (fields_in bs)) ≡ take (cond (not t) (1 + len bs) 0) (b ∷ bs) ∷ fields_in (drop (cond (not t) (1 + len bs) 0 + 1) (b ∷ bs))
    by_test true more h = refl
    by_test false more h =
        let one : 1 + len bs ≡ suc (len bs) = omega arith in
        let two : 1 + len bs + 1 ≡ suc (len bs + 1) = omega arith in
        rw (two, one) (ap (begun_with b) (more (omega (arith, h))))

-- the last field, which nothing ends
whole_field : (text : List ℕ) → text ≢ [] → len text ≡ length text → fields_in text ≡ text ∷ []
unfolding fields_in
whole_field [] some e = absurd (some refl)
whole_field (b ∷ []) some e = by_test (b == 0) e
  where
    by_test : (t : Bool) → cond (not t) (suc 0) 0 ≡ suc 0 → cond t ([] ∷ []) ((b ∷ []) ∷ []) ≡ (b ∷ []) ∷ []
    by_test true h = absurd (omega (arith, h))
    by_test false h = refl
whole_field (b ∷ c ∷ cs) some e = by_test (b == 0) (λ h. whole_field (c ∷ cs) (λ none. absurd (cc)) h) e
  where
    by_test : (t : Bool) → (len (c ∷ cs) ≡ suc (length cs) → fields_in (c ∷ cs) ≡ (c ∷ cs) ∷ []) → cond (not t) (1 + len (c ∷ cs)) 0 ≡ suc (suc (length cs))
        → cond t ([] ∷ fields_in (c ∷ cs)) (begun_with b (fields_in (c ∷ cs))) ≡ (b ∷ c ∷ cs) ∷ []
    by_test true more h = absurd (omega (arith, h))
    by_test false more h = ap (begun_with b) (more (omega (arith, h)))

pub field_cut : (text rest : List ℕ) (n : ℕ) → n ≡ len text → n < length text → rest ≡ drop (n + 1) text → fields_in text ≡ take n text ∷ fields_in rest
field_cut text rest n e low is = rw (is, e) (ended_field text (omega (arith, e, low)))

pub last_field : (text rest : List ℕ) (n : ℕ) → text ≢ [] → n ≡ len text → n ≡ length text → rest ≡ drop n text → fields_in text ≡ take n text ∷ fields_in rest
unfolding fields_in
last_field text rest n some e all is =
    rw (is, drop_all n text (omega (arith, all)), take_all n text (omega (arith, all))) (whole_field text some (sym e ∙ all))

-- ---- pairs

pub pairs_append : (xs : List Pair) (y : Pair) (rest : Option (List Pair)) → option_map (λ more. (xs ++ y ∷ []) ++ more) rest ≡ option_map (λ more. xs ++ more) (option_map (λ more. y ∷ more) rest)
pairs_append xs y None = refl
pairs_append xs y (Some more) = ap Some (append_assoc xs (y ∷ []) more)

pub is_pair : (o : Option Pair) (pair : Pair) → or_fault WrongWords o ≡ Ok pair → o ≡ Some pair
is_pair None pair e = absurd (cc)
is_pair (Some p) pair e = cc

is_no_pair : (o : Option Pair) (fault : ScriptFault) → or_fault WrongWords o ≡ Err fault → (o ≡ None) × (fault ≡ WrongWords)
is_no_pair None fault e = (refl, cc)
is_no_pair (Some p) fault e = absurd (cc)

-- no pair was read so far
pub none_read : (o : Option (List Pair)) → option_map (λ more. [] ++ more) o ≡ o
none_read None = refl
none_read (Some more) = refl

-- one more pair was read
pub pair_read : (text rest after field : List ℕ) (items : List Pair) (pair : Pair)
    → option_map (λ more. items ++ more) (pairs_in (fields_in rest)) ≡ pairs_in (fields_in text) → fields_in rest ≡ field ∷ fields_in after
    → or_fault WrongWords (pair_of field) ≡ Ok pair
    → option_map (λ more. (items ++ pair ∷ []) ++ more) (pairs_in (fields_in after)) ≡ pairs_in (fields_in text)
unfolding pairs_in
pair_read text rest after field items pair so_far cut is =
    pairs_append items pair (pairs_in (fields_in after))
    ∙ ap (λ (o : Option Pair). option_map (λ more. items ++ more) (option_and_then (λ pair. option_map (λ more. pair ∷ more) (pairs_in (fields_in after))) o)) (sym (is_pair (pair_of field) pair is))
    ∙ ap (λ (fields : List (List ℕ)). option_map (λ more. items ++ more) (pairs_in fields)) (sym cut) ∙ so_far

-- a lone field's pair
pub lone_field : (text : List ℕ) (pair : Pair) → text ≢ [] → len text ≡ length text → pair_of text ≡ Some pair → pairs_in (fields_in text) ≡ Some (pair ∷ [])
unfolding pairs_in
lone_field text pair some all is =
    ap pairs_in (whole_field text some all)
    ∙ ap (option_and_then (λ pair. option_map (λ more. pair ∷ more) (Some []))) is

-- a field is no pair
pub no_pair_read : (error : LineError) (text rest after field : List ℕ) (items : List Pair)
    → option_map (λ more. items ++ more) (pairs_in (fields_in rest)) ≡ pairs_in (fields_in text) → fields_in rest ≡ field ∷ fields_in after
    → Fails error (or_fault WrongWords (pair_of field)) → Fails error (or_fault WrongWords (pairs_in (fields_in text)))
unfolding pairs_in
no_pair_read Memory text rest after field items so_far cut fails = tt
no_pair_read (Fault fault) text rest after field items so_far cut fails =
    let none = is_no_pair (pair_of field) fault fails in
    ap (or_fault WrongWords) (sym so_far ∙ ap (λ (fields : List (List ℕ)). option_map (λ more. items ++ more) (pairs_in fields)) cut
    ∙ ap (λ (o : Option Pair). option_map (λ more. items ++ more) (option_and_then (λ pair. option_map (λ more. pair ∷ more) (pairs_in (fields_in after))) o)) none.0) ∙ ap Err (sym none.1)

is_nil : (xs : List ℕ) → (length xs == 0) ≡ true → xs ≡ []
is_nil [] e = refl
is_nil (b ∷ bs) e = absurd (omega (arith, eqb-true (length (b ∷ bs)) 0 e))

-- all pairs were read
pub all_read : (text rest : List ℕ) (items : List Pair) → option_map (λ more. items ++ more) (pairs_in (fields_in rest)) ≡ pairs_in (fields_in text) → (length rest == 0) ≡ true
    → or_fault WrongWords (pairs_in (fields_in text)) ≡ Ok items
unfolding fields_in pairs_in
all_read text rest items so_far none =
    ap (or_fault WrongWords) (sym so_far ∙ ap (λ (rest : List ℕ). option_map (λ more. items ++ more) (pairs_in (fields_in rest))) (is_nil rest none)) ∙ ap Ok (append-nil items)

pub gives_err : {A B : Type 0} (seen : A → B) (r : Result A LineError) (error : LineError) (read : Result B ScriptFault) → IsErrAnd r (λ e. e ≡ error) → Fails error read
    → Gives seen r read
gives_err seen (Ok a) error read is fails = absurd is
gives_err seen (Err e) error read is fails = subst (λ x. Fails x read) (sym is) fails
