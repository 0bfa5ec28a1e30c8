-- Steps of the loops that go over an event's fields.
use Rattle.std.proofs.Common.{◌≡◌, ℕ, ◌+◌, ◌<◌, ◌≤◌, Bool, false, ◌==◌, if◌then◌else◌, List, [], ◌∷◌, ◌++◌, length, get_or, take, drop, map, filter_map, Option, None, Some, is_some, option_map, option_and_then, refl, sym, ap, ◌∙◌, append_assoc, arith, le-ltb, lt-ltb}
use Rattle.std.specs.List.{cons_option}
use Rattle.std.proofs.lemmas.Bool.{cond-true, cond-false}
use Rattle.std.proofs.lemmas.Bool.Decides.{nat_tests}
use Rattle.std.proofs.lemmas.List.{append-nil, drop_all, drop_more}
use Rattle.trace_format.specs.declared.kind.Kind.{Kind}
use Rattle.trace_format.specs.declared.event.Field.{Field}
use Rattle.trace_format.specs.declared.pair.Pair.{Pair}
use Rattle.trace_format.specs.declared.value.Value.{Value}
use Rattle.trace_format.specs.Kinds.{size_of}
use Rattle.trace_format.specs.Cells.{Datum, datum_of}
use Rattle.trace_format.specs.Decoding.{field_from, values_from}
use Rattle.trace_format.specs.Rows.{first_missing, given}

-- what is left begins with the element of an index
pub left : {X : Type 0} (xs : List X) (i : ℕ) (x : X) → i < length xs → x ≡ get_or xs i x → drop i xs ≡ x ∷ drop (i + 1) xs
left xs i x within is = drop_more xs i x within ∙ ap (λ y. y ∷ drop (i + 1) xs) (sym is)

-- a list of all: one more, and the whole
pub one_more : {X : Type 0} (xs : List X) (i : ℕ) (x : X) (found : List X) → i < length xs → x ≡ get_or xs i x → found ++ drop i xs ≡ xs → (found ++ x ∷ []) ++ drop (i + 1) xs ≡ xs
one_more xs i x found within is so_far = append_assoc found (x ∷ []) (drop (i + 1) xs) ∙ ap (λ rest. found ++ rest) (sym (left xs i x within is)) ∙ so_far

pub all_taken : {X : Type 0} (xs : List X) (i : ℕ) (found : List X) → length xs ≤ i → found ++ drop i xs ≡ xs → found ≡ xs
all_taken xs i found all so_far = sym (append-nil found) ∙ ap (λ rest. found ++ rest) (sym (drop_all i xs all)) ∙ so_far

map-push : {X Y : Type 0} (f : X → Y) (xs : List X) (x : X) → map f (xs ++ x ∷ []) ≡ map f xs ++ f x ∷ []
map-push f [] x = refl
map-push f (y ∷ ys) x = ap (λ zs. f y ∷ zs) (map-push f ys x)

-- an element goes from the front of what is left to the end of what was found
pub moved : {X Y : Type 0} (f : X → Y) (found : List X) (x : X) (left : List Y) → map f (found ++ x ∷ []) ++ left ≡ map f found ++ f x ∷ left
moved f found x left = ap (λ front. front ++ left) (map-push f found x) ∙ append_assoc (map f found) (f x ∷ []) left

pub moved_where : {X Y : Type 0} (f : X → Y) (found : List X) (x : X) (left : Option (List Y))
    → option_map (λ ys. map f (found ++ x ∷ []) ++ ys) left ≡ option_map (λ ys. map f found ++ ys) (option_map (λ ys. f x ∷ ys) left)
moved_where f found x None = refl
moved_where f found x (Some ys) = ap Some (moved f found x ys)

-- a list of types: one more, and all
pub kind_more : (fields : List Field) (i : ℕ) (field : Field) (kinds : List Kind) → i < length fields → field ≡ get_or fields i field
    → kinds ++ map (λ (f : Field). f.kind) (drop i fields) ≡ map (λ (f : Field). f.kind) fields
    → (kinds ++ field.kind ∷ []) ++ map (λ (f : Field). f.kind) (drop (i + 1) fields) ≡ map (λ (f : Field). f.kind) fields
kind_more fields i field kinds within is so_far =
    append_assoc kinds (field.kind ∷ []) (map (λ (f : Field). f.kind) (drop (i + 1) fields))
    ∙ ap (λ fs. kinds ++ map (λ (f : Field). f.kind) fs) (sym (left fields i field within is)) ∙ so_far

pub kinds_done : (fields : List Field) (i : ℕ) (kinds : List Kind) → length fields ≤ i
    → kinds ++ map (λ (f : Field). f.kind) (drop i fields) ≡ map (λ (f : Field). f.kind) fields → kinds ≡ map (λ (f : Field). f.kind) fields
kinds_done fields i kinds all so_far =
    sym (append-nil kinds) ∙ ap (λ fs. kinds ++ map (λ (f : Field). f.kind) fs) (sym (drop_all i fields all)) ∙ so_far

-- ---- values that bytes write

module _ (fields : List Field) (i : ℕ) (rest : List ℕ) (found : List Value) (all : Option (List Datum))
    (so_far : option_map (λ values. map datum_of found ++ values) (values_from (map (λ (f : Field). f.kind) (drop i fields)) rest) ≡ all) where
  -- nothing is found where nothing is left to be found
  not_left : values_from (map (λ (f : Field). f.kind) (drop i fields)) rest ≡ None → None ≡ all
  not_left none = sym (ap (option_map (λ values. map datum_of found ++ values)) none) ∙ so_far

  module _ (field : Field) (within : i < length fields) (is : field ≡ get_or fields i field) where
    here : values_from (map (λ (f : Field). f.kind) (drop i fields)) rest ≡ values_from (field.kind ∷ map (λ (f : Field). f.kind) (drop (i + 1) fields)) rest
    here = ap (λ fs. values_from (map (λ (f : Field). f.kind) fs) rest) (left fields i field within is)

    -- too few bytes are left for a field
    pub too_few : length rest < size_of field.kind → None ≡ all
    too_few few = not_left (here ∙ cond-true _ _ _ (lt-ltb _ _ few))

    -- there are enough, of which the field's value is this
    read : (value : Option Datum) → size_of field.kind ≤ length rest → value ≡ field_from field.kind (take (size_of field.kind) rest)
        → values_from (map (λ (f : Field). f.kind) (drop i fields)) rest
        ≡ option_and_then (λ v. option_map (λ vs. v ∷ vs) (values_from (map (λ (f : Field). f.kind) (drop (i + 1) fields)) (drop (size_of field.kind) rest))) value
    read value room given_by =
        here ∙ cond-false _ _ _ (le-ltb _ _ room)
        ∙ ap (option_and_then (λ v. option_map (λ vs. v ∷ vs) (values_from (map (λ (f : Field). f.kind) (drop (i + 1) fields)) (drop (size_of field.kind) rest)))) (sym given_by)

    pub no_value : size_of field.kind ≤ length rest → None ≡ field_from field.kind (take (size_of field.kind) rest) → None ≡ all
    no_value room none = not_left (read None room none)

    pub value_more : (value : Value) → size_of field.kind ≤ length rest → Some (datum_of value) ≡ field_from field.kind (take (size_of field.kind) rest)
        → option_map (λ values. map datum_of (found ++ value ∷ []) ++ values) (values_from (map (λ (f : Field). f.kind) (drop (i + 1) fields)) (drop (size_of field.kind) rest)) ≡ all
    value_more value room some =
        moved_where datum_of found value (values_from (map (λ (f : Field). f.kind) (drop (i + 1) fields)) (drop (size_of field.kind) rest))
        ∙ ap (option_map (λ values. map datum_of found ++ values)) (sym (read (Some (datum_of value)) room some)) ∙ so_far

  -- with no field left the bytes have to be at their end
  pub values_done : length fields ≤ i → (at_end : Bool) → at_end ≡ (length rest == 0) → (if at_end then Some (map datum_of found) else None) ≡ all
  values_done no_more at_end is =
      by rest is (ap (λ fs. option_map (λ values. map datum_of found ++ values) (values_from (map (λ (f : Field). f.kind) fs) rest)) (sym (drop_all i fields no_more)) ∙ so_far)
    where
      by : (bytes : List ℕ) → at_end ≡ (length bytes == 0) → option_map (λ values. map datum_of found ++ values) (values_from [] bytes) ≡ all
          → (if at_end then Some (map datum_of found) else None) ≡ all
      by [] end h = ap (λ b. if b then Some (map datum_of found) else None) end ∙ ap Some (sym (append-nil (map datum_of found))) ∙ h
      by (b ∷ bytes) end h =
          let more : (length (b ∷ bytes) == 0) ≡ false = grind (arith, nat_tests) in
          ap (λ b. if b then Some (map datum_of found) else None) (end ∙ more) ∙ h

-- ---- values that pairs give

module _ (fields : List Field) (pairs : List Pair) (i : ℕ) where
  module _ (field : Field) (within : i < length fields) (is : field ≡ get_or fields i field) where
    -- a field that is missing is the first
    pub missing_here : first_missing (drop i fields) pairs ≡ first_missing fields pairs → None ≡ given pairs field → first_missing fields pairs ≡ Some field.name
    missing_here so_far none =
        sym so_far ∙ ap (λ fs. first_missing fs pairs) (left fields i field within is)
        ∙ ap (λ value. if is_some value then first_missing (drop (i + 1) fields) pairs else Some field.name) (sym none)

    pub missing_later : first_missing (drop i fields) pairs ≡ first_missing fields pairs → (value : Datum) → Some value ≡ given pairs field
        → first_missing (drop (i + 1) fields) pairs ≡ first_missing fields pairs
    missing_later so_far value some =
        ap (λ value. if is_some value then first_missing (drop (i + 1) fields) pairs else Some field.name) some
        ∙ sym (ap (λ fs. first_missing fs pairs) (left fields i field within is)) ∙ so_far

    pub given_more : (found : List Value) (all : List Datum) → map datum_of found ++ filter_map (given pairs) (drop i fields) ≡ all
        → (value : Value) → Some (datum_of value) ≡ given pairs field → map datum_of (found ++ value ∷ []) ++ filter_map (given pairs) (drop (i + 1) fields) ≡ all
    given_more found all so_far value some =
        moved datum_of found value (filter_map (given pairs) (drop (i + 1) fields))
        ∙ ap (λ v. map datum_of found ++ cons_option v (filter_map (given pairs) (drop (i + 1) fields))) some
        ∙ ap (λ fs. map datum_of found ++ filter_map (given pairs) fs) (sym (left fields i field within is)) ∙ so_far

  pub none_missing : length fields ≤ i → first_missing (drop i fields) pairs ≡ first_missing fields pairs → first_missing fields pairs ≡ None
  none_missing no_more so_far = sym so_far ∙ ap (λ fs. first_missing fs pairs) (drop_all i fields no_more)

  pub all_given : length fields ≤ i → (found : List Value) (all : List Datum) → map datum_of found ++ filter_map (given pairs) (drop i fields) ≡ all → map datum_of found ≡ all
  all_given no_more found all so_far =
      sym (append-nil (map datum_of found)) ∙ ap (λ fs. map datum_of found ++ filter_map (given pairs) fs) (sym (drop_all i fields no_more)) ∙ so_far
