-- Which keys are distinct.
use Rattle.std.proofs.Common.{◌≡◌, Bool, true, false, not, ◌||◌, inl, inr, List, [], ◌∷◌, ◌++◌, filter, refl, sym, ap, ◌∙◌}
use Rattle.std.proofs.lemmas.Bool.{cond-true, cond-false, cases_Bool}
use Rattle.std.proofs.lemmas.List.{append-nil}
use Rattle.std.proofs.lemmas.List.Elements.{filter-append}
use Rattle.std.proofs.lemmas.Map.Views.{any-filter_same}
use Rattle.trace_format.specs.Cells.{Datum}
use Rattle.hist_entries.specs.HistEntries.{same_key, is_among}
use Rattle.hist_entries.proofs.Keys.{key_decided, key-refl, not_same}
use Rattle.trace_hist.specs.Groups.{distinct}

-- a key of the distinct ones is one of the keys
pub is_among-distinct : (keys : List (List Datum)) (key : List Datum) → is_among (distinct keys) key ≡ is_among keys key
is_among-distinct [] key = refl
is_among-distinct (first ∷ keys) key =
    elim (cases_Bool (same_key key first)) [
      | inl alike ↦ rw alike refl
      | inr apart ↦
          let rest : is_among (filter (λ other. not (same_key first other)) (distinct keys)) key ≡ is_among (distinct keys) key =
          any-filter_same (same_key key) (λ other. not (same_key first other)) true
          (λ other same. ap not (ap (same_key first) (sym ((key_decided key other).0 same)) ∙ not_same key first apart)) (distinct keys) in
          ap (λ b. same_key key first || b) (rest ∙ is_among-distinct keys key)
    ]

-- a new key is the last of the distinct ones
pub distinct-new : (keys : List (List Datum)) (key : List Datum) → is_among keys key ≡ false → distinct (keys ++ key ∷ []) ≡ distinct keys ++ key ∷ []
distinct-new [] key h = refl
distinct-new (first ∷ keys) key h =
    let p : List Datum → Bool = λ other. not (same_key first other) in
    let other : same_key key first ≡ false = elim (cases_Bool (same_key key first)) [
      | inr apart ↦ apart
      | inl alike ↦ let clash = sym h ∙ ap (λ b. b || is_among keys key) alike in cc
    ] in
    let new : is_among keys key ≡ false = sym (ap (λ b. b || is_among keys key) other) ∙ h in
    let kept : p key ≡ true = ap not (not_same key first other) in
    ap (λ l. first ∷ filter p l) (distinct-new keys key new)
    ∙ ap (λ l. first ∷ l) (filter-append p (distinct keys) (key ∷ [])
    ∙ ap (λ l. filter p (distinct keys) ++ l) (cond-true _ (key ∷ []) [] kept))

-- a known key is none of them
pub distinct-known : (keys : List (List Datum)) (key : List Datum) → is_among keys key ≡ true → distinct (keys ++ key ∷ []) ≡ distinct keys
distinct-known [] key h = cc
distinct-known (first ∷ keys) key h =
    let p : List Datum → Bool = λ other. not (same_key first other) in
    elim (cases_Bool (is_among keys key)) [
      | inl later ↦ ap (λ l. first ∷ filter p l) (distinct-known keys key later)
      | inr new ↦
          elim (cases_Bool (same_key key first)) [
            | inr apart ↦ let clash = sym h ∙ ap (λ b. b || is_among keys key) apart ∙ new in cc
            | inl alike ↦
                let out : p key ≡ false = ap not (ap (λ k. same_key first k) ((key_decided key first).0 alike) ∙ key-refl first) in
                ap (λ l. first ∷ filter p l) (distinct-new keys key new)
                ∙ ap (λ l. first ∷ l) (filter-append p (distinct keys) (key ∷ [])
                ∙ ap (λ l. filter p (distinct keys) ++ l) (cond-false _ (key ∷ []) [] out) ∙ append-nil (filter p (distinct keys)))
          ]
    ]
