-- Open files that keep the text that their reads give.
use Rattle.std.proofs.Common.{◌≡◌, ◌⊎◌, inl, inr, ℕ, ◌==◌, ◌<◌, zero, suc, nat_lt, Bool, true, false, if◌then◌else◌, is_none, get_or, ltb-true, List, [], ◌∷◌, ◌++◌, length, set, Option, Some, None, unwrap_or, refl, sym, ap, ◌∙◌, arith}
use Rattle.std.proofs.lemmas.Bool.{eq-eqb, eqb-true, false≢true}
use Rattle.std.proofs.lemmas.List.Quantifiers.{position-Some}
use Rattle.std.specs.List.{position}
use Rattle.mount_replies.specs.Services.{OpenSeen, file_at, free_handle, text_at, with_change, with_file, without_file}

-- what holds of both holds of the one that is chosen
pub either : {A : Type 0} (P : A → Type 0) (t : Bool) (one other : A) → P one → P other → P (if t then one else other)
either P true one other first second = first
either P false one other first second = second

-- a file that is open before and after keeps its text
abbrev pub IsKept : ℕ → List (Option OpenSeen) → List (Option OpenSeen) → Type 0
IsKept handle files now = (old new : OpenSeen) → file_at handle files ≡ Some old → file_at handle now ≡ Some new → text_at handle now ≡ text_at handle files

pub same-kept : (handle : ℕ) (files : List (Option OpenSeen)) → IsKept handle files files
same-kept handle files old new was is = refl

-- ---- changes

-- a change that leaves the text
pub changed-text : (change : OpenSeen → OpenSeen) → ((file : OpenSeen) → (change file).text ≡ file.text) → (files : List (Option OpenSeen)) (handle other : ℕ)
    → text_at handle (with_change change other files) ≡ text_at handle files
changed-text change leaves [] handle zero = refl
changed-text change leaves [] handle (suc other) = refl
changed-text change leaves (None ∷ files) zero zero = refl
changed-text change leaves (Some file ∷ files) zero zero = leaves file
changed-text change leaves (first ∷ files) zero (suc other) = refl
changed-text change leaves (first ∷ files) (suc handle) zero = refl
changed-text change leaves (first ∷ files) (suc handle) (suc other) = changed-text change leaves files handle other

pub change-kept : (change : OpenSeen → OpenSeen) → ((file : OpenSeen) → (change file).text ≡ file.text) → (handle other : ℕ) (files : List (Option OpenSeen))
    → IsKept handle files (with_change change other files)
change-kept change leaves handle other files old new was is = changed-text change leaves files handle other

suc-apart : (a b : ℕ) → (suc a == suc b) ≡ false → (a == b) ≡ false
suc-apart a b apart = by (a == b) refl
  where
    by : (t : Bool) → (a == b) ≡ t → t ≡ false
    by false e = refl
    by true e = absurd (false≢true (sym apart ∙ eq-eqb (suc a) (suc b) (ap suc (eqb-true a b e))))

-- any change of another file
other-text : (change : OpenSeen → OpenSeen) (files : List (Option OpenSeen)) (handle other : ℕ) → (other == handle) ≡ false
    → text_at handle (with_change change other files) ≡ text_at handle files
other-text change [] handle zero apart = refl
other-text change [] handle (suc other) apart = refl
other-text change (first ∷ files) zero zero apart = absurd (false≢true (sym apart))
other-text change (first ∷ files) zero (suc other) apart = refl
other-text change (first ∷ files) (suc handle) zero apart = refl
other-text change (first ∷ files) (suc handle) (suc other) apart = other-text change files handle other (suc-apart other handle apart)

pub other-kept : (change : OpenSeen → OpenSeen) (handle other : ℕ) (files : List (Option OpenSeen)) → (other == handle) ≡ false
    → IsKept handle files (with_change change other files)
other-kept change handle other files apart old new was is = other-text change files handle other apart

-- ---- files that are opened or closed

pub closed-kept : (handle other : ℕ) (files : List (Option OpenSeen)) → IsKept handle files (without_file other files)
closed-kept handle zero [] old new was is = refl
closed-kept handle (suc other) [] old new was is = refl
closed-kept zero zero (first ∷ files) old new was is = absurd (let no : None ≡ Some new = is in cc)
closed-kept zero (suc other) (first ∷ files) old new was is = refl
closed-kept (suc handle) zero (first ∷ files) old new was is = refl
closed-kept (suc handle) (suc other) (first ∷ files) old new was is = closed-kept handle other files old new was is

put-text : (files : List (Option OpenSeen)) (handle other : ℕ) (file : OpenSeen) → (file_at handle files ≡ None) ⊎ ((other == handle) ≡ false)
    → (old : OpenSeen) → file_at handle files ≡ Some old → text_at handle (set files other (Some file)) ≡ text_at handle files
put-text files handle other file (inl none) old was = absurd (let no : None ≡ Some old = sym none ∙ was in cc)
put-text [] handle zero file (inr apart) old was = refl
put-text [] handle (suc other) file (inr apart) old was = refl
put-text (first ∷ files) zero zero file (inr apart) old was = absurd (false≢true (sym apart))
put-text (first ∷ files) zero (suc other) file (inr apart) old was = refl
put-text (first ∷ files) (suc handle) zero file (inr apart) old was = refl
put-text (first ∷ files) (suc handle) (suc other) file (inr apart) old was = put-text files handle other file (inr (suc-apart other handle apart)) old was

more-text : (files : List (Option OpenSeen)) (handle : ℕ) (file old : OpenSeen) → file_at handle files ≡ Some old
    → text_at handle (files ++ Some file ∷ []) ≡ text_at handle files
more-text [] zero file old was = absurd (let no : None ≡ Some old = was in cc)
more-text [] (suc handle) file old was = absurd (let no : None ≡ Some old = was in cc)
more-text (first ∷ files) zero file old was = refl
more-text (first ∷ files) (suc handle) file old was = more-text files handle file old was

none-there : (slot : Option OpenSeen) → is_none slot ≡ true → slot ≡ None
none-there None is = refl
none-there (Some file) is = absurd (cc)

slot-none : (files : List (Option OpenSeen)) (handle : ℕ) → get_or files handle None ≡ None → file_at handle files ≡ None
slot-none [] zero none = refl
slot-none [] (suc handle) none = refl
slot-none (first ∷ files) zero none = none
slot-none (first ∷ files) (suc handle) none = slot-none files handle none

-- the handle that is given next has no file
free-is : (files : List (Option OpenSeen)) (handle : ℕ) (old : OpenSeen) → file_at handle files ≡ Some old
    → nat_lt (free_handle files) (length files) ≡ true → (file_at handle files ≡ None) ⊎ ((free_handle files == handle) ≡ false)
free-is files handle old was within = by (position (λ (file : Option OpenSeen). is_none file) files) refl within
  where
    by : (o : Option ℕ) → position (λ (file : Option OpenSeen). is_none file) files ≡ o → nat_lt (unwrap_or o (length files)) (length files) ≡ true
        → (file_at handle files ≡ None) ⊎ ((unwrap_or o (length files) == handle) ≡ false)
    by None at low = absurd (let less : length files < length files = ltb-true (length files) (length files) low in omega (arith, less))
    by (Some i) at low = by_same (i == handle) refl
      where
        by_same : (t : Bool) → (i == handle) ≡ t → (file_at handle files ≡ None) ⊎ (t ≡ false)
        by_same false e = inr refl
        by_same true e =
            let none : get_or files i None ≡ None =
            none-there (get_or files i None) (position-Some (λ (file : Option OpenSeen). is_none file) files i None at).1 in
            inl (slot-none files handle (ap (λ (n : ℕ). get_or files n None) (sym (eqb-true i handle e)) ∙ none))

pub opened-kept : (handle : ℕ) (file : OpenSeen) (files : List (Option OpenSeen)) → IsKept handle files (with_file (free_handle files) file files)
opened-kept handle file files old new was is = by (nat_lt (free_handle files) (length files)) refl
  where
    by : (t : Bool) → nat_lt (free_handle files) (length files) ≡ t
        → text_at handle (if t then set files (free_handle files) (Some file) else files ++ Some file ∷ []) ≡ text_at handle files
    by false e = more-text files handle file old was
    by true e = put-text files handle (free_handle files) file (free-is files handle old was e) old was
