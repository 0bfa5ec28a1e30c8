-- Open files that change.
use Rattle.std.proofs.Common.{◌≡◌, ℕ, zero, suc, Bool, true, false, if◌then◌else◌, is_none, is_some, nat_lt, ◌<◌, List, [], ◌∷◌, ◌++◌, length, get_or, unwrap_or, Option, Some, None, set, refl, sym, ap, ◌∙◌, arith}
use Rattle.std.specs.List.{list_any, position}
use Rattle.std.proofs.lemmas.Bool.{lt-ltb}
use Rattle.std.proofs.lemmas.List.{set-get_or, set-set}
use Rattle.std.proofs.lemmas.List.Quantifiers.{position-Some}
use Rattle.std.specs.Option.{option_and_then, option_map}
use Rattle.mount_replies.specs.Services.{OpenSeen, after_reading, file_at, free_handle, has_wakeup, is_read_out, text_at, with_change, with_file, with_reading, without_file}

-- a file is taken out, changed and put back
pub changed : (change : OpenSeen → OpenSeen) (files now after : List (Option OpenSeen)) (handle : ℕ) (file other : OpenSeen)
    → Some file ≡ file_at handle files → now ≡ without_file handle files → other ≡ change file → after ≡ set now handle (Some other)
    → after ≡ with_change change handle files
changed change files now after handle file other found taken is put =
    put ∙ ap (λ (f : List (Option OpenSeen)). set f handle (Some other)) taken ∙ set-set files handle None (Some other)
    ∙ ap (λ (f : OpenSeen). set files handle (Some f)) is ∙ ap (λ (o : Option OpenSeen). set files handle (option_map change o)) found

-- a text that was read to its end is given back
pub given-back : (files now after : List (Option OpenSeen)) (handle offset size : ℕ) (text : List ℕ) (file other : OpenSeen)
    → Some file ≡ file_at handle files → now ≡ without_file handle files
    → ((t : List ℕ) → file.text ≡ Some t → other ≡ record file { text = None; ended = Some (length t) })
    → after ≡ set now handle (Some other) → text_at handle files ≡ Some text → is_read_out offset size text ≡ true
    → after ≡ with_reading offset size text handle files
given-back files now after handle offset size text file other found taken is put has out =
    let own : file.text ≡ Some text = ap (λ (o : Option OpenSeen). option_and_then (λ (f : OpenSeen). f.text) o) found ∙ has in
    let read : other ≡ after_reading offset size text file = is text own ∙ by (is_read_out offset size text) out in
    changed (after_reading offset size text) files now after handle file other found taken read put
  where
    by : (t : Bool) → t ≡ true
        → record file { text = None; ended = Some (length text) }
        ≡ (if t then record file { text = None; ended = Some (length text) } else record file { text = Some text; ended = None })
    by true e = refl
    by false e = absurd (cc)

-- the file of a handle is one
pub same-file : (o : Option OpenSeen) (file other : OpenSeen) → Some file ≡ o → o ≡ Some other → file ≡ other
same-file o file other one two = let same : Some file ≡ Some other = one ∙ two in cc

-- ---- polls that are to be told

pub none-set : (p : Option OpenSeen → Bool) (files : List (Option OpenSeen)) (handle : ℕ) (slot : Option OpenSeen) → list_any p files ≡ false
    → p slot ≡ false → list_any p (set files handle slot) ≡ false
none-set p [] handle slot none is = refl
none-set p (first ∷ files) zero slot none is = grind (arith, none, is)
none-set p (first ∷ files) (suc handle) slot none is =
    let rest : list_any p files ≡ false = grind (arith, none) in
    let more : list_any p (set files handle slot) ≡ false = none-set p files handle slot rest is in
    grind (arith, none, more)

pub none-more : (p : Option OpenSeen → Bool) (files : List (Option OpenSeen)) (slot : Option OpenSeen) → list_any p files ≡ false → p slot ≡ false
    → list_any p (files ++ slot ∷ []) ≡ false
none-more p [] slot none is = rw is refl
none-more p (first ∷ files) slot none is =
    let rest : list_any p files ≡ false = grind (arith, none) in
    let more : list_any p (files ++ slot ∷ []) ≡ false = none-more p files slot rest is in
    grind (arith, none, more)

-- a file that was just opened
pub none-opened : (files : List (Option OpenSeen)) (handle : ℕ) (file : OpenSeen) → list_any has_wakeup files ≡ false → file.polls.wakeup ≡ None
    → list_any has_wakeup (with_file handle file files) ≡ false
none-opened files handle file none is = by (nat_lt handle (length files))
  where
    quiet : has_wakeup (Some file) ≡ false
    quiet = ap (λ (w : Option ℕ). is_some w) is

    by : (t : Bool) → list_any has_wakeup (if t then set files handle (Some file) else files ++ Some file ∷ []) ≡ false
    by true = none-set has_wakeup files handle (Some file) none quiet
    by false = none-more has_wakeup files (Some file) none quiet

-- ---- a file that is taken back

none-there : (slot : Option OpenSeen) → is_none slot ≡ true → slot ≡ None
none-there None is = refl
none-there (Some file) is = absurd (cc)

-- the handle that is given next has no file
free-set : (files : List (Option OpenSeen)) (handle : ℕ) → handle ≡ free_handle files → handle < length files → set files handle None ≡ files
free-set files handle is low = by (position (λ (file : Option OpenSeen). is_none file) files) refl is
  where
    by : (o : Option ℕ) → position (λ (file : Option OpenSeen). is_none file) files ≡ o → handle ≡ unwrap_or o (length files)
        → set files handle None ≡ files
    by None at same = absurd (omega (arith, same, low))
    by (Some i) at same =
        let none : get_or files i None ≡ None =
        none-there (get_or files i None) (position-Some (λ (file : Option OpenSeen). is_none file) files i None at).1 in
        rw same (ap (λ (slot : Option OpenSeen). set files i slot) (sym none) ∙ set-get_or files i None)

pub taken-back : (files before after : List (Option OpenSeen)) (handle count : ℕ) (file : OpenSeen) → count ≡ length before
    → handle ≡ free_handle before → files ≡ with_file handle file before → handle < count → after ≡ set files handle None → after ≡ before
taken-back files before after handle count file many is was low now =
    let below : handle < length before = omega (arith, many, low) in
    let opened : files ≡ set before handle (Some file) = was ∙ (rw (lt-ltb handle (length before) below) refl) in
    now ∙ ap (λ (f : List (Option OpenSeen)). set f handle None) opened ∙ set-set before handle (Some file) None ∙ free-set before handle is below
