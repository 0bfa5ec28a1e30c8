-- The words that are found in a text byte by byte are those of the parts that it is written of.
use Rattle.std.proofs.Common.{◌≡◌, ◌↔◌, ℕ, Bool, ◌+◌, ◌<◌, ◌||◌, ◌==◌, not, true, false, List, [], ◌∷◌, ◌++◌, length, take, drop, flat_map, refl, sym, ap, ◌∙◌, subst, arith}
use Rattle.std.proofs.Math.Seq.{take-append_seam, drop-append_seam}
use Rattle.std.proofs.lemmas.Bool.{cond-true, cond-false, eqb-true}
use Rattle.std.proofs.lemmas.List.{length-append}
use Rattle.std.proofs.lemmas.List.Elements.{All-nil, All-cons, All-head, All-tail}
use Rattle.std.specs.List.{AllPass}
use Rattle.trace_lex.specs.Blanks.{is_blank}
use Rattle.trace_format.specs.Words.{Spot, is_word_byte, semicolon, more_of, spots_from, spots_of}
use Rattle.trace_format.specs.WordParts.{TextPart, Blank, Semicolon, Word, MayPrecede, AreParts, part_text, parts_spots, IsWritten}
use Rattle.trace_lex.proofs.Lists.{BeginsNot, run_ends}
use Rattle.trace_format.proofs.WordLemmas.{skipped}

-- ---- what is written is found

-- as AllPass says it of each byte
abbrev IsWordByte : ℕ → Type 0
IsWordByte b = is_word_byte b ≡ true

-- what may stand behind a word begins no word
behind_word : (bytes : List ℕ) (parts : List TextPart) → AreParts parts → MayPrecede (Word bytes) parts → BeginsNot is_word_byte (flat_map part_text parts)
behind_word bytes [] are may = tt
behind_word bytes (Blank byte ∷ parts) are may = ap (λ t. not (t || (byte == 59))) are.0
behind_word bytes (Semicolon ∷ parts) are may = refl
behind_word bytes (Word others ∷ parts) are may = absurd may

-- a byte of a word is no blank and no `;`
word_byte : (b : ℕ) → is_word_byte b ≡ true → (is_blank b ≡ false) × ((b == 59) ≡ false)
word_byte b h = by (is_blank b) (b == 59) h
  where
    by : (blank last : Bool) → not (blank || last) ≡ true → (blank ≡ false) × (last ≡ false)
    by true last h = absurd (cc)
    by false true h = absurd (cc)
    by false false h = (refl, refl)

-- a word at the front of a text is its first
word_found : (before bytes rest : List ℕ) → 0 < length bytes → AllPass is_word_byte bytes → BeginsNot is_word_byte rest
    → spots_from 0 (length before) (bytes ++ rest) ≡ record { at = length before; word = bytes } ∷ spots_from 0 (length (before ++ bytes)) rest
word_found before [] rest some all none = absurd (omega (arith, some))
word_found before (b ∷ bytes) rest some all none =
    let passes : is_word_byte b ≡ true = All-head IsWordByte b bytes all in
    let more : more_of b (bytes ++ rest) ≡ length bytes = cond-false _ _ _ (word_byte b passes).1 ∙ run_ends is_word_byte bytes rest (All-tail IsWordByte b bytes all) none in
    let at = length before in
    let offset : at + 1 + length bytes ≡ length (before ++ b ∷ bytes) = omega (arith, length-append before (b ∷ bytes)) in
    let word : take (more_of b (bytes ++ rest)) (bytes ++ rest) ≡ bytes = ap (λ n. take n (bytes ++ rest)) more ∙ take-append_seam bytes rest in
    let others : spots_from (more_of b (bytes ++ rest)) (at + 1) (bytes ++ rest) ≡ spots_from 0 (length (before ++ b ∷ bytes)) rest =
    ap (λ n. spots_from n (at + 1) (bytes ++ rest)) more ∙ skipped (length bytes) (at + 1) (bytes ++ rest)
    ∙ ap (λ n. spots_from 0 n (drop (length bytes) (bytes ++ rest))) offset ∙ ap (spots_from 0 (length (before ++ b ∷ bytes))) (drop-append_seam bytes rest) in
    cond-false _ _ _ (word_byte b passes).0 ∙ (λ i. record { at = at; word = b ∷ word i } ∷ others i)

-- an offset behind one byte more
one_more : (before : List ℕ) (b : ℕ) → length before + 1 ≡ length (before ++ b ∷ [])
one_more before b = omega (arith, length-append before (b ∷ []))

-- from the offset behind the text before them, the words of parts are found
parts_found : (before : List ℕ) (parts : List TextPart) → AreParts parts → spots_from 0 (length before) (flat_map part_text parts) ≡ parts_spots before parts
parts_found before [] are = refl
parts_found before (Blank byte ∷ parts) are =
    cond-true _ _ _ are.0 ∙ ap (λ n. spots_from 0 n (flat_map part_text parts)) (one_more before byte) ∙ parts_found (before ++ byte ∷ []) parts are.2
parts_found before (Semicolon ∷ parts) are =
    ap (λ spots. record { at = length before; word = semicolon } ∷ spots)
    (ap (λ n. spots_from 0 n (flat_map part_text parts)) (one_more before 59) ∙ parts_found (before ++ semicolon) parts are.2)
parts_found before (Word bytes ∷ parts) are =
    word_found before bytes (flat_map part_text parts) are.0.0 are.0.1 (behind_word bytes parts are.2 are.1)
    ∙ ap (λ spots. record { at = length before; word = bytes } ∷ spots) (parts_found (before ++ bytes) parts are.2)

-- ---- each text is written of parts

-- parts that are written as the text
record HasParts (text : List ℕ) : Type 0 where
  parts : List TextPart
  lawful : AreParts parts
  written : flat_map part_text parts ≡ text

blank_first : (b : ℕ) (bs : List ℕ) → is_blank b ≡ true → HasParts bs → HasParts (b ∷ bs)
blank_first b bs is rest = record { parts = Blank b ∷ rest.parts; lawful = (is, free rest.parts, rest.lawful); written = ap (λ (text : List ℕ). b ∷ text) rest.written }
  where
    free : (parts : List TextPart) → MayPrecede (Blank b) parts
    free [] = tt
    free (Blank byte ∷ parts) = tt
    free (Semicolon ∷ parts) = tt
    free (Word bytes ∷ parts) = tt

semicolon_first : (bs : List ℕ) → HasParts bs → HasParts (59 ∷ bs)
semicolon_first bs rest = record { parts = Semicolon ∷ rest.parts; lawful = (tt, free rest.parts, rest.lawful); written = ap (λ (text : List ℕ). 59 ∷ text) rest.written }
  where
    free : (parts : List TextPart) → MayPrecede Semicolon parts
    free [] = tt
    free (Blank byte ∷ parts) = tt
    free (Semicolon ∷ parts) = tt
    free (Word bytes ∷ parts) = tt

-- a byte of a word joins the word behind it, if there is one
word_byte_first : (b : ℕ) (bs : List ℕ) (parts : List TextPart) → is_word_byte b ≡ true → AreParts parts → flat_map part_text parts ≡ bs → HasParts (b ∷ bs)
word_byte_first b bs [] is are e = record { parts = Word (b ∷ []) ∷ []; lawful = ((omega arith, All-cons IsWordByte b [] is (All-nil IsWordByte)), tt, tt); written = ap (λ (text : List ℕ). b ∷ text) e }
word_byte_first b bs (Blank byte ∷ parts) is are e =
    record { parts = Word (b ∷ []) ∷ Blank byte ∷ parts; lawful = ((omega arith, All-cons IsWordByte b [] is (All-nil IsWordByte)), tt, are); written = ap (λ (text : List ℕ). b ∷ text) e }
word_byte_first b bs (Semicolon ∷ parts) is are e =
    record { parts = Word (b ∷ []) ∷ Semicolon ∷ parts; lawful = ((omega arith, All-cons IsWordByte b [] is (All-nil IsWordByte)), tt, are); written = ap (λ (text : List ℕ). b ∷ text) e }
word_byte_first b bs (Word bytes ∷ parts) is are e =
    record { parts = Word (b ∷ bytes) ∷ parts; lawful = ((omega arith, All-cons IsWordByte b bytes is are.0.1), longer parts are.1, are.2); written = ap (λ (text : List ℕ). b ∷ text) e }
  where
    longer : (parts : List TextPart) → MayPrecede (Word bytes) parts → MayPrecede (Word (b ∷ bytes)) parts
    longer [] may = tt
    longer (Blank byte ∷ parts) may = tt
    longer (Semicolon ∷ parts) may = tt
    longer (Word others ∷ parts) may = absurd may

parts_of : (text : List ℕ) → HasParts text
parts_of [] = record { parts = []; lawful = tt; written = refl }
parts_of (b ∷ bs) = by (parts_of bs) (is_blank b) (b == 59) refl refl
  where
    by : HasParts bs → (blank last : Bool) → is_blank b ≡ blank → (b == 59) ≡ last → HasParts (b ∷ bs)
    by rest true last e f = blank_first b bs e rest
    by rest false true e f = subst (λ n. HasParts (n ∷ bs)) (sym (eqb-true b 59 f)) (semicolon_first bs rest)
    by rest false false e f = word_byte_first b bs rest.parts (rw (e, f) refl) rest.lawful rest.written

-- ---- the law

pub words_are_as_written : (text : List ℕ) → (spots : List Spot) → IsWritten text spots ↔ (spots ≡ spots_of text)
words_are_as_written text spots = (
  λ w. sym w.meaning ∙ sym (parts_found [] w.parts w.lawful) ∙ ap (spots_from 0 0) w.written,
  λ e.
      let some = parts_of text in
      record { parts = some.parts; lawful = some.lawful; written = some.written; meaning = sym (parts_found [] some.parts some.lawful) ∙ ap (spots_from 0 0) some.written ∙ sym e },
)
