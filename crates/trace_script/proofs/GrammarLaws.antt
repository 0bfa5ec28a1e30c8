-- The tokens that are found in a line byte by byte are those that its grammar gives.
use Rattle.std.proofs.Common.{◌≡◌, ◌≢◌, ℕ, Bool, true, false, ◌||◌, ◌==◌, if◌then◌else◌, List, [], ◌∷◌, ◌++◌, Option, Some, None, refl, ap, sym, subst, ◌∙◌, ◌⊎◌, ⊎_elim, arith, append_assoc}
use Rattle.std.proofs.lemmas.List.{append-nil}
use Rattle.std.proofs.lemmas.Bool.{eq-eqb, eqb-true}
use Rattle.std.proofs.lemmas.Bool.Decides.{nat_tests}
use Rattle.std.specs.List.{flat_map, AllByRecursion}
use Rattle.trace_lex.specs.Blanks.{is_blank}
use Rattle.trace_script.specs.Tokens.{LexState, Between, Arrow, InWord, InQuotes, is_quote, is_end, state_of, plain, behind, tokens_from, tokens_of}
use Rattle.trace_script.specs.Grammar.{WordPiece, Plain, Quoted, IsWordPiece, piece_text, piece_value, LinePart, Gap, Redirection, Written, part_text, part_tokens, MayPrecede, IsLine, IsWritten}
use Rattle.trace_script.specs.declared.token.Token.{Token}
use Rattle.trace_script.specs.declared.token.Token.TheVariants.{Word, Redirect}

-- ---- the four kinds of byte

pub data Class : ℕ → Type 0 where
  a_blank : {b : ℕ} → is_blank b ≡ true → is_end b ≡ true → state_of b ≡ Between → plain b ≡ [] → Class b
  an_arrow : {b : ℕ} → b ≡ 62 → is_end b ≡ true → state_of b ≡ Arrow → plain b ≡ [] → Class b
  a_quote : {b : ℕ} → is_quote b ≡ true → is_end b ≡ false → state_of b ≡ InQuotes b → plain b ≡ [] → Class b
  a_plain : {b : ℕ} → is_end b ≡ false → is_quote b ≡ false → state_of b ≡ InWord → plain b ≡ b ∷ [] → Class b

-- the tests of a byte, one by one
class_by : (b : ℕ) (x y z : Bool) → is_blank b ≡ x → (b == 62) ≡ y → is_quote b ≡ z → Class b
class_by b true y z e f g =
    a_blank e
    (ap (λ t. t || (b == 62)) e)
    (ap (λ t. if t then Between else (if b == 62 then Arrow else (if is_quote b then InQuotes b else InWord))) e)
    (ap (λ t. if (t || (b == 62)) || is_quote b then [] else b ∷ []) e)
class_by b false true z e f g = an_arrow (grind (arith, nat_tests)) (rw (e, f)) (rw (e, f)) (rw (e, f))
class_by b false false true e f g = a_quote g (rw (e, f)) (rw (e, f, g)) (rw (e, f, g))
class_by b false false false e f g = a_plain (rw (e, f)) g (rw (e, f, g)) (rw (e, f, g))

pub class_of : (b : ℕ) → Class b
class_of b = class_by b (is_blank b) (b == 62) (is_quote b) refl refl refl

pub blank_leads : (b : ℕ) → is_blank b ≡ true → (state_of b ≡ Between) × (plain b ≡ [])
blank_leads b e = (
  ap (λ t. if t then Between else (if b == 62 then Arrow else (if is_quote b then InQuotes b else InWord))) e,
  ap (λ t. if (t || (b == 62)) || is_quote b then [] else b ∷ []) e,
)

pub plain_leads : (b : ℕ) → is_end b ≡ false → is_quote b ≡ false → (state_of b ≡ InWord) × (plain b ≡ b ∷ [])
plain_leads b e f =
    elim (class_of b) [
      | a_blank p q r s ↦ absurd (cc)
      | an_arrow p q r s ↦ absurd (cc)
      | a_quote p q r s ↦ absurd (cc)
      | a_plain p q r s ↦ (r, s)
    ]

quote_is : (b : ℕ) → is_quote b ≡ true → (b ≡ 39) ⊎ (b ≡ 34)
quote_is b e = grind (arith, nat_tests)

pub quote_leads : (b : ℕ) → is_quote b ≡ true → (is_end b ≡ false) × (state_of b ≡ InQuotes b) × (plain b ≡ [])
quote_leads b e = ⊎_elim (λ h. rw h (refl, refl, refl)) (λ h. rw h (refl, refl, refl)) (quote_is b e)

-- ---- what is written is read

-- where a line goes on with a byte that ends a word, the word is ended
pub word_ends : (w : List ℕ) (b : ℕ) (bs : List ℕ) → is_end b ≡ true → tokens_from InWord w (b ∷ bs) ≡ behind (Word w ∷ []) (tokens_from Between [] (b ∷ bs))
word_ends w b bs e =
    ap (λ t. if t then behind (Word w ∷ []) (tokens_from (state_of b) [] bs) else tokens_from (state_of b) (w ++ plain b) bs) e
    ∙ ap (λ t. behind (Word w ∷ []) (tokens_from (state_of b) (if t || is_quote b then [] else b ∷ []) bs)) (sym e)

-- with any other byte a word goes on
pub word_goes_on : (w : List ℕ) (b : ℕ) (bs : List ℕ) → is_end b ≡ false → tokens_from InWord w (b ∷ bs) ≡ tokens_from (state_of b) (w ++ plain b) bs
word_goes_on w b bs e =
    ap (λ t. if t then behind (Word w ∷ []) (tokens_from (state_of b) [] bs) else tokens_from (state_of b) (w ++ plain b) bs) e

-- a byte leads on, and adds to the word
pub led : (w : List ℕ) (b : ℕ) (bs : List ℕ) (state : LexState) (more : List ℕ) → (state_of b ≡ state) → (plain b ≡ more) → tokens_from (state_of b) (w ++ plain b) bs ≡ tokens_from state (w ++ more) bs
led w b bs state more e f =
    ap (λ (p : LexState). tokens_from p (w ++ plain b) bs) e ∙ ap (λ (v : List ℕ). tokens_from state (w ++ v) bs) f

-- a word begins with any other byte
pub word_begins : (b : ℕ) (bs : List ℕ) → is_end b ≡ false → tokens_from Between [] (b ∷ bs) ≡ tokens_from InWord [] (b ∷ bs)
word_begins b bs e = sym (word_goes_on [] b bs e)

-- behind a `>` that no other follows
pub arrow_alone : (b : ℕ) (bs : List ℕ) → (b == 62) ≡ false → tokens_from Arrow [] (b ∷ bs) ≡ behind (Redirect false ∷ []) (tokens_from Between [] (b ∷ bs))
arrow_alone b bs e =
    ap (λ t. if t then behind (Redirect true ∷ []) (tokens_from Between [] bs) else behind (Redirect false ∷ []) (tokens_from (state_of b) (plain b) bs)) e

other_byte : (b quote : ℕ) → b ≢ quote → (b == quote) ≡ false
other_byte b quote h = grind (arith, nat_tests)

-- up to the closing quote each byte belongs to the word
in_quotes : (quote : ℕ) (w inside rest : List ℕ) → AllByRecursion (λ b. b ≢ quote) inside → tokens_from (InQuotes quote) w (inside ++ (quote ∷ rest)) ≡ tokens_from InWord (w ++ inside) rest
in_quotes quote w [] rest h =
    ap (λ t. if t then tokens_from InWord w rest else tokens_from (InQuotes quote) (w ++ quote ∷ []) rest) (eq-eqb quote quote refl)
    ∙ ap (λ (v : List ℕ). tokens_from InWord v rest) (sym (append-nil w))
in_quotes quote w (b ∷ bs) rest h =
    ap (λ t. if t then tokens_from InWord w (bs ++ (quote ∷ rest)) else tokens_from (InQuotes quote) (w ++ b ∷ []) (bs ++ (quote ∷ rest))) (other_byte b quote h.0)
    ∙ (in_quotes quote (w ++ b ∷ []) bs rest h.1 ∙ ap (λ (v : List ℕ). tokens_from InWord v rest) (append_assoc w (b ∷ []) bs))

-- a piece that goes on with a word
piece_read : (piece : WordPiece) (w rest : List ℕ) → IsWordPiece piece → tokens_from InWord w (piece_text piece ++ rest) ≡ tokens_from InWord (w ++ piece_value piece) rest
piece_read (Plain b) w rest h =
    let l = plain_leads b h.0 h.1 in
    word_goes_on w b rest h.0 ∙ led w b rest InWord (b ∷ []) l.0 l.1
piece_read (Quoted quote inside) w rest h =
    let l = quote_leads quote h.0 in
    word_goes_on w quote (inside ++ quote ∷ [] ++ rest) l.0
    ∙ (led w quote (inside ++ quote ∷ [] ++ rest) (InQuotes quote) [] l.1 l.2
    ∙ (ap (λ (v : List ℕ). tokens_from (InQuotes quote) v (inside ++ quote ∷ [] ++ rest)) (append-nil w)
    ∙ (ap (λ (bs : List ℕ). tokens_from (InQuotes quote) w bs) (append_assoc inside (quote ∷ []) rest) ∙ in_quotes quote w inside rest h.1)))

-- a word ends where the line does, at a blank or at a redirection
word_done : (w : List ℕ) (first : WordPiece) (more : List WordPiece) (parts : List LinePart) → IsLine parts → MayPrecede (Written first more) parts
    → tokens_from InWord w (flat_map part_text parts) ≡ behind (Word w ∷ []) (tokens_from Between [] (flat_map part_text parts))
word_done w first more [] l n = refl
word_done w first more (Gap blank ∷ parts) l n = word_ends w blank (flat_map part_text parts) (ap (λ t. t || (blank == 62)) l.0)
word_done w first more (Redirection false ∷ parts) l n = refl
word_done w first more (Redirection true ∷ parts) l n = refl
word_done w first more (Written next others ∷ parts) l n = absurd n

-- pieces that go on with a word
pieces_read : (pieces : List WordPiece) (w rest : List ℕ) → AllByRecursion IsWordPiece pieces → tokens_from InWord w (flat_map piece_text pieces ++ rest) ≡ tokens_from InWord (w ++ flat_map piece_value pieces) rest
pieces_read [] w rest h = ap (λ (v : List ℕ). tokens_from InWord v rest) (sym (append-nil w))
pieces_read (piece ∷ pieces) w rest h =
    ap (λ (bs : List ℕ). tokens_from InWord w bs) (append_assoc (piece_text piece) (flat_map piece_text pieces) rest)
    ∙ (piece_read piece w (flat_map piece_text pieces ++ rest) h.0
    ∙ (pieces_read pieces (w ++ piece_value piece) rest h.1
    ∙ ap (λ (v : List ℕ). tokens_from InWord v rest) (append_assoc w (piece_value piece) (flat_map piece_value pieces))))

-- the first byte of a piece ends no word
piece_begins : (piece : WordPiece) (rest : List ℕ) → IsWordPiece piece → tokens_from Between [] (piece_text piece ++ rest) ≡ tokens_from InWord [] (piece_text piece ++ rest)
piece_begins (Plain b) rest h = word_begins b rest h.0
piece_begins (Quoted quote inside) rest h = word_begins quote (inside ++ quote ∷ [] ++ rest) (quote_leads quote h.0).0

-- the first byte of a piece is no `>`
pub no_arrow : (b : ℕ) → is_end b ≡ false → (b == 62) ≡ false
no_arrow b e = grind (arith, nat_tests)

blank_no_arrow : (b : ℕ) → is_blank b ≡ true → (b == 62) ≡ false
blank_no_arrow b e = grind (arith, nat_tests)

-- a `>` by itself ends where the line does, at a blank or at a word
arrow_done : (parts : List LinePart) → IsLine parts → MayPrecede (Redirection false) parts
    → tokens_from Arrow [] (flat_map part_text parts) ≡ behind (Redirect false ∷ []) (tokens_from Between [] (flat_map part_text parts))
arrow_done [] l n = refl
arrow_done (Gap blank ∷ parts) l n = arrow_alone blank (flat_map part_text parts) (blank_no_arrow blank l.0)
arrow_done (Redirection append ∷ parts) l n = absurd n
arrow_done (Written (Plain b) more ∷ parts) l n = arrow_alone b (flat_map piece_text more ++ flat_map part_text parts) (no_arrow b l.0.0.0)
arrow_done (Written (Quoted quote inside) more ∷ parts) l n =
    arrow_alone quote (inside ++ quote ∷ [] ++ flat_map piece_text more ++ flat_map part_text parts) (no_arrow quote (quote_leads quote l.0.0.0).0)

pub line_read : (parts : List LinePart) → IsLine parts → tokens_from Between [] (flat_map part_text parts) ≡ Some (flat_map part_tokens parts)
line_read [] l = refl
line_read (Gap blank ∷ parts) l =
    let h = blank_leads blank l.0 in
    led [] blank (flat_map part_text parts) Between [] h.0 h.1 ∙ line_read parts l.2
line_read (Redirection true ∷ parts) l = ap (behind (Redirect true ∷ [])) (line_read parts l.2)
line_read (Redirection false ∷ parts) l = arrow_done parts l.2 l.1 ∙ ap (behind (Redirect false ∷ [])) (line_read parts l.2)
line_read (Written first more ∷ parts) l =
    let rest = flat_map part_text parts in
    ap (λ (bs : List ℕ). tokens_from Between [] bs) (append_assoc (piece_text first) (flat_map piece_text more) rest)
    ∙ (piece_begins first (flat_map piece_text more ++ rest) l.0.0
    ∙ (piece_read first [] (flat_map piece_text more ++ rest) l.0.0
    ∙ (pieces_read more (piece_value first) rest l.0.1
    ∙ (word_done (piece_value first ++ flat_map piece_value more) first more parts l.2 l.1
    ∙ ap (behind (Word (piece_value first ++ flat_map piece_value more) ∷ [])) (line_read parts l.2)))))

pub written_read : (line : List ℕ) (tokens : List Token) → IsWritten line tokens → tokens_of line ≡ Some tokens
unfolding tokens_of
written_read line tokens w = ap (tokens_from Between []) (sym w.text) ∙ (line_read w.parts w.lawful ∙ ap Some w.meaning)

-- ---- what is read was written

-- the rest of a line behind this much of a word: pieces that go on with it, and then parts that begin with no word
pub record WordRest (w bs : List ℕ) (ts : List Token) : Type 0 where
  pub pieces : List WordPiece
  pub parts : List LinePart
  pub right : AllByRecursion IsWordPiece pieces
  pub lawful : IsLine parts
  pub apart : MayPrecede (Written (Plain 0) []) parts
  pub text : flat_map piece_text pieces ++ flat_map part_text parts ≡ bs
  pub meaning : Word (w ++ flat_map piece_value pieces) ∷ flat_map part_tokens parts ≡ ts

-- the rest of a line in each state
abbrev pub Rest : LexState → List ℕ → List ℕ → List Token → Type 0
Rest Between w bs ts = IsWritten bs ts
Rest Arrow w bs ts = IsWritten (62 ∷ bs) ts
Rest InWord w bs ts = WordRest w bs ts
Rest (InQuotes quote) w bs ts =
    (inside : List ℕ) × (rest : List ℕ) × AllByRecursion (λ b. b ≢ quote) inside × (bs ≡ inside ++ (quote ∷ rest)) × WordRest (w ++ inside) rest ts

-- between words none is open
abbrev pub Idle : LexState → List ℕ → Type 0
Idle Between w = w ≡ []
Idle Arrow w = w ≡ []
Idle InWord w = Unit {0}
Idle (InQuotes quote) w = Unit {0}

some_is : (xs ys : List Token) → Some xs ≡ Some ys → xs ≡ ys
some_is xs ys e = cc

behind_some : (xs : List Token) (rest : Option (List Token)) (ts : List Token) → behind xs rest ≡ Some ts → (more : List Token) × (rest ≡ Some more) × (xs ++ more ≡ ts)
behind_some xs None ts e = absurd (cc)
behind_some xs (Some more) ts e = (more, refl, some_is (xs ++ more) ts e)

-- a piece begins a word, or goes on with one
word_first : (piece : WordPiece) (rest : List ℕ) (ts : List Token) → IsWordPiece piece → WordRest (piece_value piece) rest ts → IsWritten (piece_text piece ++ rest) ts
word_first piece rest ts h r =
    record {
      parts = Written piece r.pieces ∷ r.parts;
      lawful = ((h, r.right), apart_any piece r.pieces r.parts r.apart, r.lawful);
      text = append_assoc (piece_text piece) (flat_map piece_text r.pieces) (flat_map part_text r.parts) ∙ ap (λ (bs : List ℕ). piece_text piece ++ bs) r.text;
      meaning = r.meaning;
    }
  where
    apart_any : (first : WordPiece) (more : List WordPiece) (parts : List LinePart) → MayPrecede (Written (Plain 0) []) parts → MayPrecede (Written first more) parts
    apart_any first more [] n = tt
    apart_any first more (Gap blank ∷ parts) n = tt
    apart_any first more (Redirection append ∷ parts) n = tt
    apart_any first more (Written next others ∷ parts) n = absurd n

word_more : (piece : WordPiece) (w rest : List ℕ) (ts : List Token) → IsWordPiece piece → WordRest (w ++ piece_value piece) rest ts → WordRest w (piece_text piece ++ rest) ts
word_more piece w rest ts h r =
    record {
      pieces = piece ∷ r.pieces;
      parts = r.parts;
      right = (h, r.right);
      lawful = r.lawful;
      apart = r.apart;
      text = append_assoc (piece_text piece) (flat_map piece_text r.pieces) (flat_map part_text r.parts) ∙ ap (λ (bs : List ℕ). piece_text piece ++ bs) r.text;
      meaning = ap (λ (v : List ℕ). Word v ∷ flat_map part_tokens r.parts) (sym (append_assoc w (piece_value piece) (flat_map piece_value r.pieces))) ∙ r.meaning;
    }

gap_first : (blank : ℕ) (bs : List ℕ) (ts : List Token) → is_blank blank ≡ true → IsWritten bs ts → IsWritten (blank ∷ bs) ts
gap_first blank bs ts h r =
    record { parts = Gap blank ∷ r.parts; lawful = (h, free r.parts, r.lawful); text = ap (λ (rest : List ℕ). blank ∷ rest) r.text; meaning = r.meaning }
  where
    free : (parts : List LinePart) → MayPrecede (Gap blank) parts
    free [] = tt
    free (Gap other ∷ parts) = tt
    free (Redirection append ∷ parts) = tt
    free (Written next others ∷ parts) = tt

quoted_rest : (quote : ℕ) (inside rest : List ℕ) → piece_text (Quoted quote inside) ++ rest ≡ quote ∷ (inside ++ (quote ∷ rest))
quoted_rest quote inside rest = ap (λ (bs : List ℕ). quote ∷ bs) (append_assoc inside (quote ∷ []) rest)

module _ (b : ℕ) (bs : List ℕ) (ts : List Token) (rest : (state : LexState) (w : List ℕ) (more : List Token) → Idle state w → tokens_from state w bs ≡ Some more → Rest state w bs more) where
  -- between words, a byte and what is behind it
  starts : tokens_from (state_of b) (plain b) bs ≡ Some ts → IsWritten (b ∷ bs) ts
  starts e =
      elim (class_of b) [
        | a_blank p q r s ↦ gap_first b bs ts p (rest Between [] ts refl (sym (led [] b bs Between [] r s) ∙ e))
        | an_arrow p q r s ↦ subst (λ (x : ℕ). IsWritten (x ∷ bs) ts) (sym p) (rest Arrow [] ts refl (sym (led [] b bs Arrow [] r s) ∙ e))
        | a_quote p q r s ↦
            let h = rest (InQuotes b) [] ts tt (sym (led [] b bs (InQuotes b) [] r s) ∙ e) in
            subst (λ (line : List ℕ). IsWritten line ts) (quoted_rest b h.0 h.1 ∙ ap (λ (more : List ℕ). b ∷ more) (sym h.3))
            (word_first (Quoted b h.0) h.1 ts (p, h.2) h.4)
        | a_plain p q r s ↦ word_first (Plain b) bs ts (p, q) (rest InWord (b ∷ []) ts tt (sym (led [] b bs InWord (b ∷ []) r s) ∙ e))
      ]

  -- in a word, a byte that doesn't end it
  goes_on : (w : List ℕ) → is_end b ≡ false → tokens_from (state_of b) (w ++ plain b) bs ≡ Some ts → WordRest w (b ∷ bs) ts
  goes_on w n e =
      elim (class_of b) [
        | a_blank p q r s ↦ absurd (cc)
        | an_arrow p q r s ↦ absurd (cc)
        | a_quote p q r s ↦
            let h = rest (InQuotes b) w ts tt (ap (λ (v : List ℕ). tokens_from (InQuotes b) v bs) (sym (append-nil w)) ∙ (sym (led w b bs (InQuotes b) [] r s) ∙ e)) in
            subst (λ (line : List ℕ). WordRest w line ts) (quoted_rest b h.0 h.1 ∙ ap (λ (more : List ℕ). b ∷ more) (sym h.3))
            (word_more (Quoted b h.0) w h.1 ts (p, h.2) h.4)
        | a_plain p q r s ↦ word_more (Plain b) w bs ts (p, q) (rest InWord (w ++ b ∷ []) ts tt (sym (led w b bs InWord (b ∷ []) r s) ∙ e))
      ]

-- the first byte of a piece ends no word
first_of_piece : (piece : WordPiece) (more : List ℕ) (b : ℕ) (bs : List ℕ) → IsWordPiece piece → piece_text piece ++ more ≡ b ∷ bs → is_end b ≡ false
first_of_piece (Plain x) more b bs h e = let f : x ≡ b = cc in subst (λ (y : ℕ). is_end y ≡ false) f h.0
first_of_piece (Quoted quote inside) more b bs h e = let f : quote ≡ b = cc in subst (λ (y : ℕ). is_end y ≡ false) f (quote_leads quote h.0).0

-- what begins with the end of a word begins with no word
end_apart : (parts : List LinePart) (b : ℕ) (bs : List ℕ) → IsLine parts → flat_map part_text parts ≡ b ∷ bs → is_end b ≡ true → MayPrecede (Written (Plain 0) []) parts
end_apart [] b bs l e n = tt
end_apart (Gap blank ∷ parts) b bs l e n = tt
end_apart (Redirection append ∷ parts) b bs l e n = tt
end_apart (Written first more ∷ parts) b bs l e n =
    let f = first_of_piece first (flat_map piece_text more ++ flat_map part_text parts) b bs l.0.0 (sym (append_assoc (piece_text first) (flat_map piece_text more) (flat_map part_text parts)) ∙ e) in
    absurd (cc)

-- behind a `>>` anything may stand
arrows_free : (parts : List LinePart) → MayPrecede (Redirection true) parts
arrows_free [] = tt
arrows_free (Gap blank ∷ parts) = tt
arrows_free (Redirection append ∷ parts) = tt
arrows_free (Written first more ∷ parts) = tt

-- what begins with another byte than `>` begins with no redirection
arrow_apart : (parts : List LinePart) (b : ℕ) (bs : List ℕ) → flat_map part_text parts ≡ b ∷ bs → (b == 62) ≡ false → MayPrecede (Redirection false) parts
arrow_apart [] b bs e n = tt
arrow_apart (Gap blank ∷ parts) b bs e n = tt
arrow_apart (Redirection false ∷ parts) b bs e n = let f : 62 ≡ b = cc in absurd (grind (arith, nat_tests))
arrow_apart (Redirection true ∷ parts) b bs e n = let f : 62 ≡ b = cc in absurd (grind (arith, nat_tests))
arrow_apart (Written first more ∷ parts) b bs e n = tt

-- a word that ends before a byte
word_last : (w : List ℕ) (b : ℕ) (bs : List ℕ) (more ts : List Token) → is_end b ≡ true → IsWritten (b ∷ bs) more → Word w ∷ more ≡ ts → WordRest w (b ∷ bs) ts
word_last w b bs more ts n r e =
    record {
      pieces = [];
      parts = r.parts;
      right = tt;
      lawful = r.lawful;
      apart = end_apart r.parts b bs r.lawful r.text n;
      text = r.text;
      meaning = ap (λ (v : List ℕ). Word v ∷ flat_map part_tokens r.parts) (append-nil w) ∙ (ap (λ (toks : List Token). Word w ∷ toks) r.meaning ∙ e);
    }

module _ (b : ℕ) (bs : List ℕ) (ts : List Token) (rest : (state : LexState) (w : List ℕ) (more : List Token) → Idle state w → tokens_from state w bs ≡ Some more → Rest state w bs more) where
  in_word : (w : List ℕ) (t : Bool) → is_end b ≡ t → tokens_from InWord w (b ∷ bs) ≡ Some ts → WordRest w (b ∷ bs) ts
  in_word w true n e =
      let h = behind_some (Word w ∷ []) (tokens_from Between [] (b ∷ bs)) ts (sym (word_ends w b bs n) ∙ e) in
      word_last w b bs h.0 ts n (starts b bs h.0 rest h.1) h.2
  in_word w false n e = goes_on b bs ts rest w n (sym (word_goes_on w b bs n) ∙ e)

  behind_arrow : (t : Bool) → (b == 62) ≡ t → tokens_from Arrow [] (b ∷ bs) ≡ Some ts → IsWritten (62 ∷ b ∷ bs) ts
  behind_arrow true n e =
      let f : 62 ≡ b = sym (eqb-true b 62 n) in
      let h = behind_some (Redirect true ∷ []) (tokens_from Between [] bs) ts
      (sym (ap (λ x. if x then behind (Redirect true ∷ []) (tokens_from Between [] bs) else behind (Redirect false ∷ []) (tokens_from (state_of b) (plain b) bs)) n) ∙ e) in
      let r = rest Between [] h.0 refl h.1 in
      record {
        parts = Redirection true ∷ r.parts;
        lawful = (tt, arrows_free r.parts, r.lawful);
        text = ap (λ (line : List ℕ). 62 ∷ 62 ∷ line) r.text ∙ ap (λ (x : ℕ). 62 ∷ x ∷ bs) f;
        meaning = ap (λ (toks : List Token). Redirect true ∷ toks) r.meaning ∙ h.2;
      }
  behind_arrow false n e =
      let h = behind_some (Redirect false ∷ []) (tokens_from Between [] (b ∷ bs)) ts (sym (arrow_alone b bs n) ∙ e) in
      let r = starts b bs h.0 rest h.1 in
      record {
        parts = Redirection false ∷ r.parts;
        lawful = (tt, arrow_apart r.parts b bs r.text n, r.lawful);
        text = ap (λ (line : List ℕ). 62 ∷ line) r.text;
        meaning = ap (λ (toks : List Token). Redirect false ∷ toks) r.meaning ∙ h.2;
      }

  in_quotes_rest : (quote : ℕ) (w : List ℕ) (t : Bool) → (b == quote) ≡ t → tokens_from (InQuotes quote) w (b ∷ bs) ≡ Some ts → Rest (InQuotes quote) w (b ∷ bs) ts
  in_quotes_rest quote w true n e =
      let f = sym (ap (λ x. if x then tokens_from InWord w bs else tokens_from (InQuotes quote) (w ++ b ∷ []) bs) n) ∙ e in
      ([], bs, tt, ap (λ (x : ℕ). x ∷ bs) (eqb-true b quote n), subst (λ (v : List ℕ). WordRest v bs ts) (sym (append-nil w)) (rest InWord w ts tt f))
  in_quotes_rest quote w false n e =
      let f = sym (ap (λ x. if x then tokens_from InWord w bs else tokens_from (InQuotes quote) (w ++ b ∷ []) bs) n) ∙ e in
      let h = rest (InQuotes quote) (w ++ b ∷ []) ts tt f in (
        b ∷ h.0,
        h.1,
        (differs quote n, h.2),
        ap (λ (line : List ℕ). b ∷ line) h.3,
        subst (λ (v : List ℕ). WordRest v h.1 ts) (append_assoc w (b ∷ []) h.0) h.4,
      )
    where
      differs : (q : ℕ) → (b == q) ≡ false → b ≢ q
      differs q d same = let t : (b == q) ≡ true = eq-eqb b q same in absurd (cc)

pub read_written : (state : LexState) (w bs : List ℕ) (ts : List Token) → Idle state w → tokens_from state w bs ≡ Some ts → Rest state w bs ts
read_written Between w [] ts i e = record { parts = []; lawful = tt; text = refl; meaning = some_is [] ts e }
read_written Arrow w [] ts i e = record { parts = Redirection false ∷ []; lawful = (tt, tt, tt); text = refl; meaning = some_is (Redirect false ∷ []) ts e }
read_written InWord w [] ts i e =
    record { pieces = []; parts = []; right = tt; lawful = tt; apart = tt; text = refl; meaning = ap (λ (v : List ℕ). Word v ∷ []) (append-nil w) ∙ some_is (Word w ∷ []) ts e }
read_written (InQuotes quote) w [] ts i e = absurd (cc)
read_written Between w (b ∷ bs) ts i e =
    starts b bs ts (λ state v more j f. read_written state v bs more j f) (ap (λ (v : List ℕ). tokens_from (state_of b) (v ++ plain b) bs) (sym i) ∙ e)
read_written Arrow w (b ∷ bs) ts i e =
    behind_arrow b bs ts (λ state v more j f. read_written state v bs more j f) (b == 62) refl (ap (λ (v : List ℕ). tokens_from Arrow v (b ∷ bs)) (sym i) ∙ e)
read_written InWord w (b ∷ bs) ts i e = in_word b bs ts (λ state v more j f. read_written state v bs more j f) w (is_end b) refl e
read_written (InQuotes quote) w (b ∷ bs) ts i e =
    in_quotes_rest b bs ts (λ state v more j f. read_written state v bs more j f) quote w (b == quote) refl e

pub line_written : (line : List ℕ) (tokens : List Token) → tokens_of line ≡ Some tokens → IsWritten line tokens
unfolding tokens_of
line_written line tokens e = read_written Between [] line tokens refl e
