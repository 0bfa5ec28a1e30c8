-- Text fields: the word that spells one is read as it.
use Rattle.std.proofs.Common.{◌≡◌, ℕ, suc, ◌+◌, true, List, [], ◌∷◌, ◌++◌, length, take, drop, decimal, Some, option_map, refl, sym, ap, ◌∙◌, subst, arith, one-add}
use Rattle.std.specs.List.{list_all, prefix_len}
use Rattle.std.proofs.lemmas.Bool.{and_parts, and_from, or_left, cond_both, cond-true, not-false, leb-true, le-leb, eqb-true}
use Rattle.std.proofs.lemmas.Bool.Decides.{nat_tests}
use Rattle.trace_lex.specs.Prefixes.{is_not}
use Rattle.trace_format.specs.declared.kind.Kind.TheVariants.{Char}
use Rattle.trace_format.specs.declared.event.Field.{Field}
use Rattle.trace_lex.specs.Names.{is_letter, is_name_byte, is_name}
use Rattle.trace_format.specs.Definitions.{length_suffix, is_kind}
use Rattle.trace_format.specs.Reading.{length_of, text_field_at, text_field_of}
use Rattle.trace_lex.proofs.Options.{map_some}
use Rattle.trace_format.proofs.Lengths.{length_of-spelled, length_of-read}

no_bracket : (b : ℕ) → is_name_byte b ≡ true → is_not 91 b ≡ true
no_bracket b h = grind (arith, nat_tests)

-- a name of name bytes before a bracket ends at the bracket
name_end : (name rest : List ℕ) → list_all is_name_byte name ≡ true → prefix_len (is_not 91) (name ++ 91 ∷ rest) ≡ length name
name_end [] rest h = refl
name_end (b ∷ bs) rest h = cond-true (is_not 91 b) _ _ (no_bracket b (and_parts _ _ h).0) ∙ ap (λ n. 1 + n) (name_end bs rest (and_parts _ _ h).1) ∙ one-add (length bs)

taken_name : (name rest : List ℕ) → take (length name) (name ++ 91 ∷ rest) ≡ name
taken_name [] rest = refl
taken_name (b ∷ bs) rest = ap (λ xs. b ∷ xs) (taken_name bs rest)

behind_bracket : (name rest : List ℕ) → drop (length name + 1) (name ++ 91 ∷ rest) ≡ rest
behind_bracket [] rest = ap (λ n. drop n (91 ∷ rest)) (let e : 0 + 1 ≡ 1 = refl in e)
behind_bracket (b ∷ bs) rest = ap (λ n. drop n ((b ∷ bs) ++ 91 ∷ rest)) (let e : suc (length bs) + 1 ≡ suc (length bs + 1) = omega arith in e) ∙ behind_bracket bs rest

name_bytes_of : (name : List ℕ) → is_name name ≡ true → list_all is_name_byte name ≡ true
name_bytes_of [] h = refl
name_bytes_of (b ∷ bs) h = and_from _ _ (or_left (is_letter b) _ (and_parts _ _ (and_parts _ _ h).0).1) (and_parts _ _ h).1

pub text_field-spelled : (name : List ℕ) (n : ℕ) → is_name name ≡ true → is_kind (Char n) ≡ true → text_field_of (name ++ length_suffix (Char n)) ≡ Some (record { name = name; kind = Char n })
text_field-spelled name n named sized =
    let back = decimal n ++ 93 ∷ [] in
    let size = name_end name back (name_bytes_of name named) in
    let front : take (length name) (name ++ 91 ∷ back) ≡ name = taken_name name back in
    let behind : drop (length name + 1) (name ++ 91 ∷ back) ≡ back = behind_bracket name back in
    let limits = and_parts _ _ sized in
    ap (λ k. text_field_at k (name ++ 91 ∷ back)) size
    ∙ (λ i. option_map {T = ℕ} {U = Field} (λ m. record { name = front i; kind = Char m }) (length_of (behind i)))
    ∙ ap (option_map {T = ℕ} {U = Field} (λ m. record { name = name; kind = Char m })) (length_of-spelled n (leb-true 1 n limits.0) (leb-true n 64 limits.1))

one_before : (b p n : ℕ) (bs : List ℕ) → (length_of (drop (p + 1) bs) ≡ Some n → bs ≡ take p bs ++ 91 ∷ drop (p + 1) bs) → length_of (drop (1 + p + 1) (b ∷ bs)) ≡ Some n → b ∷ bs ≡ take (1 + p) (b ∷ bs) ++ 91 ∷ drop (1 + p + 1) (b ∷ bs)
one_before b p n bs rest h =
    let e1 : 1 + p ≡ suc p = one-add p in
    let e2 : 1 + p + 1 ≡ suc (p + 1) = omega arith in
    let front : take (1 + p) (b ∷ bs) ≡ b ∷ take p bs = ap (λ k. take k (b ∷ bs)) e1 in
    let back : drop (1 + p + 1) (b ∷ bs) ≡ drop (p + 1) bs = ap (λ k. drop k (b ∷ bs)) e2 in
    ap (λ xs. b ∷ xs) (rest (sym (ap length_of back) ∙ h)) ∙ sym (λ i. front i ++ 91 ∷ back i)

-- what stands before and behind the first bracket
bracket_at : (word : List ℕ) (n : ℕ) → length_of (drop (prefix_len (is_not 91) word + 1) word) ≡ Some n → word ≡ take (prefix_len (is_not 91) word) word ++ 91 ∷ drop (prefix_len (is_not 91) word + 1) word
bracket_at [] n h = absurd (cc)
bracket_at (b ∷ bs) n h =
    cond_both (is_not 91 b) (1 + prefix_len (is_not 91) bs) 0 (λ k. length_of (drop (k + 1) (b ∷ bs)) ≡ Some n → b ∷ bs ≡ take k (b ∷ bs) ++ 91 ∷ drop (k + 1) (b ∷ bs))
    (λ _. one_before b (prefix_len (is_not 91) bs) n bs (bracket_at bs n))
    (λ e _. ap (λ x. x ∷ bs) (eqb-true b 91 (not-false _ e)))
    h

-- what is read as a text field is spelled so
pub record IsTextField (word : List ℕ) (field : Field) : Type 0 where
  pub length : ℕ
  pub kind : field.kind ≡ Char length
  pub sized : is_kind field.kind ≡ true
  pub spelled : word ≡ field.name ++ length_suffix field.kind

pub text_field-read : (word : List ℕ) (field : Field) → text_field_of word ≡ Some field → IsTextField word field
text_field-read word field h =
    let size = prefix_len (is_not 91) word in
    let made = map_some (λ m. record { name = take size word; kind = Char m }) (length_of (drop (size + 1) word)) field h in
    let read = length_of-read (drop (size + 1) word) made.value made.was in
    subst (IsTextField word) made.gives (record {
      length = made.value;
      kind = refl;
      sized = and_from _ _ (le-leb 1 made.value read.low) (le-leb made.value 64 read.high);
      spelled = bracket_at word made.value made.was ∙ ap (λ x. take size word ++ 91 ∷ x) read.spelled;
    })
