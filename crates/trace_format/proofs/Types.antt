-- Types of numbers: the words that spell one are read as it.
use Rattle.std.proofs.Common.{◌≡◌, ℕ, Bool, true, false, if◌then◌else◌, List, [], ◌∷◌, bytes_eq, codes, Option, Some, refl, sym, ap, ◌∙◌}
use Rattle.std.proofs.lemmas.Slice.Eq.{bytes_eq-Decides}
use Rattle.trace_format.specs.declared.kind.NumberType.{NumberType}
use Rattle.trace_format.specs.declared.kind.NumberType.TheVariants.{U8, U16, U32, U64, S8, S16, S32, S64, Int, PidT, UnsignedInt, Long, UnsignedLong}
use Rattle.trace_format.specs.Kinds.{type_words, type_of, unsigned_type_of}

module _ (word : List ℕ) (t : NumberType) where
  is : (text : List ℕ) → bytes_eq word text ≡ true → word ≡ text
  is text = (bytes_eq-Decides word text).0

  one : (b : Bool) (x : NumberType) (text : List ℕ) (others : Option NumberType) → (b ≡ true → word ≡ text) → type_words x ≡ text ∷ [] → (others ≡ Some t → type_words t ≡ word ∷ []) → (if b then Some x else others) ≡ Some t → type_words t ≡ word ∷ []
  one true x text others same spelled left h = (let e : x ≡ t = cc in ap type_words (sym e)) ∙ spelled ∙ ap (λ w. w ∷ []) (sym (same refl))
  one false x text others same spelled left h = left h

  pub type_of-read : type_of word ≡ Some t → type_words t ≡ word ∷ []
  type_of-read =
      one _ U8 (codes "u8") _ (is _) refl (one _ U16 (codes "u16") _ (is _) refl (one _ U32 (codes "u32") _ (is _) refl (one _ U64 (codes "u64") _ (is _) refl
      (one _ S8 (codes "s8") _ (is _) refl (one _ S16 (codes "s16") _ (is _) refl (one _ S32 (codes "s32") _ (is _) refl (one _ S64 (codes "s64") _ (is _) refl
      (one _ Int (codes "int") _ (is _) refl (one _ PidT (codes "pid_t") _ (is _) refl (one _ Long (codes "long") _ (is _) refl (λ h. absurd (cc))))))))))))

  two : (b : Bool) (x : NumberType) (text : List ℕ) (others : Option NumberType) → (b ≡ true → word ≡ text) → type_words x ≡ codes "unsigned" ∷ text ∷ [] → (others ≡ Some t → type_words t ≡ codes "unsigned" ∷ word ∷ []) → (if b then Some x else others) ≡ Some t → type_words t ≡ codes "unsigned" ∷ word ∷ []
  two true x text others same spelled left h = (let e : x ≡ t = cc in ap type_words (sym e)) ∙ spelled ∙ ap (λ w. codes "unsigned" ∷ w ∷ []) (sym (same refl))
  two false x text others same spelled left h = left h

  pub unsigned_type_of-read : unsigned_type_of word ≡ Some t → type_words t ≡ codes "unsigned" ∷ word ∷ []
  unsigned_type_of-read = two _ UnsignedInt (codes "int") _ (is _) refl (two _ UnsignedLong (codes "long") _ (is _) refl (λ h. absurd (cc)))
