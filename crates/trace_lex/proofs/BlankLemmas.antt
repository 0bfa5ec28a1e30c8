-- A text without the blanks at its ends is what only blanks surround.
use Rattle.std.proofs.Common.{◌≡◌, ◌↔◌, ◌⊎◌, inl, inr, ℕ, Bool, true, false, ◌-◌, List, [], ◌∷◌, ◌++◌, length, take, drop, reverse, refl, sym, ap, ◌∙◌, subst, append_assoc, append-nil, arith}
use Rattle.std.proofs.Math.Seq.{take-append_seam, drop-append_seam}
use Rattle.std.proofs.lemmas.List.{length-append, length-reverse, reverse-append}
use Rattle.std.proofs.lemmas.List.Elements.{All-nil, All-cons, All-append, All-same}
use Rattle.std.specs.List.{prefix_len}
use Rattle.trace_lex.specs.Blanks.{is_blank, without_end, trimmed, AreBlanks, BeginsUnblank, EndsUnblank, IsBeforeBlanks, IsBetweenBlanks}
use Rattle.trace_lex.proofs.Lists.{BeginsNot, run_ends, AllPass-reverse}

-- as AllPass says it of each byte
abbrev IsBlank : ℕ → Type 0
IsBlank b = is_blank b ≡ true

-- ---- what only blanks follow is found

ends_reversed : (body : List ℕ) → (body ≡ []) ⊎ EndsUnblank body → BeginsNot is_blank (reverse body)
ends_reversed body (inl none) = subst (λ (bs : List ℕ). BeginsNot is_blank (reverse bs)) (sym none) tt
ends_reversed body (inr ends) = subst (BeginsNot is_blank) (sym (ap reverse ends.cut ∙ reverse-append ends.rest (ends.last ∷ []))) ends.unblank

pub end_is : (text body : List ℕ) → IsBeforeBlanks text body → without_end text ≡ body
end_is text body is =
    let blanks : prefix_len is_blank (reverse text) ≡ length (reverse is.back) =
    ap (λ (bs : List ℕ). prefix_len is_blank (reverse bs)) is.cut ∙ ap (prefix_len is_blank) (reverse-append body is.back)
    ∙ run_ends is_blank (reverse is.back) (reverse body) (AllPass-reverse is_blank is.back is.after) (ends_reversed body is.ends) in
    let size : length text - prefix_len is_blank (reverse text) ≡ length body = omega (arith, blanks, ap length is.cut, length-append body is.back, length-reverse is.back) in
    ap (λ n. take n text) size ∙ ap (take (length body)) is.cut ∙ take-append_seam body is.back

-- ---- and so is what only blanks surround

begins_not : (body : List ℕ) → BeginsUnblank body → BeginsNot is_blank body
begins_not body begins = subst (BeginsNot is_blank) (sym begins.cut) begins.unblank

-- a text that ends with no blank does so behind another one
ends_behind : (front body : List ℕ) → EndsUnblank body → EndsUnblank (front ++ body)
ends_behind front body ends = record { rest = front ++ ends.rest; last = ends.last; cut = ap (λ (bs : List ℕ). front ++ bs) ends.cut ∙ sym (append_assoc front ends.rest (ends.last ∷ [])); unblank = ends.unblank }

between_is : (text body : List ℕ) → IsBetweenBlanks text body → trimmed text ≡ body
between_is text body is = by is.ends
  where
    from : (bs : List ℕ) → without_end text ≡ bs → trimmed text ≡ drop (prefix_len is_blank bs) bs
    from bs e = ap (λ (xs : List ℕ). drop (prefix_len is_blank xs) xs) e

    by : (body ≡ []) ⊎ (BeginsUnblank body × EndsUnblank body) → trimmed text ≡ body
    by (inl none) =
        let all : text ≡ is.front ++ is.back = is.cut ∙ ap (λ (bs : List ℕ). is.front ++ bs ++ is.back) none ∙ ap (λ (bs : List ℕ). bs ++ is.back) (append-nil is.front) in
        let blanks : AreBlanks text = All-same IsBlank _ _ all (All-append IsBlank is.front is.back is.before is.after) in
        from [] (end_is text [] (record { back = text; cut = refl; after = blanks; ends = inl refl })) ∙ sym none
    by (inr ends) =
        from (is.front ++ body) (end_is text (is.front ++ body) (record { back = is.back; cut = is.cut; after = is.after; ends = inr (ends_behind is.front body ends.1) }))
        ∙ ap (λ n. drop n (is.front ++ body)) (run_ends is_blank is.front body is.before (begins_not body ends.0)) ∙ drop-append_seam is.front body

-- ---- each text has such a body

-- a byte that is no blank ends a text if nothing else does
ends_cons : (b : ℕ) (body : List ℕ) → is_blank b ≡ false → (body ≡ []) ⊎ EndsUnblank body → EndsUnblank (b ∷ body)
ends_cons b body own (inl none) = record { rest = []; last = b; cut = ap (λ (bs : List ℕ). b ∷ bs) none; unblank = own }
ends_cons b body own (inr ends) = ends_behind (b ∷ []) body ends

record HasBefore (text : List ℕ) : Type 0 where
  body : List ℕ
  is : IsBeforeBlanks text body

before_cons : (b : ℕ) (bs : List ℕ) (blank : Bool) → is_blank b ≡ blank → HasBefore bs → HasBefore (b ∷ bs)
before_cons b bs false own some =
    record { body = b ∷ some.body; is = record { back = some.is.back; cut = ap (λ (xs : List ℕ). b ∷ xs) some.is.cut; after = some.is.after; ends = inr (ends_cons b some.body own some.is.ends) } }
before_cons b bs true own some = by some.is.ends
  where
    by : (some.body ≡ []) ⊎ EndsUnblank some.body → HasBefore (b ∷ bs)
    by (inl none) =
        let all : bs ≡ some.is.back = some.is.cut ∙ ap (λ (xs : List ℕ). xs ++ some.is.back) none in
        record { body = []; is = record { back = b ∷ bs; cut = refl; after = All-cons IsBlank b bs own (All-same IsBlank _ _ all some.is.after); ends = inl refl } }
    by (inr ends) =
        record { body = b ∷ some.body; is = record { back = some.is.back; cut = ap (λ (xs : List ℕ). b ∷ xs) some.is.cut; after = some.is.after; ends = inr (ends_behind (b ∷ []) some.body ends) } }

before : (text : List ℕ) → HasBefore text
before [] = record { body = []; is = record { back = []; cut = refl; after = All-nil IsBlank; ends = inl refl } }
before (b ∷ bs) = before_cons b bs (is_blank b) refl (before bs)

record HasBetween (text : List ℕ) : Type 0 where
  body : List ℕ
  is : IsBetweenBlanks text body

between_cons : (b : ℕ) (bs : List ℕ) (blank : Bool) → is_blank b ≡ blank → HasBetween bs → HasBetween (b ∷ bs)
between_cons b bs true own some =
    record {
      body = some.body;
      is = record {
        front = b ∷ some.is.front;
        back = some.is.back;
        cut = ap (λ (xs : List ℕ). b ∷ xs) some.is.cut;
        before = All-cons IsBlank b some.is.front own some.is.before;
        after = some.is.after;
        ends = some.is.ends;
      };
    }
between_cons b bs false own some =
    let end = before bs in
    record {
      body = b ∷ end.body;
      is = record {
        front = [];
        back = end.is.back;
        cut = ap (λ (xs : List ℕ). b ∷ xs) end.is.cut;
        before = All-nil IsBlank;
        after = end.is.after;
        ends = inr (record { first = b; rest = end.body; cut = refl; unblank = own }, ends_cons b end.body own end.is.ends);
      };
    }

between : (text : List ℕ) → HasBetween text
between [] = record { body = []; is = record { front = []; back = []; cut = refl; before = All-nil IsBlank; after = All-nil IsBlank; ends = inl refl } }
between (b ∷ bs) = between_cons b bs (is_blank b) refl (between bs)

-- ---- the laws

pub without_end_is_before : (text body : List ℕ) → (without_end text ≡ body) ↔ IsBeforeBlanks text body
without_end_is_before text body = (
  λ e. let some = before text in subst (IsBeforeBlanks text) (sym (end_is text some.body some.is) ∙ e) some.is,
  λ is. end_is text body is,
)

pub trimmed_is_between : (text body : List ℕ) → (trimmed text ≡ body) ↔ IsBetweenBlanks text body
trimmed_is_between text body = (
  λ e. let some = between text in subst (IsBetweenBlanks text) (sym (between_is text some.body some.is) ∙ e) some.is,
  λ is. between_is text body is,
)
