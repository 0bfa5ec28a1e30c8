-- What a writer has heard, one after the other, and the lines of the commands that it is yet to hear of.
use Rattle.std.proofs.Common.{◌≡◌, ◌↔◌, ℕ, ◌-◌, ◌≤◌, Bool, true, false, List, [], ◌∷◌, ◌++◌, map, Option, Some, None, slice_get, unwrap_or, refl, ap, sym, subst, ◌∙◌, append_assoc, arith}
use Rattle.std.proofs.lemmas.List.{append-nil}
use Rattle.script_reader.specs.PartReads.{IsLineAt}
use Rattle.trace_script.specs.declared.outcome.Outcome.{Outcome}
use Rattle.trace_session.specs.Heard.{Heard, Hears, heard_of, line_at}
use Rattle.trace_session.specs.private.HeardItems.{AreInOrder, heard_each}
use Rattle.parallel_output.specs.ThreadTexts.{told_if}
use Rattle.parallel_output.specs.declared.outcome_at.OutcomeAt.{OutcomeAt}

pub Hears_nothing : (a : Option (List Heard)) → Hears a a []
Hears_nothing None = tt
Hears_nothing (Some heard) = sym (append-nil heard)

Hears_append : (a b c : Option (List Heard)) (xs ys : List Heard) → Hears a b xs → Hears b c ys → Hears a c (xs ++ ys)
Hears_append None b c xs ys p q = tt
Hears_append (Some us) None c xs ys p q = absurd p
Hears_append (Some us) (Some bs) None xs ys p q = absurd q
Hears_append (Some us) (Some bs) (Some cs) xs ys p q = q ∙ (ap (λ (front : List Heard). front ++ ys) p ∙ append_assoc us xs ys)

-- a writer that tells nothing
pub untold : (a b : Option (List Heard)) (xs : List Heard) → a ≡ None → Hears a b xs
untold a b xs is = subst (λ (o : Option (List Heard)). Hears o b xs) (sym is) tt

-- what was heard, and what is left to be heard, are all
abbrev pub HearsOn : Option (List Heard) → Option (List Heard) → List Heard → List Heard → Type 0
HearsOn old now left all = (more : List Heard) × (more ++ left ≡ all) × Hears old now more

pub hears_first : (old : Option (List Heard)) (all : List Heard) → HearsOn old old all all
hears_first old all = ([], refl, Hears_nothing old)

pub hears_next : (old now new : Option (List Heard)) (number : ℕ) (line line' : List ℕ) (outcome : Option Outcome) (held held' : Option (List ℕ)) (left all : List Heard)
    → line' ≡ line → held' ≡ held → HearsOn old now (heard_of number line outcome held ∷ left) all → Hears now new (heard_of number line' outcome held' ∷ [])
    → HearsOn old new left all
hears_next old now new number line line' outcome held held' left all same_line same_held (more, is, heard) next =
    let one : Heard = heard_of number line outcome held in
    let heard_one : Hears now new (one ∷ []) =
    subst (λ (bytes : Option (List ℕ)). Hears now new (heard_of number line outcome bytes ∷ [])) same_held
    (subst (λ (text : List ℕ). Hears now new (heard_of number text outcome held' ∷ [])) same_line next) in
    (more ++ one ∷ [], append_assoc more (one ∷ []) left ∙ is, Hears_append old now new more (one ∷ []) heard heard_one)

pub hears_all : (old now : Option (List Heard)) (all : List Heard) → HearsOn old now [] all → Hears old now all
hears_all old now all (more, is, heard) = subst (Hears old now) (sym (append-nil more) ∙ is) heard

-- ---- lines

pub line_is : (first number : ℕ) (lines : List (List ℕ)) (line : List ℕ) → IsLineAt first lines number line → line_at first lines number ≡ line
line_is first number lines line (place, same, found) =
    let at : number - first ≡ place = omega (arith, same) in
    ap (λ (o : Option (List ℕ)). unwrap_or o []) (ap (slice_get lines) at ∙ found)

-- These numbers are of lines in order, of all that are numbered from `first` on. Those that are left, which are numbered from `now` on, have them too.
pub record LeftInOrder (first : ℕ) (all : List (List ℕ)) (now : ℕ) (left : List (List ℕ)) (numbers : List ℕ) : Type 0 where
  pub from : ℕ
  pub order : AreInOrder from first all numbers
  pub alike : (later : ℕ) (line : List ℕ) → from ≤ later → IsLineAt first all later line ↔ IsLineAt now left later line

pub all_left : (first now : ℕ) (all left : List (List ℕ)) (numbers : List ℕ) → now ≡ first → left ≡ all → AreInOrder first first all numbers
    → LeftInOrder first all now left numbers
all_left first now all left numbers same same_lines order = record {
  from = first;
  order = order;
  alike = λ later line behind.
      subst (λ (n : ℕ). IsLineAt first all later line ↔ IsLineAt n left later line) (sym same)
      (subst (λ (ls : List (List ℕ)). IsLineAt first all later line ↔ IsLineAt first ls later line) (sym same_lines) (λ h. h, λ h. h));
}

module _ (first : ℕ) (all : List (List ℕ)) (now : ℕ) (left : List (List ℕ)) (number : ℕ) (numbers : List ℕ) (s : LeftInOrder first all now left (number ∷ numbers)) where
  -- the next of them is left
  pub next_is_left : (line : List ℕ) × IsLineAt now left number line
  next_is_left =
      let line = s.order.1 in
      (line.0, (s.alike number line.0 s.order.0).0 line.1)

  -- and has its line
  pub same_line : line_at now left number ≡ line_at first all number
  same_line =
      let line = s.order.1 in
      line_is now number left line.0 ((s.alike number line.0 s.order.0).0 line.1) ∙ sym (line_is first number all line.0 line.1)

  -- the others are left after it
  pub left_after : (next : ℕ) (after : List (List ℕ))
      → ((later : ℕ) (line : List ℕ) → number ≤ later → IsLineAt now left later line ↔ IsLineAt next after later line) → LeftInOrder first all next after numbers
  left_after next after later = record {
    from = number;
    order = s.order.2;
    alike = λ at line behind.
        let here = s.alike at line (omega (arith, s.order.0, behind)) in
        let there = later at line behind in
        (λ h. there.0 (here.0 h), λ h. here.1 (there.1 h));
  }

-- ---- what is told of a part, if somebody is

-- what is told is in order where all is
pub told_in_order : (is_told : Bool) (from first : ℕ) (lines : List (List ℕ)) (all told : List OutcomeAt) → told ≡ told_if is_told all
    → AreInOrder from first lines (map (λ (one : OutcomeAt). one.number) all) → AreInOrder from first lines (map (λ (one : OutcomeAt). one.number) told)
told_in_order true from first lines all told is order =
    subst (λ (ones : List OutcomeAt). AreInOrder from first lines (map (λ (one : OutcomeAt). one.number) ones)) (sym is) order
told_in_order false from first lines all told is order =
    subst (λ (ones : List OutcomeAt). AreInOrder from first lines (map (λ (one : OutcomeAt). one.number) ones)) (sym is) tt

-- a writer that is told, or that states nothing of what it heard, has heard of all
pub hears_told : (is_told : Bool) (old new : Option (List Heard)) (first : ℕ) (lines : List (List ℕ)) (held : Option (List ℕ)) (all told : List OutcomeAt)
    → (is_told ≡ false → old ≡ None) → told ≡ told_if is_told all
    → Hears old new (heard_each first lines held told) → Hears old new (heard_each first lines held all)
hears_told true old new first lines held all told deaf is heard =
    subst (λ (ones : List OutcomeAt). Hears old new (heard_each first lines held ones)) is heard
hears_told false old new first lines held all told deaf is heard = untold old new (heard_each first lines held all) (deaf refl)
