-- A text is refused for its syntax exactly at the leftmost offset where it is wrong.
use Rattle.std.proofs.Common.{◌≡◌, ◌⊎◌, ◌↔◌, inl, inr, refl, ℕ, Bool, true, false, not, List, [], ◌∷◌, Option, Some, None, Result, Err, ap, sym, ◌∙◌, subst}
use Rattle.std.proofs.lemmas.List.Elements.{All-weaker}
use Rattle.trace_format.specs.Definitions.{Definition}
use Rattle.trace_lex.specs.Blanks.{is_blank}
use Rattle.trace_lex.proofs.Lists.{BeginsNot}
use Rattle.trace_trigger.specs.Frames.{is_unblank}
use Rattle.trace_trigger.specs.declared.fault.TriggerFault.{TriggerFault}
use Rattle.trace_trigger.specs.declared.fault.TriggerFault.TheVariants.{HistSyntax}
use Rattle.trace_trigger.specs.declared.fault.HistCause.{HistCause}
use Rattle.trace_trigger.specs.declared.offset.Mistake.{Mistake}
use Rattle.trace_trigger.specs.HistPieces.{pieces_of}
use Rattle.trace_trigger.specs.HistParts.{attributes_of}
use Rattle.trace_trigger.specs.HistLists.{lists_of, names_of}
use Rattle.trace_trigger.specs.HistOffsets.{hist_cause}
use Rattle.trace_trigger.specs.private.MistakeOffsets.{wrong_offsets, least}
use Rattle.trace_trigger.specs.TriggerAnswers.{◌>>=◌}
use Rattle.trace_trigger.specs.HistMeanings.{few}
use Rattle.trace_trigger.specs.HistTexts.{IsHistText, unless_wrong, read_of, spec_from, spec_of}
use Rattle.trace_trigger.specs.HistSpecs.{SpecSeen}
use Rattle.trace_trigger.specs.HistGrammar.{Setting, IsWritten}
use Rattle.trace_trigger.specs.HistFaultOffsets.{Cut, BeginsBlank, IsLeftmostWrong}
use Rattle.trace_trigger.proofs.CutLemmas.{found_is_cut}
use Rattle.trace_trigger.proofs.LaterFaults.{IsAnyLater, read_is_later}
use Rattle.trace_trigger.proofs.PartLaws.{HasParts, parts_of}
use Rattle.trace_trigger.proofs.MistakeLaws.{none_leftmost, IsTold, least_leftmost}
use Rattle.trace_trigger.proofs.OffsetLemmas.{IsLeast, none_least, least_is, is_least}
use Rattle.trace_trigger.proofs.SpecLaws.{written_finds, right_written}
use Rattle.trace_trigger.proofs.WrongLaws.{wrong_sound, wrong_complete}

-- ---- the least offset is told

module _ (definition : Definition) (text : List ℕ) where
  told_so : (at : ℕ) (is : IsTold text at) → spec_of definition text ≡ Err (HistSyntax at is.cause)
  unfolding spec_of read_of
  told_so at is =
      ap (λ (o : Option Mistake). unless_wrong o (lists_of (attributes_of text)) >>= λ lists. few lists >>= λ lists. spec_from definition text lists) is.is

  syntax_is : (at : ℕ) → least (wrong_offsets text) ≡ Some at → (cause : HistCause) × (spec_of definition text ≡ Err (HistSyntax at cause)) × (hist_cause text at ≡ Some cause)
  syntax_is at e = let is = least_leftmost text at e in (is.cause, told_so at is, is.told)

  none_is : least (wrong_offsets text) ≡ None → spec_of definition text ≡ (few (lists_of (attributes_of text)) >>= λ lists. spec_from definition text lists)
  unfolding spec_of read_of
  none_is e = ap (λ (o : Option Mistake). unless_wrong o (lists_of (attributes_of text)) >>= λ lists. few lists >>= λ lists. spec_from definition text lists) (none_leftmost text e)

  -- the least offset is told, with the cause there
  record IsSyntax (at : ℕ) (cause : HistCause) : Type 0 where
    least_is_at : least (wrong_offsets text) ≡ Some at
    is_caused : hist_cause text at ≡ Some cause

  is_syntax : (at : ℕ) (cause : HistCause) → spec_of definition text ≡ Err (HistSyntax at cause) → IsSyntax at cause
  is_syntax at cause e = by (least (wrong_offsets text)) refl
    where
      by : (found : Option ℕ) → least (wrong_offsets text) ≡ found → IsSyntax at cause
      by None f =
          let P : Result SpecSeen TriggerFault → Type 0 = λ answer. IsAnyLater answer in
          absurd (subst P (sym (none_is f) ∙ e) (read_is_later definition text (lists_of (attributes_of text))))
      by (Some n) f =
          let told = syntax_is n f in
          let is = told.1 in
          let same : n ≡ at = cc in
          let same_cause : told.0 ≡ cause = cc in
          record { least_is_at = f ∙ ap Some same; is_caused = (λ i. hist_cause text (sym same i)) ∙ told.2 ∙ ap Some same_cause }

  -- ---- how a text is cut

  pub cut_of : HasParts text → Cut text
  cut_of parts = record {
    removes = parts.removes;
    word = parts.word;
    tail = parts.tail;
    attributes = names_of (pieces_of 58 0 parts.word);
    cut = parts.cut;
    unblank = All-weaker (λ b. is_unblank b ≡ true) (λ b. is_blank b ≡ false) (λ b e. by (is_blank b) e) parts.word parts.passes;
    ends = ends parts.tail parts.stops;
    parts = found_is_cut 58 0 parts.word;
  }
    where
      by : (c : Bool) → not c ≡ true → c ≡ false
      by true e = absurd (cc)
      by false e = refl

      is_true : (c : Bool) → not c ≡ false → c ≡ true
      is_true true e = refl
      is_true false e = absurd (cc)

      ends : (tail : List ℕ) → BeginsNot is_unblank tail → BeginsBlank tail
      ends [] stops = inl refl
      ends (b ∷ rest) stops = inr (b, rest, refl, is_true (is_blank b) stops)

  -- ---- the laws

  leftmost_told : (at : ℕ) → IsHistText text → IsLeast (wrong_offsets text) at → IsLeftmostWrong text at
  leftmost_told at hist is =
      let cut = cut_of (parts_of text hist) in
      record { cut = cut; wrong = wrong_sound text cut at is.member; leftmost = λ other wrong. is.below other (wrong_complete text cut other wrong) }

  leftmost_found : (at : ℕ) → IsLeftmostWrong text at → IsLeast (wrong_offsets text) at
  leftmost_found at is = record { member = wrong_complete text is.cut at is.wrong; below = λ other member. is.leftmost other (wrong_sound text is.cut other member) }

  leftmost_syntax : (at : ℕ) → IsLeftmostWrong text at → (cause : HistCause) × (spec_of definition text ≡ Err (HistSyntax at cause)) × (hist_cause text at ≡ Some cause)
  leftmost_syntax at is = syntax_is at (is_least (wrong_offsets text) at (leftmost_found at is))

  pub syntax_is_leftmost : (at : ℕ) (cause : HistCause) → IsHistText text → (spec_of definition text ≡ Err (HistSyntax at cause)) ↔ (IsLeftmostWrong text at × (hist_cause text at ≡ Some cause))
  syntax_is_leftmost at cause hist = (λ e. told (is_syntax at cause e), λ is. found is.1 (leftmost_syntax at is.0))
    where
      told : IsSyntax at cause → IsLeftmostWrong text at × (hist_cause text at ≡ Some cause)
      told is = (leftmost_told at hist (least_is (wrong_offsets text) at is.least_is_at), is.is_caused)

      found : hist_cause text at ≡ Some cause → (other : HistCause) × (spec_of definition text ≡ Err (HistSyntax at other)) × (hist_cause text at ≡ Some other) → spec_of definition text ≡ Err (HistSyntax at cause)
      found caused (other, is, as_told) = let same : other ≡ cause = cc in is ∙ ap (λ (c : HistCause). Err (HistSyntax at c)) same

  nothing : (offsets : List ℕ) → least offsets ≡ None → offsets ≡ []
  nothing [] e = refl
  nothing (offset ∷ offsets) e = absurd (none_least (offset ∷ offsets) offset e (inl refl))

  -- a text is refused so, or nothing in it is wrong
  pub syntax_or_right : ((at : ℕ) × (cause : HistCause) × (spec_of definition text ≡ Err (HistSyntax at cause))) ⊎ (wrong_offsets text ≡ [])
  syntax_or_right = by (least (wrong_offsets text)) refl
    where
      by : (found : Option ℕ) → least (wrong_offsets text) ≡ found → ((at : ℕ) × (cause : HistCause) × (spec_of definition text ≡ Err (HistSyntax at cause))) ⊎ (wrong_offsets text ≡ [])
      by None e = inr (nothing (wrong_offsets text) e)
      by (Some at) e = let is = syntax_is at e in inl (at, is.0, is.1)

  pub syntax_is_unwritten : IsHistText text → ((at : ℕ) × (cause : HistCause) × (spec_of definition text ≡ Err (HistSyntax at cause))) ↔ ((settings : List Setting) → (condition : Option (List ℕ)) → IsWritten text settings condition → ⊥)
  syntax_is_unwritten hist = (λ is settings condition written. refused is (written_finds text settings condition written).none, λ unwritten. by unwritten (least (wrong_offsets text)) refl)
    where
      refused : (at : ℕ) × (cause : HistCause) × (spec_of definition text ≡ Err (HistSyntax at cause)) → wrong_offsets text ≡ [] → ⊥
      refused is none = let some = (is_syntax is.0 is.1 is.2).least_is_at in let never = ap least none in cc

      by : ((settings : List Setting) → (condition : Option (List ℕ)) → IsWritten text settings condition → ⊥) → (found : Option ℕ) → least (wrong_offsets text) ≡ found → (at : ℕ) × (cause : HistCause) × (spec_of definition text ≡ Err (HistSyntax at cause))
      by unwritten None e = let is = right_written text (parts_of text hist) (nothing (wrong_offsets text) e) in absurd (unwritten is.settings is.condition is.written)
      by unwritten (Some at) e = let is = syntax_is at e in (at, is.0, is.1)

pub leftmost_has_cause : (text : List ℕ) (at : ℕ) → IsHistText text → IsLeftmostWrong text at → (cause : HistCause) × (hist_cause text at ≡ Some cause)
leftmost_has_cause text at hist is = let told = least_leftmost text at (is_least (wrong_offsets text) at (found is)) in (told.cause, told.told)
  where
    found : IsLeftmostWrong text at → IsLeast (wrong_offsets text) at
    found is = record { member = wrong_complete text is.cut at is.wrong; below = λ other member. is.leftmost other (wrong_sound text is.cut other member) }
