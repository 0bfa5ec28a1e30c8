-- Commands whose tokens are taken one by one.
use Rattle.std.proofs.Common.{◌≡◌, ℕ, ◌+◌, ◌==◌, take, drop, position, Bool, true, false, List, [], ◌∷◌, ◌++◌, length, Option, Some, None, Result, Ok, Err, MatchOption, IsErrAnd, refl, ap, sym, subst, ◌∙◌, arith}
use Rattle.std.specs.Option.{option_map}
use Rattle.std.proofs.lemmas.List.{append-nil, drop-drop}
use Rattle.trace_format.specs.declared.pair.Pair.{Pair}
use Rattle.trace_script.specs.Outcomes.{or_fault, Fails, Gives, ◌>>=◌}
use Rattle.trace_script.specs.Lines.{pair_of, pairs_of, emission_with, emission_of, only_word, take_of}
use Rattle.trace_script.specs.private.TokensLeft.{begins_with_word, IsPairAnd}
use Rattle.trace_script.specs.declared.fault.LineError.{LineError}
use Rattle.trace_script.specs.declared.fault.LineError.TheVariants.{Fault, Memory}
use Rattle.trace_script.specs.declared.fault.ScriptFault.{ScriptFault}
use Rattle.trace_script.specs.declared.fault.ScriptFault.TheVariants.{WrongWords}
use Rattle.trace_script.specs.declared.token.Token.{Token}
use Rattle.trace_script.specs.declared.token.Token.TheVariants.{Word, Redirect}

-- ---- pairs

-- a word with a `=`
pub pair_cut : (word name rest value : List ℕ) (at : ℕ) → Some at ≡ position (λ b. b == 61) word → name ≡ take at word → rest ≡ drop at word → value ≡ drop 1 rest
    → ◌≡◌ {A = Option Pair} (Some (record { name = name; value = value })) (pair_of word)
unfolding pair_of
pair_cut word name rest value at found front back after =
    let behind : value ≡ drop (at + 1) word = after ∙ ap (drop 1) back ∙ drop-drop 1 at word in
    rw (front, behind) (ap (option_map (λ at. record { name = take at word; value = drop (at + 1) word })) found)

-- and one without
pub no_equals : (word : List ℕ) → None ≡ position (λ b. b == 61) word → None ≡ pair_of word
unfolding pair_of
no_equals word none = ap (option_map (λ at. record { name = take at word; value = drop (at + 1) word })) none

-- a pair is taken
pub pair_taken : (tokens more : List Token) (word : List ℕ) (pair : Pair) → tokens ≡ Word word ∷ more → pair_of word ≡ Some pair → IsPairAnd tokens pair more
unfolding pairs_of
pair_taken tokens more word pair is found = record {
  pairs = ap pairs_of is ∙ ap (λ (o : Option Pair). Rattle.std.specs.Option.option_and_then (λ pair. option_map (λ pairs. pair ∷ pairs) (pairs_of more)) o) found;
  shorter = let e : length tokens ≡ length (Word word ∷ more) = ap length is in omega arith;
}

no_pairs : (tokens left : List Token) (items : List Pair) → option_map (λ more. items ++ more) (pairs_of left) ≡ pairs_of tokens → pairs_of left ≡ None
    → or_fault WrongWords (pairs_of tokens) ≡ Err WrongWords
no_pairs tokens left items e none = ap (or_fault WrongWords) (sym e ∙ ap (λ (o : Option (List Pair)). option_map (λ more. items ++ more) o) none)

-- the next token is a word, and no pair
pub no_pair : (tokens left more : List Token) (items : List Pair) (word : List ℕ) → option_map (λ more. items ++ more) (pairs_of left) ≡ pairs_of tokens → left ≡ Word word ∷ more
    → pair_of word ≡ None → or_fault WrongWords (pairs_of tokens) ≡ Err WrongWords
unfolding pairs_of
no_pair tokens left more items word e is none =
    no_pairs tokens left items e
    (ap pairs_of is ∙ ap (λ (o : Option Pair). Rattle.std.specs.Option.option_and_then (λ pair. option_map (λ pairs. pair ∷ pairs) (pairs_of more)) o) none)

-- the next token is a redirection
pub pairs_redirected : (tokens left more : List Token) (items : List Pair) (append : Bool) → option_map (λ more. items ++ more) (pairs_of left) ≡ pairs_of tokens → left ≡ Redirect append ∷ more
    → or_fault WrongWords (pairs_of tokens) ≡ Err WrongWords
unfolding pairs_of
pairs_redirected tokens left more items append e is = no_pairs tokens left items e (ap pairs_of is)

-- all are taken
pub pairs_done : (tokens left : List Token) (items : List Pair) → option_map (λ more. items ++ more) (pairs_of left) ≡ pairs_of tokens → left ≡ []
    → or_fault WrongWords (pairs_of tokens) ≡ Ok items
unfolding pairs_of
pairs_done tokens left items e none =
    ap (or_fault WrongWords) (sym e ∙ ap (λ ts. option_map (λ more. items ++ more) (pairs_of ts)) none) ∙ ap Ok (append-nil items)

pub none_taken : {A : Type 0} (o : Option A) (P : Type 0) (Q : A → Type 0) → MatchOption o P Q → ((a : A) → o ≡ Some a → ⊥) → P
none_taken None P Q h none = h
none_taken (Some a) P Q h none = absurd (none a refl)

pub fails_so : {A B : Type 0} (seen : A → B) (r : Result A LineError) (error : LineError) (read : Result B ScriptFault) → IsErrAnd r (λ e. e ≡ error) → Fails error read → Gives seen r read
fails_so seen (Ok a) error read is fails = absurd is
fails_so seen (Err e) error read is fails = subst (λ x. Fails x read) (sym is) fails

pub gives_err : {A : Type 0} (r : Result A LineError) (error : LineError) (read : Result A ScriptFault) → IsErrAnd r (λ e. e ≡ error) → Fails error read → Gives (λ a. a) r read
gives_err (Ok a) error read is fails = absurd is
gives_err (Err e) error read is fails = subst (λ x. Fails x read) (sym is) fails

-- ---- words

no_word : (P : List Token → Type 0) → P [] → ((append : Bool) (more : List Token) → P (Redirect append ∷ more)) → (tokens : List Token) → begins_with_word tokens ≡ false → P tokens
no_word P none redirected [] e = none
no_word P none redirected (Word word ∷ tokens) e = absurd (let same : true ≡ false = e in cc)
no_word P none redirected (Redirect append ∷ tokens) e = redirected append tokens

-- an emission without a CPU
pub no_cpu : (tokens : List Token) → begins_with_word tokens ≡ false → emission_of tokens ≡ Err WrongWords
unfolding emission_of
no_cpu tokens none = no_word (λ ts. emission_of ts ≡ Err WrongWords) refl (λ append more. refl) tokens none

-- without a process
pub no_process : (tokens more : List Token) (cpu : List ℕ) → tokens ≡ Word cpu ∷ more → begins_with_word more ≡ false → emission_of tokens ≡ Err WrongWords
unfolding emission_of
no_process tokens more cpu is none = ap emission_of is ∙ no_word (λ ts. emission_of (Word cpu ∷ ts) ≡ Err WrongWords) refl (λ append more. refl) more none

-- without an event
pub no_event : (tokens after more : List Token) (cpu pid : List ℕ) → tokens ≡ Word cpu ∷ after → after ≡ Word pid ∷ more → begins_with_word more ≡ false → emission_of tokens ≡ Err WrongWords
unfolding emission_of
no_event tokens after more cpu pid is then none =
    ap emission_of is ∙ (ap (λ ts. emission_of (Word cpu ∷ ts)) then
    ∙ no_word (λ ts. emission_of (Word cpu ∷ Word pid ∷ ts) ≡ Err WrongWords) refl (λ append more. refl) more none)

-- where one word had to be all
pub no_only_word : (tokens : List Token) → begins_with_word tokens ≡ false → only_word tokens ≡ Err WrongWords
no_only_word tokens none = no_word (λ ts. only_word ts ≡ Err WrongWords) refl (λ append more. refl) tokens none

pub more_than_word : (tokens more : List Token) (word : List ℕ) → tokens ≡ Word word ∷ more → (more ≡ [] → ⊥) → only_word tokens ≡ Err WrongWords
more_than_word tokens [] word is h = absurd (h refl)
more_than_word tokens (t ∷ ts) word is h = ap only_word is

pub just_word : (tokens more : List Token) (word : List ℕ) → tokens ≡ Word word ∷ more → more ≡ [] → only_word tokens ≡ Ok word
just_word tokens more word is none = ap only_word is ∙ ap (λ ts. only_word (Word word ∷ ts)) none

-- where two words had to be all
pub no_count : (tokens : List Token) → begins_with_word tokens ≡ false → take_of tokens ≡ Err WrongWords
unfolding take_of
no_count tokens none = no_word (λ ts. take_of ts ≡ Err WrongWords) refl (λ append more. refl) tokens none

-- ---- whole commands

-- an emission with a CPU, a process, an event and a pair or more
emission_is : (tokens after behind pairs : List Token) (cpu pid event : List ℕ) → tokens ≡ Word cpu ∷ after → after ≡ Word pid ∷ behind → behind ≡ Word event ∷ pairs → (pairs ≡ [] → ⊥)
    → emission_of tokens ≡ (or_fault WrongWords (pairs_of pairs) >>= λ pairs. emission_with cpu pid event pairs)
unfolding emission_of
emission_is tokens after behind [] cpu pid event is then at some = absurd (some refl)
emission_is tokens after behind (t ∷ ts) cpu pid event is then at some =
    ap emission_of is ∙ (ap (λ ts. emission_of (Word cpu ∷ ts)) then ∙ ap (λ ts. emission_of (Word cpu ∷ Word pid ∷ ts)) at)

pub emission_read : (tokens after behind pairs : List Token) (cpu pid event : List ℕ) (read : List Pair) → tokens ≡ Word cpu ∷ after → after ≡ Word pid ∷ behind → behind ≡ Word event ∷ pairs → (pairs ≡ [] → ⊥)
    → or_fault WrongWords (pairs_of pairs) ≡ Ok read → emission_of tokens ≡ emission_with cpu pid event read
emission_read tokens after behind pairs cpu pid event read is then at some found =
    emission_is tokens after behind pairs cpu pid event is then at some ∙ ap (λ r. r >>= λ pairs. emission_with cpu pid event pairs) found

-- of which the pairs are wrong
pub bad_pairs : (error : LineError) (tokens after behind pairs : List Token) (cpu pid event : List ℕ) → tokens ≡ Word cpu ∷ after → after ≡ Word pid ∷ behind → behind ≡ Word event ∷ pairs → (pairs ≡ [] → ⊥)
    → Fails error (or_fault WrongWords (pairs_of pairs)) → Fails error (emission_of tokens)
bad_pairs Memory tokens after behind pairs cpu pid event is then at some fails = tt
bad_pairs (Fault fault) tokens after behind pairs cpu pid event is then at some fails =
    emission_is tokens after behind pairs cpu pid event is then at some ∙ ap (λ r. r >>= λ pairs. emission_with cpu pid event pairs) fails

-- and without a pair
pub no_pairs_after : (tokens after behind pairs : List Token) (cpu pid event : List ℕ) → tokens ≡ Word cpu ∷ after → after ≡ Word pid ∷ behind → behind ≡ Word event ∷ pairs → pairs ≡ []
    → emission_of tokens ≡ Err WrongWords
unfolding emission_of
no_pairs_after tokens after behind pairs cpu pid event is then at none =
    ap emission_of is ∙ (ap (λ ts. emission_of (Word cpu ∷ ts)) then ∙ (ap (λ ts. emission_of (Word cpu ∷ Word pid ∷ ts)) at ∙ ap (λ ts. emission_of (Word cpu ∷ Word pid ∷ Word event ∷ ts)) none))
