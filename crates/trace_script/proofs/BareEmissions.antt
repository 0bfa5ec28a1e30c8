-- Emissions read where they lie: their words are cut, their numbers read, and their pairs taken one after the other.
use Rattle.std.proofs.Common.{◌≡◌, ◌≢◌, ℕ, ℤ, pos, ◌-◌, ◌^◌, ◌≤◌, nat_lt, Bool, true, false, ◌&&◌, ◌||◌, ◌==◌, if◌then◌else◌, List, [], ◌∷◌, ◌++◌, length, Option, Some, None, Result, Ok, Err, IsErr, IsSome, IfOk, IfSome, IfNone, codes, refl, ap, sym, subst, ◌∙◌, arith}
use Rattle.std.proofs.lemmas.Bool.Decides.{nat_tests}
use Rattle.std.proofs.lemmas.List.{append-nil}
use Rattle.std.specs.List.{list_all, list_any}
use Rattle.std.specs.Option.{option_map, option_and_then}
use Rattle.trace_format.specs.declared.pair.Pair.{Pair}
use Rattle.trace_command.specs.Commands.{Command}
use Rattle.trace_command.specs.declared.command.CommandOf.TheVariants.{Emit}
use Rattle.trace_script.specs.Lines.{number_up_to, process_id, pairs_of, emission_of, emission_with, is_line_byte, asked_of, spoken, line_of}
use Rattle.trace_script.specs.Outcomes.{or_fault, ◌>>=◌}
use Rattle.trace_script.specs.PlainEmissions.{emission_said, is_spaced, IsPlainEmission}
use Rattle.trace_script.specs.Tokens.{is_quote, behind, tokens_of}
use Rattle.trace_script.specs.private.Bytes.{rank, highest_rank}
use Rattle.trace_script.specs.private.Emissions.{asked_after_emit, pairs_in, emission_in}
use Rattle.trace_script.specs.declared.emission.EmissionHead.{EmissionHead}
use Rattle.trace_script.specs.declared.fault.ScriptFault.{ScriptFault}
use Rattle.trace_script.specs.declared.fault.ScriptFault.TheVariants.{LineTooLong, BadByte, WrongWords, BadNumber, UnclosedQuote}
use Rattle.trace_script.specs.declared.line.Line.TheVariants.{Ask}
use Rattle.trace_script.specs.declared.token.Token.{Token}
use Rattle.trace_script.specs.declared.token.Token.TheVariants.{Word}
use Rattle.trace_script.proofs.BareLines.{emit_cut, emit_says}
use Rattle.trace_script.proofs.ByteLemmas.{lawful}
use Rattle.trace_script.proofs.CommandLemmas.{pairs_append}
use Rattle.trace_script.proofs.EmissionLines.{emission_line}

-- ---- pairs

pairs_none : pairs_in [] ≡ Some []
unfolding tokens_of pairs_of
pairs_none = refl

-- the first pair of some
pub no_pairs_yet : (line : List ℕ) → option_map (λ (more : List Pair). [] ++ more) (pairs_in line) ≡ pairs_in line
no_pairs_yet line = by_option (pairs_in line)
  where
    by_option : (o : Option (List Pair)) → option_map (λ (more : List Pair). [] ++ more) o ≡ o
    by_option None = refl
    by_option (Some ps) = refl

pub some_pairs : (items : List Pair) (pair : Pair) → items ++ pair ∷ [] ≢ []
some_pairs [] pair = λ e. cc
some_pairs (p ∷ ps) pair = λ e. cc

module _ (line rest after : List ℕ) (items : List Pair) (pair : Pair) (invariant : option_map (λ more. items ++ more) (pairs_in rest) ≡ pairs_in line)
    (taken : pairs_in rest ≡ option_map (λ more. pair ∷ more) (pairs_in after)) where
  -- one pair more
  pub pairs_more : option_map (λ more. (items ++ pair ∷ []) ++ more) (pairs_in after) ≡ pairs_in line
  pairs_more =
      pairs_append items pair (pairs_in after)
      ∙ (ap (λ (o : Option (List Pair)). option_map (λ (more : List Pair). items ++ more) o) (sym taken) ∙ invariant)

  -- the last pair
  pub pairs_all : after ≡ [] → pairs_in line ≡ Some (items ++ pair ∷ [])
  pairs_all none =
      sym pairs_more
      ∙ ap (λ (xs : List ℕ). option_map (λ (more : List Pair). (items ++ pair ∷ []) ++ more) (pairs_in xs)) none
      ∙ ap (λ (o : Option (List Pair)). option_map (λ (more : List Pair). (items ++ pair ∷ []) ++ more) o) pairs_none
      ∙ ap Some (append-nil (items ++ pair ∷ []))

-- a word that is no pair
pub pairs_wrong : (line rest : List ℕ) (items : List Pair) → option_map (λ more. items ++ more) (pairs_in rest) ≡ pairs_in line → pairs_in rest ≡ None → pairs_in line ≡ None
pairs_wrong line rest items invariant none = sym invariant ∙ ap (λ (o : Option (List Pair)). option_map (λ (more : List Pair). items ++ more) o) none

-- ---- words

pub three_words : (a b c : Token) (xs ys zs : List ℕ) (rest : Option (List Token)) → tokens_of xs ≡ behind (a ∷ []) (tokens_of ys) → tokens_of ys ≡ behind (b ∷ []) (tokens_of zs)
    → tokens_of zs ≡ behind (c ∷ []) rest → tokens_of xs ≡ behind (a ∷ b ∷ c ∷ []) rest
three_words a b c xs ys zs rest e f g = e ∙ (ap (behind (a ∷ [])) (f ∙ ap (behind (b ∷ [])) g) ∙ by_option rest)
  where
    by_option : (o : Option (List Token)) → behind (a ∷ []) (behind (b ∷ []) (behind (c ∷ []) o)) ≡ behind (a ∷ b ∷ c ∷ []) o
    by_option None = refl
    by_option (Some ts) = refl

-- too few words
few_words : (text : List ℕ) (tokens : List Token) → tokens_of text ≡ Some tokens → emission_of tokens ≡ Err WrongWords → IsErr (emission_in text)
few_words text tokens e f = rw (e, f) refl

pub one_word : (text word : List ℕ) → tokens_of text ≡ Some (Word word ∷ []) → IsErr (emission_in text)
unfolding emission_of
one_word text word e = few_words text (Word word ∷ []) e refl

pub two_words : (text rest first word : List ℕ) → tokens_of text ≡ behind (Word first ∷ []) (tokens_of rest) → tokens_of rest ≡ Some (Word word ∷ []) → IsErr (emission_in text)
unfolding emission_of
two_words text rest first word e f = few_words text (Word first ∷ Word word ∷ []) (e ∙ ap (behind (Word first ∷ [])) f) refl

pub only_three_words : (text rest last first second word : List ℕ) → tokens_of text ≡ behind (Word first ∷ []) (tokens_of rest) → tokens_of rest ≡ behind (Word second ∷ []) (tokens_of last)
    → tokens_of last ≡ Some (Word word ∷ []) → IsErr (emission_in text)
unfolding emission_of
only_three_words text rest last first second word e f g =
    few_words text (Word first ∷ Word second ∷ Word word ∷ []) (e ∙ ap (behind (Word first ∷ [])) (f ∙ ap (behind (Word second ∷ [])) g)) refl

-- ---- an emission

-- what follows `emit`, of which these are the tokens after three words
abbrev told : List ℕ → List ℕ → List ℕ → Option (List Token) → Result Command ScriptFault
told cpu pid event rest = or_fault UnclosedQuote (behind (Word cpu ∷ Word pid ∷ Word event ∷ []) rest) >>= λ tokens. emission_of tokens

module _ (text pairs cpu pid event : List ℕ) (cut : tokens_of text ≡ behind (Word cpu ∷ Word pid ∷ Word event ∷ []) (tokens_of pairs)) where
  told_is : emission_in text ≡ told cpu pid event (tokens_of pairs)
  told_is = ap (λ (o : Option (List Token)). or_fault UnclosedQuote o >>= λ tokens. emission_of tokens) cut

  emission_read : (c : ℕ) (p : ℤ) (items : List Pair) → number_up_to (2 ^ 32 - 1) cpu ≡ Some c → process_id pid ≡ Some p
      → pairs_in pairs ≡ Some items → items ≢ [] → emission_in text ≡ Ok (Emit event c p items)
  unfolding pairs_of emission_of
  emission_read c p items e f g some = told_is ∙ by_tokens (tokens_of pairs) g
    where
      by_tokens : (o : Option (List Token)) → option_and_then pairs_of o ≡ Some items → told cpu pid event o ≡ Ok (Emit event c p items)
      by_tokens None g = absurd cc
      by_tokens (Some []) g = absurd (some (let is : ◌≡◌ {A = List Pair} [] items = cc in sym is))
      by_tokens (Some (t ∷ ts)) g = rw (g, e, f) refl

  pub wrong_pairs : pairs_in pairs ≡ None → IsErr (emission_in text)
  unfolding pairs_of emission_of
  wrong_pairs g = subst (λ (r : Result Command ScriptFault). IsErr r) (sym told_is) (by_tokens (tokens_of pairs) g)
    where
      by_tokens : (o : Option (List Token)) → option_and_then pairs_of o ≡ None → IsErr (told cpu pid event o)
      by_tokens None g = refl
      by_tokens (Some []) g = refl
      by_tokens (Some (t ∷ ts)) g = rw g refl

  no_number : ((items : List Pair) → IsErr (emission_with cpu pid event items)) → IsErr (emission_in text)
  unfolding emission_of
  no_number wrong = subst (λ (r : Result Command ScriptFault). IsErr r) (sym told_is) (by_tokens (tokens_of pairs))
    where
      by_pairs : (o : Option (List Pair)) → IsErr (or_fault WrongWords o >>= λ pairs. emission_with cpu pid event pairs)
      by_pairs None = refl
      by_pairs (Some items) = wrong items

      by_tokens : (o : Option (List Token)) → IsErr (told cpu pid event o)
      by_tokens None = refl
      by_tokens (Some []) = refl
      by_tokens (Some (t ∷ ts)) = by_pairs (pairs_of (t ∷ ts))

  pub no_cpu : number_up_to (2 ^ 32 - 1) cpu ≡ None → IsErr (emission_in text)
  no_cpu e = no_number (λ items. rw e refl)

  pub no_pid : process_id pid ≡ None → IsErr (emission_in text)
  no_pid e = no_number (λ items. by_cpu (number_up_to (2 ^ 32 - 1) cpu) items)
    where
      by_cpu : (o : Option ℕ) (items : List Pair) → IsErr (or_fault BadNumber o >>= λ cpu. or_fault BadNumber (process_id pid) >>= λ pid. Ok (Emit event cpu pid items))
      by_cpu None items = refl
      by_cpu (Some c) items = rw e refl

-- what is asked for by these words and pairs
pub rest_read : (text pairs cpu pid event : List ℕ) (c : ℕ) (p : ℤ) (items : List Pair) → tokens_of text ≡ behind (Word cpu ∷ Word pid ∷ Word event ∷ []) (tokens_of pairs)
    → number_up_to (2 ^ 32 - 1) cpu ≡ Some c → process_id pid ≡ Some p → pairs_in pairs ≡ Some items → items ≢ [] → asked_after_emit text ≡ Ok (Ask (Emit event c p items))
rest_read text pairs cpu pid event c p items cut e f g some =
    ap (λ (r : Result Command ScriptFault). r >>= λ command. Ok (Ask command)) (emission_read text pairs cpu pid event cut c p items e f g some)

-- ---- a line

module _ (line rest : List ℕ) (is : line ≡ codes "emit " ++ rest) where
  pub emission_spoken_in : spoken line ≡ (emission_in rest >>= λ command. Ok (Ask command))
  unfolding spoken asked_of
  emission_spoken_in = rw (emit_says line rest is, ap tokens_of is ∙ emit_cut rest) (by_tokens (tokens_of rest))
    where
      by_tokens : (o : Option (List Token)) → (or_fault UnclosedQuote (behind (Word (codes "emit") ∷ []) o) >>= λ tokens. asked_of tokens)
          ≡ ((or_fault UnclosedQuote o >>= λ tokens. emission_of tokens) >>= λ command. Ok (Ask command))
      by_tokens None = refl
      by_tokens (Some tokens) = emission_line (codes "emit") tokens refl

  pub line_said : length line ≤ 4096 → highest_rank line ≡ 0 → line_of line ≡ asked_after_emit rest
  unfolding line_of
  line_said short bare =
      let fits : nat_lt 4096 (length line) ≡ false = grind (arith, nat_tests) in
      rw (fits, lawful line (omega (arith, bare))) emission_spoken_in

  pub rest_is_bare : highest_rank line ≡ 0 → highest_rank rest ≡ 0
  rest_is_bare bare =
      let same : highest_rank line ≡ highest_rank (codes "emit " ++ rest) = ap highest_rank is in
      omega (arith, bare, same)

-- three words before a line
front_cut : (line : List ℕ) → tokens_of (codes "0 0 e " ++ line) ≡ behind (Word (codes "0") ∷ Word (codes "0") ∷ Word (codes "e") ∷ []) (tokens_of line)
unfolding tokens_of
front_cut line =
    three_words (Word (codes "0")) (Word (codes "0")) (Word (codes "e")) (codes "0 0 e " ++ line) (codes "0 e " ++ line) (codes "e " ++ line) (tokens_of line)
    refl refl refl

zero_is : process_id (codes "0") ≡ Some (pos 0)
unfolding process_id
zero_is = refl

-- the pairs that a line is, behind them
pub pairs_said : (line : List ℕ) (items : List Pair) → length line ≤ 4085 → highest_rank line ≡ 0 → pairs_in line ≡ Some items → items ≢ []
    → line_of (codes "emit 0 0 e " ++ line) ≡ Ok (Ask (Emit (codes "e") 0 (pos 0) items))
pairs_said line items short bare are some =
    line_said (codes "emit 0 0 e " ++ line) (codes "0 0 e " ++ line) refl (omega (arith, short)) (omega (arith, bare))
    ∙ rest_read (codes "0 0 e " ++ line) line (codes "0") (codes "0") (codes "e") 0 (pos 0) items (front_cut line) refl zero_is are some

pub pairs_said_if : (E : Type 0) (line : List ℕ) (items : List Pair) (cut : Result Bool E) → length line ≤ 4085 → highest_rank line ≡ 0
    → IfOk cut (λ is. is ≡ true → pairs_in line ≡ Some items) → IfOk cut (λ is. is ≡ true → items ≢ [])
    → IfOk cut (λ is. is ≡ true → line_of (codes "emit 0 0 e " ++ line) ≡ Ok (Ask (Emit (codes "e") 0 (pos 0) items)))
pairs_said_if E line items (Ok is) short bare are some = λ yes. pairs_said line items short bare (are yes) (some yes)
pairs_said_if E line items (Err error) short bare are some = are

module _ (line rest : List ℕ) (said : line_of line ≡ asked_after_emit rest) where
  -- a line that asks for something is no faulty emission
  not_faulty : (command : Command) → line_of line ≡ Ok (Ask command) → IsErr (emission_in rest) → ⊥
  not_faulty command asks wrong = by_read (emission_in rest) (sym said ∙ asks) wrong
    where
      by_read : (r : Result Command ScriptFault) → (r >>= λ command. Ok (Ask command)) ≡ Ok (Ask command) → IsErr r → ⊥
      by_read (Ok c) e wrong = cc
      by_read (Err fault) e wrong = cc

  pub not_found : (IsPlainEmission line → is_spaced true rest ≡ true) → (is_spaced true rest ≡ true → IsErr (emission_in rest)) → IsPlainEmission line → ⊥
  not_found spaced wrong plain = not_faulty plain.command plain.asks (wrong (spaced plain))

-- what is found is what the line asks for
pub said_read : (E : Type 0) (line rest : List ℕ) (items : List Pair) (found : Result (Option EmissionHead) E) → line_of line ≡ asked_after_emit rest
    → IfOk found (λ o. IfSome o (λ head. asked_after_emit rest ≡ emission_said head items)) → IfOk found (λ o. IfSome o (λ head. line_of line ≡ emission_said head items))
said_read E line rest items (Ok None) said read = read
said_read E line rest items (Ok (Some head)) said read = said ∙ read
said_read E line rest items (Err error) said read = read

-- and no emission is missed
pub all_found : (E : Type 0) (line rest : List ℕ) (found : Result (Option EmissionHead) E) → line_of line ≡ asked_after_emit rest
    → (IsPlainEmission line → is_spaced true rest ≡ true) → IfOk found (λ o. IfNone o (is_spaced true rest ≡ true → IsErr (emission_in rest)))
    → IfOk found (λ o. IsPlainEmission line → IsSome o)
all_found E line rest (Ok None) said spaced none = λ plain. absurd (not_found line rest said spaced none plain)
all_found E line rest (Ok (Some head)) said spaced none = λ plain. refl
all_found E line rest (Err error) said spaced none = none

-- ---- a line that has to be found

pub asks_short : (line : List ℕ) (command : Command) → line_of line ≡ Ok (Ask command) → length line ≤ 4096
unfolding line_of
asks_short line command asks = by_test (nat_lt 4096 (length line)) refl asks
  where
    by_test : (t : Bool) → nat_lt 4096 (length line) ≡ t
        → (if t then Err LineTooLong else (if list_all is_line_byte line then spoken line else Err BadByte)) ≡ Ok (Ask command) → length line ≤ 4096
    by_test true e asks = absurd cc
    by_test false e asks = grind (arith, nat_tests)

asks_lawful : (line : List ℕ) (command : Command) → line_of line ≡ Ok (Ask command) → list_all is_line_byte line ≡ true
unfolding line_of
asks_lawful line command asks = by_tests (nat_lt 4096 (length line)) (list_all is_line_byte line) asks
  where
    by_tests : (s t : Bool) → (if s then Err LineTooLong else (if t then spoken line else Err BadByte)) ≡ Ok (Ask command) → t ≡ true
    by_tests true t asks = absurd cc
    by_tests false true asks = refl
    by_tests false false asks = absurd cc

both_true : (x y : Bool) → (x && y) ≡ true → (x ≡ true) × (y ≡ true)
both_true true y e = (refl, e)
both_true false y e = absurd cc

neither : (x y : Bool) → (x || y) ≡ false → (x ≡ false) × (y ≡ false)
neither true y e = absurd cc
neither false y e = (refl, e)

bare_byte : (b : ℕ) → is_line_byte b ≡ true → (is_quote b || b == 62) ≡ false → rank b ≡ 0
bare_byte b e f =
    let h = neither (is_quote b) (b == 62) f in
    rw (e, h.0, h.1) refl

bare_bytes : (line : List ℕ) → list_all is_line_byte line ≡ true → list_any (λ b. is_quote b || b == 62) line ≡ false → highest_rank line ≡ 0
bare_bytes [] e f = refl
bare_bytes (b ∷ bs) e f =
    let g = both_true (is_line_byte b) (list_all is_line_byte bs) e in
    let h = neither (is_quote b || b == 62) (list_any (λ b. is_quote b || b == 62) bs) f in
    omega (arith, bare_byte b g.0 h.0, bare_bytes bs g.1 h.1)

pub plain_bare : (line : List ℕ) → IsPlainEmission line → highest_rank line ≡ 0
plain_bare line is = bare_bytes line (asks_lawful line is.command is.asks) is.plain

pub plain_short : (line : List ℕ) → IsPlainEmission line → length line ≤ 4096
plain_short line is = asks_short line is.command is.asks

-- what follows `emit` in it
pub plain_rest : (line rest : List ℕ) → line ≡ codes "emit " ++ rest → IsPlainEmission line → is_spaced true rest ≡ true
plain_rest line rest is plain = sym (ap (is_spaced true) is) ∙ plain.spaced
