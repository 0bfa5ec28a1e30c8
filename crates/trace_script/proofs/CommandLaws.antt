-- The commands that are found in words are those that are written so.
use Rattle.std.proofs.Common.{◌≡◌, ◌≢◌, ℕ, suc, ℤ, ◌+◌, ◌-◌, ◌<◌, ◌^◌, ◌==◌, Bool, true, false, not, cond, ltb, if◌then◌else◌, List, [], ◌∷◌, ◌++◌, length, take, drop, map, position, Option, Some, None, Result, Ok, Err, codes, refl, ap, sym, subst, ◌∙◌, arith, length-append}
use Rattle.std.proofs.Math.Seq.{take-append_seam, drop-append-add}
use Rattle.std.proofs.lemmas.Bool.{eq-eqb, eqb-true}
use Rattle.std.proofs.lemmas.Bool.Decides.{nat_tests}
use Rattle.std.proofs.lemmas.Option.{cond_some}
use Rattle.std.proofs.lemmas.Slice.Eq.{bytes_eq-Decides}
use borrow.Author.Tests.{ltb-true, lt-ltb}
use Rattle.std.specs.List.{AllByRecursion, position_or_len}
use Rattle.std.specs.Option.{option_map, option_and_then}
use Rattle.std.specs.Str.{bytes_eq}
use Rattle.trace_format.specs.declared.pair.Pair.{Pair}
use Rattle.trace_command.specs.Commands.{Command}
use Rattle.trace_command.specs.declared.command.CommandOf.TheVariants.{Emit, Mkdir, Rmdir, Read}
use Rattle.trace_script.specs.Outcomes.{or_fault, ◌>>=◌}
use Rattle.trace_script.specs.Lines.{number_up_to, process_id, pair_of, pairs_of, emission_of, only_word, write_of, read_of, take_of, mkdir_of, rmdir_of, named_command, alone, named_line, asked_of}
use Rattle.trace_script.specs.Commands.{pair_word, IsPair, IsEmissionOf, IsTakeOf, IsOfPath, IsCommandOf, AnEmit, AnEcho, ACat, ATake, AMkdir, ARmdir, IsAskedBy, ACommand, AParallel, AThread, AnEnd}
use Rattle.trace_script.specs.declared.fault.ScriptFault.{ScriptFault}
use Rattle.trace_script.specs.declared.fault.ScriptFault.TheVariants.{UnknownCommand, WrongWords, BadNumber}
use Rattle.trace_script.specs.declared.line.Line.{Line}
use Rattle.trace_script.specs.declared.line.Line.TheVariants.{Ask, Parallel, Thread, End}
use Rattle.trace_script.specs.declared.token.Token.{Token}
use Rattle.trace_script.specs.declared.token.Token.TheVariants.{Word, Redirect}
use Rattle.trace_script.proofs.CommandLemmas.{write_read, write_written}

-- ---- pairs

one_more : (n : ℕ) → 1 + n ≡ suc n
one_more n = omega arith

other_byte : (b : ℕ) → b ≢ 61 → (b == 61) ≡ false
other_byte b h = grind (arith, nat_tests)

-- the first `=` of a word follows its name
name_ends : (name value : List ℕ) → AllByRecursion (λ b. b ≢ 61) name → position_or_len (λ b. b == 61) (name ++ 61 ∷ value) ≡ length name
name_ends [] value h = refl
name_ends (b ∷ name) value h = rw (other_byte b h.0, name_ends name value h.1) (one_more (length name))

equals_at : (name value : List ℕ) → AllByRecursion (λ b. b ≢ 61) name → position (λ b. b == 61) (name ++ 61 ∷ value) ≡ Some (length name)
equals_at name value h =
    let e = name_ends name value h in
    let inside : ltb (length name) (length (name ++ 61 ∷ value)) ≡ true = lt-ltb _ _ (omega (arith, length-append name (61 ∷ value))) in
    rw e (rw inside refl)

pub pair_read : (pair : Pair) → IsPair pair → pair_of (pair.name ++ 61 ∷ pair.value) ≡ Some pair
unfolding pair_of
pair_read pair h =
    rw (equals_at pair.name pair.value h, take-append_seam pair.name (61 ∷ pair.value), drop-append-add pair.name (61 ∷ pair.value) 1) refl

-- a word is its bytes before the first `=`, this and the others
split_step : (t : Bool) (b : ℕ) (bs : List ℕ) (n : ℕ) → (b == 61) ≡ t → cond (not t) (1 + n) 0 < length (b ∷ bs)
    → (n < length bs → (bs ≡ take n bs ++ 61 ∷ drop (n + 1) bs) × AllByRecursion (λ x. x ≢ 61) (take n bs))
    → (b ∷ bs ≡ take (cond (not t) (1 + n) 0) (b ∷ bs) ++ 61 ∷ drop (cond (not t) (1 + n) 0 + 1) (b ∷ bs)) × AllByRecursion (λ x. x ≢ 61) (take (cond (not t) (1 + n) 0) (b ∷ bs))
split_step true b bs n e h rest = (ap (λ (x : ℕ). x ∷ bs) (eqb-true b 61 e), tt)
split_step false b bs n e h rest =
    let r = rest (omega arith) in
    let next : suc n + 1 ≡ suc (n + 1) = omega arith in
    rw (one_more n, next) (ap (λ (xs : List ℕ). b ∷ xs) r.0, (λ q. absurd (cc (eq-eqb b 61 q)), r.1))

split_word : (word : List ℕ) → position_or_len (λ b. b == 61) word < length word
    → (word ≡ take (position_or_len (λ b. b == 61) word) word ++ 61 ∷ drop (position_or_len (λ b. b == 61) word + 1) word)
    × AllByRecursion (λ b. b ≢ 61) (take (position_or_len (λ b. b == 61) word) word)
split_word [] h = absurd (omega arith)
split_word (b ∷ bs) h = split_step (b == 61) b bs (position_or_len (λ b. b == 61) bs) refl h (split_word bs)

split_at : (word : List ℕ) (at : ℕ) → position (λ b. b == 61) word ≡ Some at
    → (word ≡ take at word ++ 61 ∷ drop (at + 1) word) × AllByRecursion (λ b. b ≢ 61) (take at word)
split_at word at e =
    let n = position_or_len (λ b. b == 61) word in
    let h = cond_some (ltb n (length word)) n at e in
    subst (λ (k : ℕ). (word ≡ take k word ++ 61 ∷ drop (k + 1) word) × AllByRecursion (λ b. b ≢ 61) (take k word)) h.1 (split_word word (ltb-true _ _ h.0))

pair_at : (word : List ℕ) (pair : Pair) (at : Option ℕ) → position (λ b. b == 61) word ≡ at
    → option_map (λ at. record { name = take at word; value = drop (at + 1) word }) at ≡ Some pair → (word ≡ pair.name ++ 61 ∷ pair.value) × IsPair pair
pair_at word pair None f e = absurd (cc)
pair_at word pair (Some at) f e =
    let is : ◌≡◌ {A = Pair} (record { name = take at word; value = drop (at + 1) word }) pair = cc in
    subst (λ (q : Pair). (word ≡ q.name ++ 61 ∷ q.value) × IsPair q) is (split_at word at f)

pub pair_found : (word : List ℕ) (pair : Pair) → pair_of word ≡ Some pair → (word ≡ pair.name ++ 61 ∷ pair.value) × IsPair pair
unfolding pair_of
pair_found word pair e = pair_at word pair (position (λ b. b == 61) word) refl e

pub pairs_read : (pairs : List Pair) → AllByRecursion IsPair pairs → pairs_of (map pair_word pairs) ≡ Some pairs
unfolding pairs_of
pairs_read [] h = refl
pairs_read (pair ∷ pairs) h = rw (pair_read pair h.0, pairs_read pairs h.1) refl

pairs_step : (word : List ℕ) (tokens : List Token) (pairs : List Pair) (first : Option Pair) (others : Option (List Pair)) → pair_of word ≡ first → pairs_of tokens ≡ others
    → option_and_then (λ pair. option_map (λ more. pair ∷ more) others) first ≡ Some pairs
    → ((more : List Pair) → pairs_of tokens ≡ Some more → (tokens ≡ map pair_word more) × AllByRecursion IsPair more)
    → (◌≡◌ {A = List Token} (Word word ∷ tokens) (map pair_word pairs)) × AllByRecursion IsPair pairs
pairs_step word tokens pairs None others f g e rest = absurd (cc)
pairs_step word tokens pairs (Some pair) None f g e rest = absurd (cc)
pairs_step word tokens pairs (Some pair) (Some more) f g e rest =
    let p = pair_found word pair f in
    let r = rest more g in
    let is : ◌≡◌ {A = List Pair} (pair ∷ more) pairs = cc in
    subst (λ (q : List Pair). (◌≡◌ {A = List Token} (Word word ∷ tokens) (map pair_word q)) × AllByRecursion IsPair q) is
    (ap (λ (w : List ℕ). Word w ∷ tokens) p.0 ∙ ap (λ (ts : List Token). pair_word pair ∷ ts) r.0, (p.1, r.1))

pub pairs_found : (tokens : List Token) (pairs : List Pair) → pairs_of tokens ≡ Some pairs → (tokens ≡ map pair_word pairs) × AllByRecursion IsPair pairs
unfolding pairs_of
pairs_found [] pairs e =
    let is : ◌≡◌ {A = List Pair} [] pairs = cc in
    subst (λ (q : List Pair). (◌≡◌ {A = List Token} [] (map pair_word q)) × AllByRecursion IsPair q) is (refl, tt)
pairs_found (Redirect append ∷ tokens) pairs e = absurd (cc)
pairs_found (Word word ∷ tokens) pairs e = pairs_step word tokens pairs (pair_of word) (pairs_of tokens) refl refl e (pairs_found tokens)

-- ---- the words of each command

ok_is : (a b : Command) → ◌≡◌ {A = Result Command ScriptFault} (Ok a) (Ok b) → a ≡ b
ok_is a b e = cc

path_read : (of_path : List ℕ → Command) (tokens : List Token) (command : Command) → IsOfPath of_path tokens command
    → (only_word tokens >>= λ path. Ok (of_path path)) ≡ Ok command
path_read of_path tokens command r = rw (r.written, r.meaning) refl

path_found : (of_path : List ℕ → Command) (tokens : List Token) (command : Command) → (only_word tokens >>= λ path. Ok (of_path path)) ≡ Ok command
    → IsOfPath of_path tokens command
path_found of_path [] command e = absurd (cc)
path_found of_path (Redirect append ∷ tokens) command e = absurd (cc)
path_found of_path (Word path ∷ []) command e = record { path = path; written = refl; meaning = sym (ok_is (of_path path) command e) }
path_found of_path (Word path ∷ token ∷ tokens) command e = absurd (cc)

take_read : (tokens : List Token) (command : Command) → IsTakeOf tokens command → take_of tokens ≡ Ok command
unfolding take_of
take_read tokens command r = rw (r.written, r.number, r.meaning) refl

limit_found : (digits path : List ℕ) (command : Command) (number : Option ℕ) → number_up_to (2 ^ 64 - 1) digits ≡ number
    → (or_fault BadNumber number >>= λ limit. Ok (Read path (Some limit))) ≡ Ok command → IsTakeOf (Word digits ∷ Word path ∷ []) command
limit_found digits path command None f e = absurd (cc)
limit_found digits path command (Some limit) f e =
    record { digits = digits; path = path; limit = limit; written = refl; number = f; meaning = sym (ok_is (Read path (Some limit)) command e) }

take_found : (tokens : List Token) (command : Command) → take_of tokens ≡ Ok command → IsTakeOf tokens command
unfolding take_of
take_found [] command e = absurd (cc)
take_found (Redirect append ∷ tokens) command e = absurd (cc)
take_found (Word digits ∷ []) command e = absurd (cc)
take_found (Word digits ∷ Redirect append ∷ tokens) command e = absurd (cc)
take_found (Word digits ∷ Word path ∷ []) command e = limit_found digits path command (number_up_to (2 ^ 64 - 1) digits) refl e
take_found (Word digits ∷ Word path ∷ token ∷ tokens) command e = absurd (cc)

emission_read : (tokens : List Token) (command : Command) → IsEmissionOf tokens command → emission_of tokens ≡ Ok command
unfolding emission_of
emission_read tokens command r = rw (r.written, pairs_read (r.first ∷ r.more) r.pairs, r.cpu_number, r.pid_number, r.meaning) refl

emission_step : (cpu_digits pid_digits event : List ℕ) (token : Token) (tokens : List Token) (command : Command) (pairs : Option (List Pair)) (cpu : Option ℕ) (pid : Option ℤ)
    → pairs_of (token ∷ tokens) ≡ pairs → number_up_to (2 ^ 32 - 1) cpu_digits ≡ cpu → process_id pid_digits ≡ pid
    → (or_fault WrongWords pairs >>= λ pairs. or_fault BadNumber cpu >>= λ cpu. or_fault BadNumber pid >>= λ pid. Ok (Emit event cpu pid pairs)) ≡ Ok command
    → IsEmissionOf (Word cpu_digits ∷ Word pid_digits ∷ Word event ∷ token ∷ tokens) command
emission_step cpu_digits pid_digits event token tokens command None cpu pid f g h e = absurd (cc)
emission_step cpu_digits pid_digits event token tokens command (Some pairs) None pid f g h e = absurd (cc)
emission_step cpu_digits pid_digits event token tokens command (Some pairs) (Some cpu) None f g h e = absurd (cc)
emission_step cpu_digits pid_digits event token tokens command (Some []) (Some cpu) (Some pid) f g h e = absurd (cc (pairs_found (token ∷ tokens) [] f).0)
emission_step cpu_digits pid_digits event token tokens command (Some (first ∷ more)) (Some cpu) (Some pid) f g h e =
    let p = pairs_found (token ∷ tokens) (first ∷ more) f in
    record {
      cpu_digits = cpu_digits;
      pid_digits = pid_digits;
      event = event;
      first = first;
      more = more;
      cpu = cpu;
      pid = pid;
      written = ap (λ (ts : List Token). Word cpu_digits ∷ Word pid_digits ∷ Word event ∷ ts) p.0;
      pairs = p.1;
      cpu_number = g;
      pid_number = h;
      meaning = sym (ok_is (Emit event cpu pid (first ∷ more)) command e);
    }

emission_found : (tokens : List Token) (command : Command) → emission_of tokens ≡ Ok command → IsEmissionOf tokens command
unfolding emission_of
emission_found (Word cpu ∷ Word pid ∷ Word event ∷ token ∷ tokens) command e =
    emission_step cpu pid event token tokens command (pairs_of (token ∷ tokens)) (number_up_to (2 ^ 32 - 1) cpu) (process_id pid) refl refl refl e
emission_found _ command e = absurd (cc)

-- ---- commands

name_is : (name word : List ℕ) (tokens : List Token) → bytes_eq name word ≡ true → ◌≡◌ {A = List Token} (Word name ∷ tokens) (Word word ∷ tokens)
name_is name word tokens e = ap (λ (n : List ℕ). Word n ∷ tokens) ((bytes_eq-Decides name word).0 e)

-- a command that was read is what the line asks for
asked_ok : (read : Result Command ScriptFault) (command : Command) → read ≡ Ok command → ◌≡◌ {A = Result Line ScriptFault} (read >>= λ command. Ok (Ask command)) (Ok (Ask command))
asked_ok read command e = rw e refl

command_read : (tokens : List Token) (command : Command) → IsCommandOf tokens command → asked_of tokens ≡ Ok (Ask command)
unfolding asked_of named_line named_command read_of mkdir_of rmdir_of
command_read tokens command (AnEmit rest e r) = ap asked_of e ∙ asked_ok (emission_of rest) command (emission_read rest command r)
command_read tokens command (AnEcho rest e r) = ap asked_of e ∙ asked_ok (write_of rest) command (write_read rest command r)
command_read tokens command (ACat rest e r) = ap asked_of e ∙ asked_ok (read_of rest) command (path_read (λ path. Read path None) rest command r)
command_read tokens command (ATake rest e r) = ap asked_of e ∙ asked_ok (take_of rest) command (take_read rest command r)
command_read tokens command (AMkdir rest e r) = ap asked_of e ∙ asked_ok (mkdir_of rest) command (path_read Mkdir rest command r)
command_read tokens command (ARmdir rest e r) = ap asked_of e ∙ asked_ok (rmdir_of rest) command (path_read Rmdir rest command r)

pub tokens_read : (tokens : List Token) (line : Line) → IsAskedBy tokens line → asked_of tokens ≡ Ok line
unfolding asked_of named_line
tokens_read tokens line (ACommand command r e) = command_read tokens command r ∙ ap Ok (sym e)
tokens_read tokens line (AParallel e f) = ap asked_of e ∙ ap Ok (sym f)
tokens_read tokens line (AThread e f) = ap asked_of e ∙ ap Ok (sym f)
tokens_read tokens line (AnEnd e f) = ap asked_of e ∙ ap Ok (sym f)

-- the tests of a name, one by one
named_found : (name : List ℕ) (tokens : List Token) (command : Command) (emit echo cat take_n mkdir rmdir : Bool)
    → bytes_eq name (codes "emit") ≡ emit → bytes_eq name (codes "echo") ≡ echo → bytes_eq name (codes "cat") ≡ cat → bytes_eq name (codes "take") ≡ take_n
    → bytes_eq name (codes "mkdir") ≡ mkdir → bytes_eq name (codes "rmdir") ≡ rmdir
    → ◌≡◌ {A = Result Command ScriptFault} (if emit then emission_of tokens else (if echo then write_of tokens else (if cat then read_of tokens
    else (if take_n then take_of tokens else (if mkdir then mkdir_of tokens else (if rmdir then rmdir_of tokens else Err UnknownCommand)))))) (Ok command)
    → IsCommandOf (Word name ∷ tokens) command
unfolding read_of mkdir_of rmdir_of
named_found name tokens command true echo cat take_n mkdir rmdir a b c d f g e = AnEmit tokens (name_is name (codes "emit") tokens a) (emission_found tokens command e)
named_found name tokens command false true cat take_n mkdir rmdir a b c d f g e = AnEcho tokens (name_is name (codes "echo") tokens b) (write_written tokens command e)
named_found name tokens command false false true take_n mkdir rmdir a b c d f g e =
    ACat tokens (name_is name (codes "cat") tokens c) (path_found (λ path. Read path None) tokens command e)
named_found name tokens command false false false true mkdir rmdir a b c d f g e = ATake tokens (name_is name (codes "take") tokens d) (take_found tokens command e)
named_found name tokens command false false false false true rmdir a b c d f g e = AMkdir tokens (name_is name (codes "mkdir") tokens f) (path_found Mkdir tokens command e)
named_found name tokens command false false false false false true a b c d f g e = ARmdir tokens (name_is name (codes "rmdir") tokens g) (path_found Rmdir tokens command e)
named_found name tokens command false false false false false false a b c d f g e = absurd (cc)

command_written : (name : List ℕ) (tokens : List Token) (command : Command) → named_command name tokens ≡ Ok command → IsCommandOf (Word name ∷ tokens) command
unfolding named_command
command_written name tokens command e =
    named_found name tokens command (bytes_eq name (codes "emit")) (bytes_eq name (codes "echo")) (bytes_eq name (codes "cat")) (bytes_eq name (codes "take"))
    (bytes_eq name (codes "mkdir")) (bytes_eq name (codes "rmdir")) refl refl refl refl refl refl e

-- ---- lines

alone_found : (word : List ℕ) (which : Line) (tokens : List Token) (line : Line) → alone which tokens ≡ Ok line → (◌≡◌ {A = List Token} (Word word ∷ tokens) (Word word ∷ [])) × (line ≡ which)
alone_found word which [] line e = (refl, cc)
alone_found word which (token ∷ tokens) line e = absurd (cc)

command_asked : (name : List ℕ) (tokens : List Token) (line : Line) (read : Result Command ScriptFault) → named_command name tokens ≡ read
    → (read >>= λ command. Ok (Ask command)) ≡ Ok line → IsAskedBy (Word name ∷ tokens) line
command_asked name tokens line (Ok command) f e = ACommand command (command_written name tokens command f) (cc)
command_asked name tokens line (Err fault) f e = absurd (cc)

-- the tests of a name that is no command's, one by one
line_found : (name : List ℕ) (tokens : List Token) (line : Line) (parallel thread last : Bool)
    → bytes_eq name (codes "parallel") ≡ parallel → bytes_eq name (codes "thread") ≡ thread → bytes_eq name (codes "end") ≡ last
    → ◌≡◌ {A = Result Line ScriptFault} (if parallel then alone Parallel tokens else (if thread then alone Thread tokens else (if last then alone End tokens
    else (named_command name tokens >>= λ command. Ok (Ask command))))) (Ok line)
    → IsAskedBy (Word name ∷ tokens) line
line_found name tokens line true thread last a b c e =
    let h = alone_found (codes "parallel") Parallel tokens line e in AParallel (name_is name (codes "parallel") tokens a ∙ h.0) h.1
line_found name tokens line false true last a b c e =
    let h = alone_found (codes "thread") Thread tokens line e in AThread (name_is name (codes "thread") tokens b ∙ h.0) h.1
line_found name tokens line false false true a b c e =
    let h = alone_found (codes "end") End tokens line e in AnEnd (name_is name (codes "end") tokens c ∙ h.0) h.1
line_found name tokens line false false false a b c e = command_asked name tokens line (named_command name tokens) refl e

pub tokens_found : (tokens : List Token) (line : Line) → asked_of tokens ≡ Ok line → IsAskedBy tokens line
unfolding asked_of named_line
tokens_found [] line e = absurd (cc)
tokens_found (Redirect append ∷ tokens) line e = absurd (cc)
tokens_found (Word name ∷ tokens) line e =
    line_found name tokens line (bytes_eq name (codes "parallel")) (bytes_eq name (codes "thread")) (bytes_eq name (codes "end")) refl refl refl e
