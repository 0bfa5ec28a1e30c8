-- The fault that is told of a line is the one that it has.
use Rattle.std.proofs.Common.{◌≡◌, ◌<◌, ◌⊎◌, inl, inr, ℕ, ℤ, ◌-◌, ◌^◌, Bool, true, false, nat_lt, if◌then◌else◌, List, [], ◌∷◌, ◌++◌, length, map, Option, Some, None, Result, Ok, Err, codes, refl, ap, sym, subst, ◌∙◌, arith}
use Rattle.std.proofs.lemmas.Bool.Decides.{nat_tests}
use Rattle.std.specs.List.{list_all, join_with_byte}
use Rattle.std.specs.Str.{bytes_eq}
use Rattle.trace_format.specs.declared.pair.Pair.{Pair}
use Rattle.trace_command.specs.Commands.{Command}
use Rattle.trace_command.specs.declared.command.CommandOf.TheVariants.{Emit, Mkdir, Rmdir, Write, Read}
use Rattle.trace_script.specs.Commands.{pair_word, IsAskedBy, ACommand, AParallel, AThread, AnEnd, IsCommandOf, AnEmit, AnEcho, ACat, ATake, AMkdir, ARmdir}
use Rattle.trace_script.specs.Faults.{Shape, Emission, Writing, Limited, OnePath, NameAlone, shape_of, IsEmissionShaped, IsWriteShaped, IsShaped, named_shape, AreWrong, Unnamed, Misshaped, Misnumbered, HasFault, TooLong, WrongByte, OpenQuote, WrongTokens}
use Rattle.trace_script.specs.Grammar.{IsWritten}
use Rattle.trace_script.specs.Lines.{number_up_to, process_id, pairs_of, emission_of, only_word, redirected_to, write_behind, write_of, read_of, take_of, mkdir_of, rmdir_of, named_command, alone, named_line, asked_of, is_line_byte, says_nothing, spoken, line_of}
use Rattle.trace_script.specs.Outcomes.{or_fault, ◌>>=◌}
use Rattle.trace_script.specs.Tokens.{tokens_of}
use Rattle.trace_script.specs.declared.fault.ScriptFault.{ScriptFault}
use Rattle.trace_script.specs.declared.fault.ScriptFault.TheVariants.{LineTooLong, BadByte, UnclosedQuote, UnknownCommand, WrongWords, BadNumber}
use Rattle.trace_script.specs.declared.line.Line.{Line}
use Rattle.trace_script.specs.declared.line.Line.TheVariants.{Blank, Ask, Parallel, Thread, End}
use Rattle.trace_script.specs.declared.token.Token.{Token}
use Rattle.trace_script.specs.declared.token.Token.TheVariants.{Word, Redirect}
use Rattle.trace_script.proofs.CommandLaws.{pairs_found, pairs_read, tokens_read, tokens_found}
use Rattle.trace_script.proofs.CommandLemmas.{write_read}
use Rattle.trace_script.proofs.GrammarLaws.{line_written, written_read}
use Rattle.trace_script.proofs.LineLaws.{fits, is_short}

-- ---- what follows a name

-- the fault of what follows a name: it is not of the shape, or it is and has a wrong number
abbrev IsWrongAfter : Shape → List Token → ScriptFault → Type 0
IsWrongAfter shape tokens fault = ((IsShaped shape tokens → ⊥) × (fault ≡ WrongWords)) ⊎ (IsShaped shape tokens × (fault ≡ BadNumber))

fault_is : {A : Type 0} (a b : ScriptFault) → ◌≡◌ {A = Result A ScriptFault} (Err a) (Err b) → b ≡ a
fault_is a b e = cc

alone_wrong : (which : Line) (tokens : List Token) (fault : ScriptFault) → alone which tokens ≡ Err fault → IsWrongAfter NameAlone tokens fault
alone_wrong which [] fault e = absurd (cc)
alone_wrong which (token ∷ tokens) fault e = inl ((λ s. absurd (cc)), fault_is {A = Line} WrongWords fault e)

path_wrong : (of_path : List ℕ → Command) (tokens : List Token) (fault : ScriptFault) → (only_word tokens >>= λ path. Ok (of_path path)) ≡ Err fault → IsWrongAfter OnePath tokens fault
path_wrong of_path [] fault e = inl ((λ s. absurd (cc s.1)), fault_is {A = Command} WrongWords fault e)
path_wrong of_path (Redirect append ∷ tokens) fault e = inl ((λ s. absurd (cc s.1)), fault_is {A = Command} WrongWords fault e)
path_wrong of_path (Word path ∷ []) fault e = absurd (cc)
path_wrong of_path (Word path ∷ token ∷ tokens) fault e = inl ((λ s. absurd (cc s.1)), fault_is {A = Command} WrongWords fault e)

limit_wrong : (digits path : List ℕ) (fault : ScriptFault) (number : Option ℕ) → ◌≡◌ {A = Result Command ScriptFault} (or_fault BadNumber number >>= λ limit. Ok (Read path (Some limit))) (Err fault) → fault ≡ BadNumber
limit_wrong digits path fault None e = fault_is {A = Command} BadNumber fault e
limit_wrong digits path fault (Some limit) e = absurd (cc)

take_wrong : (tokens : List Token) (fault : ScriptFault) → take_of tokens ≡ Err fault → IsWrongAfter Limited tokens fault
unfolding take_of
take_wrong [] fault e = inl ((λ s. absurd (cc s.2)), fault_is {A = Command} WrongWords fault e)
take_wrong (Redirect append ∷ tokens) fault e = inl ((λ s. absurd (cc s.2)), fault_is {A = Command} WrongWords fault e)
take_wrong (Word digits ∷ []) fault e = inl ((λ s. absurd (cc s.2)), fault_is {A = Command} WrongWords fault e)
take_wrong (Word digits ∷ Redirect append ∷ tokens) fault e = inl ((λ s. absurd (cc s.2)), fault_is {A = Command} WrongWords fault e)
take_wrong (Word digits ∷ Word path ∷ []) fault e = inr ((digits, path, refl), limit_wrong digits path fault (number_up_to (2 ^ 64 - 1) digits) e)
take_wrong (Word digits ∷ Word path ∷ token ∷ tokens) fault e = inl ((λ s. absurd (cc s.2)), fault_is {A = Command} WrongWords fault e)

-- an `echo` has no other fault than wrong words
redirected_wrong : (append : Bool) (text : List ℕ) (tokens : List Token) (fault : ScriptFault) → redirected_to append text tokens ≡ Err fault → fault ≡ WrongWords
redirected_wrong append text [] fault e = fault_is {A = Command} WrongWords fault e
redirected_wrong append text (Redirect other ∷ tokens) fault e = fault_is {A = Command} WrongWords fault e
redirected_wrong append text (Word path ∷ []) fault e = absurd (cc)
redirected_wrong append text (Word path ∷ token ∷ tokens) fault e = fault_is {A = Command} WrongWords fault e

behind_wrong : (words : List (List ℕ)) (tokens : List Token) (fault : ScriptFault) → write_behind words tokens ≡ Err fault → fault ≡ WrongWords
behind_wrong words [] fault e = fault_is {A = Command} WrongWords fault e
behind_wrong words (Word word ∷ tokens) fault e = behind_wrong (words ++ word ∷ []) tokens fault e
behind_wrong words (Redirect append ∷ tokens) fault e = redirected_wrong append (join_with_byte 32 words) tokens fault e

write_shape : (tokens : List Token) (fault : ScriptFault) → write_of tokens ≡ Err fault → IsWriteShaped tokens → ⊥
write_shape tokens fault e s =
    let command : Command = Write s.path s.append (join_with_byte 32 s.words) in
    let done = write_read tokens command (record { words = s.words; append = s.append; path = s.path; written = s.written; meaning = refl }) in
    cc

write_wrong : (tokens : List Token) (fault : ScriptFault) → write_of tokens ≡ Err fault → IsWrongAfter Writing tokens fault
unfolding write_of
write_wrong tokens fault e = inl (write_shape tokens fault e, behind_wrong [] tokens fault e)

numbers_wrong : (event : List ℕ) (pairs : List Pair) (fault : ScriptFault) (cpu : Option ℕ) (pid : Option ℤ)
    → (or_fault BadNumber cpu >>= λ cpu. or_fault BadNumber pid >>= λ pid. Ok (Emit event cpu pid pairs)) ≡ Err fault → fault ≡ BadNumber
numbers_wrong event pairs fault None pid e = fault_is {A = Command} BadNumber fault e
numbers_wrong event pairs fault (Some cpu) None e = fault_is {A = Command} BadNumber fault e
numbers_wrong event pairs fault (Some cpu) (Some pid) e = absurd (cc)

emission_shape : (cpu pid event : List ℕ) (tokens : List Token) → pairs_of tokens ≡ None → IsEmissionShaped (Word cpu ∷ Word pid ∷ Word event ∷ tokens) → ⊥
emission_shape cpu pid event tokens e s =
    let same : tokens ≡ map pair_word (s.first ∷ s.more) = cc s.written in
    let found = pairs_read (s.first ∷ s.more) s.pairs in
    let other : pairs_of (map pair_word (s.first ∷ s.more)) ≡ None = sym (ap pairs_of same) ∙ e in
    cc

emission_step : (cpu pid event : List ℕ) (token : Token) (tokens : List Token) (fault : ScriptFault) (pairs : Option (List Pair)) → pairs_of (token ∷ tokens) ≡ pairs
    → (or_fault WrongWords pairs >>= λ pairs. or_fault BadNumber (number_up_to (2 ^ 32 - 1) cpu) >>= λ cpu. or_fault BadNumber (process_id pid) >>= λ pid. Ok (Emit event cpu pid pairs)) ≡ Err fault
    → IsWrongAfter Emission (Word cpu ∷ Word pid ∷ Word event ∷ token ∷ tokens) fault
emission_step cpu pid event token tokens fault None f e = inl (emission_shape cpu pid event (token ∷ tokens) f, fault_is {A = Command} WrongWords fault e)
emission_step cpu pid event token tokens fault (Some []) f e = absurd (cc (pairs_found (token ∷ tokens) [] f).0)
emission_step cpu pid event token tokens fault (Some (first ∷ more)) f e =
    let p = pairs_found (token ∷ tokens) (first ∷ more) f in
    inr (
      record {
        cpu = cpu;
        pid = pid;
        event = event;
        first = first;
        more = more;
        written = ap (λ (ts : List Token). Word cpu ∷ Word pid ∷ Word event ∷ ts) p.0;
        pairs = p.1;
      },
      numbers_wrong event (first ∷ more) fault (number_up_to (2 ^ 32 - 1) cpu) (process_id pid) e,
    )

emission_wrong : (tokens : List Token) (fault : ScriptFault) → emission_of tokens ≡ Err fault → IsWrongAfter Emission tokens fault
unfolding emission_of
emission_wrong (Word cpu ∷ Word pid ∷ Word event ∷ token ∷ tokens) fault e = emission_step cpu pid event token tokens fault (pairs_of (token ∷ tokens)) refl e
emission_wrong _ fault e = inl ((λ s. absurd (cc s.written)), fault_is {A = Command} WrongWords fault e)

-- ---- tokens

command_wrong : (read : Result Command ScriptFault) (fault : ScriptFault) → ◌≡◌ {A = Result Line ScriptFault} (read >>= λ command. Ok (Ask command)) (Err fault) → read ≡ Err fault
command_wrong (Ok command) fault e = absurd (cc)
command_wrong (Err other) fault e = ap Err (sym (fault_is {A = Line} other fault e))

-- tokens that have a fault ask for nothing
asks_nothing : (tokens : List Token) (fault : ScriptFault) → asked_of tokens ≡ Err fault → (line : Line) → IsAskedBy tokens line → ⊥
asks_nothing tokens fault e line a = let done = tokens_read tokens line a in cc

after_name : (name : List ℕ) (rest : List Token) (shape : Shape) (fault : ScriptFault) → asked_of (Word name ∷ rest) ≡ Err fault → shape_of name ≡ Some shape → IsWrongAfter shape rest fault
    → AreWrong (Word name ∷ rest) fault
after_name name rest shape fault e f (inl w) = Misshaped name rest shape refl f w.0 w.1
after_name name rest shape fault e f (inr w) = Misnumbered name rest shape refl f w.0 (asks_nothing (Word name ∷ rest) fault e) w.1

-- the tests of a name, one by one
name_step : (name : List ℕ) (rest : List Token) (fault : ScriptFault) (parallel thread last emit echo cat take_n mkdir rmdir : Bool) → asked_of (Word name ∷ rest) ≡ Err fault
    → shape_of name ≡ (if parallel then Some NameAlone else (if thread then Some NameAlone else (if last then Some NameAlone else (if emit then Some Emission
    else (if echo then Some Writing else (if cat then Some OnePath else (if take_n then Some Limited else (if mkdir then Some OnePath else (if rmdir then Some OnePath else None)))))))))
    → ◌≡◌ {A = Result Line ScriptFault} (if parallel then alone Parallel rest else (if thread then alone Thread rest else (if last then alone End rest
    else ((if emit then emission_of rest else (if echo then write_of rest else (if cat then read_of rest else (if take_n then take_of rest else (if mkdir then mkdir_of rest
    else (if rmdir then rmdir_of rest else Err UnknownCommand)))))) >>= λ command. Ok (Ask command))))) (Err fault)
    → AreWrong (Word name ∷ rest) fault
unfolding read_of mkdir_of rmdir_of
name_step name rest fault true thread last emit echo cat take_n mkdir rmdir a f e = after_name name rest NameAlone fault a f (alone_wrong Parallel rest fault e)
name_step name rest fault false true last emit echo cat take_n mkdir rmdir a f e = after_name name rest NameAlone fault a f (alone_wrong Thread rest fault e)
name_step name rest fault false false true emit echo cat take_n mkdir rmdir a f e = after_name name rest NameAlone fault a f (alone_wrong End rest fault e)
name_step name rest fault false false false true echo cat take_n mkdir rmdir a f e = after_name name rest Emission fault a f (emission_wrong rest fault (command_wrong (emission_of rest) fault e))
name_step name rest fault false false false false true cat take_n mkdir rmdir a f e = after_name name rest Writing fault a f (write_wrong rest fault (command_wrong (write_of rest) fault e))
name_step name rest fault false false false false false true take_n mkdir rmdir a f e =
    after_name name rest OnePath fault a f (path_wrong (λ path. Read path None) rest fault (command_wrong (read_of rest) fault e))
name_step name rest fault false false false false false false true mkdir rmdir a f e = after_name name rest Limited fault a f (take_wrong rest fault (command_wrong (take_of rest) fault e))
name_step name rest fault false false false false false false false true rmdir a f e = after_name name rest OnePath fault a f (path_wrong Mkdir rest fault (command_wrong (mkdir_of rest) fault e))
name_step name rest fault false false false false false false false false true a f e = after_name name rest OnePath fault a f (path_wrong Rmdir rest fault (command_wrong (rmdir_of rest) fault e))
name_step name rest fault false false false false false false false false false a f e = Unnamed f (fault_is {A = Line} UnknownCommand fault e)

pub tokens_wrong : (tokens : List Token) (fault : ScriptFault) → asked_of tokens ≡ Err fault → AreWrong tokens fault
unfolding asked_of named_line named_command
tokens_wrong [] fault e = Unnamed refl (fault_is {A = Line} UnknownCommand fault e)
tokens_wrong (Redirect append ∷ tokens) fault e = Unnamed refl (fault_is {A = Line} UnknownCommand fault e)
tokens_wrong (Word name ∷ rest) fault e =
    name_step name rest fault (bytes_eq name (codes "parallel")) (bytes_eq name (codes "thread")) (bytes_eq name (codes "end")) (bytes_eq name (codes "emit")) (bytes_eq name (codes "echo"))
    (bytes_eq name (codes "cat")) (bytes_eq name (codes "take")) (bytes_eq name (codes "mkdir")) (bytes_eq name (codes "rmdir")) e refl e

-- tokens that begin with the name of a line and are of its shape
record Shaped (tokens : List Token) : Type 0 where
  name : List ℕ
  rest : List Token
  shape : Shape
  written : tokens ≡ Word name ∷ rest
  known : shape_of name ≡ Some shape
  shaped : IsShaped shape rest

command_shape : (tokens : List Token) (command : Command) → IsCommandOf tokens command → Shaped tokens
command_shape tokens command (AnEmit rest e r) =
    record {
      name = codes "emit";
      rest = rest;
      shape = Emission;
      written = e;
      known = refl;
      shaped = record { cpu = r.cpu_digits; pid = r.pid_digits; event = r.event; first = r.first; more = r.more; written = r.written; pairs = r.pairs };
    }
command_shape tokens command (AnEcho rest e r) =
    record {
      name = codes "echo";
      rest = rest;
      shape = Writing;
      written = e;
      known = refl;
      shaped = record { words = r.words; append = r.append; path = r.path; written = r.written };
    }
command_shape tokens command (ACat rest e r) = record { name = codes "cat"; rest = rest; shape = OnePath; written = e; known = refl; shaped = (r.path, r.written) }
command_shape tokens command (ATake rest e r) = record { name = codes "take"; rest = rest; shape = Limited; written = e; known = refl; shaped = (r.digits, r.path, r.written) }
command_shape tokens command (AMkdir rest e r) = record { name = codes "mkdir"; rest = rest; shape = OnePath; written = e; known = refl; shaped = (r.path, r.written) }
command_shape tokens command (ARmdir rest e r) = record { name = codes "rmdir"; rest = rest; shape = OnePath; written = e; known = refl; shaped = (r.path, r.written) }

asked_shape : (tokens : List Token) (line : Line) → IsAskedBy tokens line → Shaped tokens
asked_shape tokens line (ACommand command r e) = command_shape tokens command r
asked_shape tokens line (AParallel e f) = record { name = codes "parallel"; rest = []; shape = NameAlone; written = e; known = refl; shaped = refl }
asked_shape tokens line (AThread e f) = record { name = codes "thread"; rest = []; shape = NameAlone; written = e; known = refl; shaped = refl }
asked_shape tokens line (AnEnd e f) = record { name = codes "end"; rest = []; shape = NameAlone; written = e; known = refl; shaped = refl }

same_shape : (tokens : List Token) (s : Shaped tokens) (name : List ℕ) (rest : List Token) (shape : Shape) → tokens ≡ Word name ∷ rest → shape_of name ≡ Some shape → IsShaped shape rest
same_shape tokens s name rest shape e k =
    let both : ◌≡◌ {A = List Token} (Word s.name ∷ s.rest) (Word name ∷ rest) = sym s.written ∙ e in
    let names : s.name ≡ name = cc in
    let rests : s.rest ≡ rest = cc in
    let shapes : ◌≡◌ {A = Option Shape} (Some s.shape) (Some shape) = sym s.known ∙ (ap shape_of names ∙ k) in
    let shape_is : s.shape ≡ shape = cc in
    subst (λ (which : Shape). IsShaped which rest) shape_is (subst (λ (ts : List Token). IsShaped s.shape ts) rests s.shaped)

unnamed : (tokens : List Token) (name : List ℕ) (rest : List Token) (shape : Shape) → named_shape tokens ≡ None → tokens ≡ Word name ∷ rest → shape_of name ≡ Some shape → ⊥
unnamed tokens name rest shape f e k = let g : named_shape tokens ≡ Some shape = ap named_shape e ∙ k in absurd (cc)

-- what is asked for has no fault
asked_right : (tokens : List Token) (line : Line) (fault : ScriptFault) → IsAskedBy tokens line → AreWrong tokens fault → ⊥
asked_right tokens line fault a (Unnamed f g) = let s = asked_shape tokens line a in unnamed tokens s.name s.rest s.shape f s.written s.known
asked_right tokens line fault a (Misshaped name rest shape e k n g) = n (same_shape tokens (asked_shape tokens line a) name rest shape e k)
asked_right tokens line fault a (Misnumbered name rest shape e k s n g) = n line a

shaped_twice : (tokens : List Token) (name other : List ℕ) (rest more : List Token) (shape which : Shape) → tokens ≡ Word name ∷ rest → shape_of name ≡ Some shape → (IsShaped shape rest → ⊥)
    → tokens ≡ Word other ∷ more → shape_of other ≡ Some which → IsShaped which more → ⊥
shaped_twice tokens name other rest more shape which e k n f l s =
    n (same_shape tokens (record { name = other; rest = more; shape = which; written = f; known = l; shaped = s }) name rest shape e k)

-- tokens have one fault
one_fault : (tokens : List Token) (a b : ScriptFault) → AreWrong tokens a → AreWrong tokens b → a ≡ b
one_fault tokens a b (Unnamed f g) (Unnamed h i) = g ∙ sym i
one_fault tokens a b (Unnamed f g) (Misshaped name rest shape e k n h) = absurd (unnamed tokens name rest shape f e k)
one_fault tokens a b (Unnamed f g) (Misnumbered name rest shape e k s n h) = absurd (unnamed tokens name rest shape f e k)
one_fault tokens a b (Misshaped name rest shape e k n h) (Unnamed f g) = absurd (unnamed tokens name rest shape f e k)
one_fault tokens a b (Misshaped name rest shape e k n h) (Misshaped other more which f l m i) = h ∙ sym i
one_fault tokens a b (Misshaped name rest shape e k n h) (Misnumbered other more which f l s m i) = absurd (shaped_twice tokens name other rest more shape which e k n f l s)
one_fault tokens a b (Misnumbered name rest shape e k s n h) (Unnamed f g) = absurd (unnamed tokens name rest shape f e k)
one_fault tokens a b (Misnumbered name rest shape e k s n h) (Misshaped other more which f l m i) = absurd (shaped_twice tokens other name more rest which shape f l m e k s)
one_fault tokens a b (Misnumbered name rest shape e k s n h) (Misnumbered other more which f l t m i) = h ∙ sym i

fault_told : (tokens : List Token) (fault : ScriptFault) (read : Result Line ScriptFault) → asked_of tokens ≡ read → AreWrong tokens fault → asked_of tokens ≡ Err fault
fault_told tokens fault (Ok line) e w = absurd (asked_right tokens line fault (tokens_found tokens line e) w)
fault_told tokens fault (Err other) e w = e ∙ ap Err (one_fault tokens other fault (tokens_wrong tokens other e) w)

-- ---- lines

over : (n : ℕ) → 4096 < n → nat_lt 4096 n ≡ true
over n h = grind (arith, nat_tests)

is_over : (n : ℕ) → nat_lt 4096 n ≡ true → 4096 < n
is_over n e = grind (arith, nat_tests)

open_written : (text : List ℕ) → tokens_of text ≡ None → (tokens : List Token) → IsWritten text tokens → ⊥
open_written text e tokens w = let f = written_read text tokens w in absurd (cc)

open_read : (text : List ℕ) (tokens : Option (List Token)) → tokens_of text ≡ tokens → ((tokens : List Token) → IsWritten text tokens → ⊥) → tokens_of text ≡ None
open_read text None e n = e
open_read text (Some tokens) e n = absurd (n tokens (line_written text tokens e))

-- the tests of a line, one by one
fault_step : (text : List ℕ) (fault : ScriptFault) (long lawful silent : Bool) (tokens : Option (List Token)) → nat_lt 4096 (length text) ≡ long
    → list_all is_line_byte text ≡ lawful → says_nothing text ≡ silent → tokens_of text ≡ tokens
    → ◌≡◌ {A = Result Line ScriptFault} (if long then Err LineTooLong else (if lawful then (if silent then Ok Blank
    else (or_fault UnclosedQuote tokens >>= λ tokens. asked_of tokens)) else Err BadByte)) (Err fault)
    → HasFault text fault
fault_step text fault true lawful silent tokens f g h i e = TooLong (is_over (length text) f) (fault_is {A = Line} LineTooLong fault e)
fault_step text fault false false silent tokens f g h i e = WrongByte (is_short (length text) f) g (fault_is {A = Line} BadByte fault e)
fault_step text fault false true true tokens f g h i e = absurd (cc)
fault_step text fault false true false None f g h i e =
    OpenQuote (record { short = is_short (length text) f; bytes = g }) h (open_written text i) (fault_is {A = Line} UnclosedQuote fault e)
fault_step text fault false true false (Some tokens) f g h i e =
    WrongTokens (record { short = is_short (length text) f; bytes = g }) h tokens (line_written text tokens i) (tokens_wrong tokens fault e)

pub fault_found : (text : List ℕ) (fault : ScriptFault) → line_of text ≡ Err fault → HasFault text fault
unfolding line_of spoken
fault_found text fault e = fault_step text fault (nat_lt 4096 (length text)) (list_all is_line_byte text) (says_nothing text) (tokens_of text) refl refl refl refl e

pub fault_read : (text : List ℕ) (fault : ScriptFault) → HasFault text fault → line_of text ≡ Err fault
unfolding line_of spoken
fault_read text fault (TooLong h e) = rw (over (length text) h, e) refl
fault_read text fault (WrongByte h b e) = rw (fits (length text) h, b, e) refl
fault_read text fault (OpenQuote lawful says n e) = rw (fits (length text) lawful.short, lawful.bytes, says, open_read text (tokens_of text) refl n, e) refl
fault_read text fault (WrongTokens lawful says tokens w r) =
    rw (fits (length text) lawful.short, lawful.bytes, says, written_read text tokens w) (fault_told tokens fault (asked_of tokens) refl r)
