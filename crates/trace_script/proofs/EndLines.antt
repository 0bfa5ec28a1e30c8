-- What a line `end` begins with.
use Rattle.std.proofs.Common.{◌≡◌, ◌≢◌, ℕ, true, false, List, [], ◌∷◌, ◌++◌, Some, Ok, refl, sym, subst, ◌∙◌}
use Rattle.std.specs.List.{flat_map, AllByRecursion}
use Rattle.trace_script.specs.Commands.{AsksFor, Nothing, Something, IsAskedBy, ACommand, AParallel, AThread, AnEnd}
use Rattle.trace_script.specs.Grammar.{WordPiece, Plain, Quoted, IsWordPiece, piece_text, piece_value, LinePart, Gap, Redirection, Written, part_text, part_tokens, IsLine, IsWritten}
use Rattle.trace_script.specs.Lines.{line_of}
use Rattle.trace_script.specs.Tokens.{tokens_of}
use Rattle.trace_script.specs.declared.line.Line.TheVariants.{End}
use Rattle.trace_script.specs.declared.token.Token.{Token}
use Rattle.trace_script.specs.declared.token.Token.TheVariants.{Word}
use Rattle.trace_script.specs.private.Words.{begins_as_end, BeginsToken}
use Rattle.trace_script.proofs.GrammarLaws.{line_written, written_read}
use Rattle.trace_script.proofs.LineLaws.{line_asks}

-- the token of a line `end`
the_end : List Token
the_end = Word (101 ∷ 110 ∷ 100 ∷ []) ∷ []

-- a word that stands for `end`, and what follows it
word_begins : (first : WordPiece) (more : List WordPiece) (rest : List ℕ) → IsWordPiece first → AllByRecursion IsWordPiece more
    → flat_map piece_value (first ∷ more) ≡ 101 ∷ 110 ∷ 100 ∷ [] → begins_as_end (flat_map piece_text (first ∷ more) ++ rest) ≡ true
word_begins (Quoted quote []) more rest is all e = rw is.0 refl
word_begins (Quoted quote (b ∷ bs)) more rest is all e = rw is.0 refl
word_begins (Plain b) [] rest is all e = absurd cc
word_begins (Plain b) (Plain c ∷ more) rest is all e =
    let first : b ≡ 101 = cc in
    let second : c ≡ 110 = cc in
    rw (first, second) refl
word_begins (Plain b) (Quoted quote inside ∷ more) rest is all e =
    let first : b ≡ 101 = cc in
    rw (first, all.0.0) refl

-- parts that stand for `end`, and do not begin with a blank
parts_begin : (parts : List LinePart) → IsLine parts → flat_map part_tokens parts ≡ the_end
    → (flat_map part_text parts ≢ [] → BeginsToken (flat_map part_text parts)) → begins_as_end (flat_map part_text parts) ≡ true
unfolding the_end
parts_begin [] lawful e first = absurd cc
parts_begin (Gap blank ∷ parts) lawful e first =
    let none : true ≡ false = sym lawful.0 ∙ first (λ none. cc) in
    absurd cc
parts_begin (Redirection append ∷ parts) lawful e first = absurd cc
parts_begin (Written one more ∷ parts) lawful e first =
    let word : flat_map piece_value (one ∷ more) ≡ 101 ∷ 110 ∷ 100 ∷ [] = cc in
    word_begins one more (flat_map part_text parts) lawful.0.0 lawful.0.1 word

written_begins : (rest : List ℕ) → IsWritten rest the_end → (rest ≢ [] → BeginsToken rest) → begins_as_end rest ≡ true
written_begins rest written first =
    let Begins : List ℕ → Type 0 = λ xs. (xs ≢ [] → BeginsToken xs) → begins_as_end xs ≡ true in
    subst Begins written.text (parts_begin written.parts written.lawful written.meaning) first

asked_end : (tokens : List Token) → IsAskedBy tokens End → tokens ≡ the_end
unfolding the_end
asked_end tokens (ACommand command is e) = absurd cc
asked_end tokens (AParallel is e) = absurd cc
asked_end tokens (AThread is e) = absurd cc
asked_end tokens (AnEnd is e) = is

asks_end : (line rest : List ℕ) → AsksFor line End → tokens_of rest ≡ tokens_of line → tokens_of rest ≡ Some the_end
asks_end line rest (Nothing lawful says e) same = absurd cc
asks_end line rest (Something lawful says tokens written asked) same =
    let is : tokens ≡ the_end = asked_end tokens asked in
    same ∙ written_read line tokens written ∙ rw is refl

-- a line `end` begins so behind the blanks at its front
pub end_begins : (line rest : List ℕ) → tokens_of rest ≡ tokens_of line → (rest ≢ [] → BeginsToken rest) → line_of line ≡ Ok End → begins_as_end rest ≡ true
end_begins line rest same first e =
    written_begins rest (line_written rest the_end (asks_end line rest (line_asks line End e) same)) first
