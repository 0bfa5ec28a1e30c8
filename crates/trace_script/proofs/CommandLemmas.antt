-- Steps of the loops that read a command, and what `echo` writes.
use Rattle.std.proofs.Common.{◌≡◌, ◌≢◌, ℕ, List, [], ◌∷◌, ◌++◌, map, Bool, Option, Some, None, Result, Ok, refl, ap, sym, ◌∙◌, append_assoc}
use Rattle.std.proofs.lemmas.List.{append-nil}
use Rattle.std.specs.List.{join_with_byte}
use Rattle.std.specs.Option.{option_map}
use Rattle.trace_format.specs.declared.pair.Pair.{Pair}
use Rattle.trace_command.specs.Commands.{Command}
use Rattle.trace_command.specs.declared.command.CommandOf.TheVariants.{Write}
use Rattle.trace_script.specs.Commands.{IsWriteOf}
use Rattle.trace_script.specs.Lines.{write_behind, write_of}
use Rattle.trace_script.specs.declared.fault.ScriptFault.{ScriptFault}
use Rattle.trace_script.specs.declared.token.Token.{Token}
use Rattle.trace_script.specs.declared.token.Token.TheVariants.{Word, Redirect}

-- one more word
pub join_push : (words : List (List ℕ)) (word : List ℕ) → words ≢ [] → join_with_byte 32 (words ++ word ∷ []) ≡ join_with_byte 32 words ++ 32 ∷ word
join_push [] word some = absurd (some refl)
join_push (x ∷ []) word some = refl
join_push (x ∷ y ∷ words) word some =
    ap (λ (rest : List ℕ). x ++ (32 ∷ rest)) (join_push (y ∷ words) word (λ e. cc))
    ∙ sym (append_assoc x (32 ∷ join_with_byte 32 (y ∷ words)) (32 ∷ word))

-- some words are not none
pub push_some : (words : List (List ℕ)) (word : List ℕ) → words ++ word ∷ [] ≢ []
push_some [] word = λ e. cc
push_some (x ∷ words) word = λ e. cc

-- pairs found one after the other
pub pairs_append : (xs : List Pair) (y : Pair) (rest : Option (List Pair)) → option_map (λ more. (xs ++ y ∷ []) ++ more) rest ≡ option_map (λ more. xs ++ more) (option_map (λ more. y ∷ more) rest)
pairs_append xs y None = refl
pairs_append xs y (Some more) = ap Some (append_assoc xs (y ∷ []) more)

-- ---- what `echo` writes

words_joined : (front words : List (List ℕ)) (append : Bool) (path : List ℕ) → write_behind front (map Word words ++ Redirect append ∷ Word path ∷ []) ≡ Ok (Write path append (join_with_byte 32 (front ++ words)))
words_joined front [] append path = ap (λ (ws : List (List ℕ)). Ok (Write path append (join_with_byte 32 ws))) (sym (append-nil front))
words_joined front (word ∷ words) append path =
    words_joined (front ++ word ∷ []) words append path
    ∙ ap (λ (ws : List (List ℕ)). Ok (Write path append (join_with_byte 32 ws))) (append_assoc front (word ∷ []) words)

pub write_read : (tokens : List Token) (command : Command) → IsWriteOf tokens command → write_of tokens ≡ Ok command
unfolding write_of
write_read tokens command w =
    ap (write_behind []) w.written ∙ (words_joined [] w.words w.append w.path ∙ ap Ok (sym w.meaning))

-- what was written after these words
record WriteBehind (front : List (List ℕ)) (tokens : List Token) (command : Command) : Type 0 where
  words : List (List ℕ)
  append : Bool
  path : List ℕ
  written : tokens ≡ map Word words ++ Redirect append ∷ Word path ∷ []
  meaning : command ≡ Write path append (join_with_byte 32 (front ++ words))

ok_is : (a b : Command) → ◌≡◌ {A = Result Command ScriptFault} (Ok a) (Ok b) → a ≡ b
ok_is a b e = cc

write_found : (front : List (List ℕ)) (tokens : List Token) (command : Command) → write_behind front tokens ≡ Ok command → WriteBehind front tokens command
write_found front [] command e = absurd (cc)
write_found front (Word word ∷ tokens) command e =
    let r = write_found (front ++ word ∷ []) tokens command e in
    record {
      words = word ∷ r.words;
      append = r.append;
      path = r.path;
      written = ap (λ (ts : List Token). Word word ∷ ts) r.written;
      meaning = r.meaning ∙ ap (λ (ws : List (List ℕ)). Write r.path r.append (join_with_byte 32 ws)) (append_assoc front (word ∷ []) r.words);
    }
write_found front (Redirect append ∷ []) command e = absurd (cc)
write_found front (Redirect append ∷ Redirect other ∷ tokens) command e = absurd (cc)
write_found front (Redirect append ∷ Word path ∷ []) command e =
    record {
      words = [];
      append = append;
      path = path;
      written = refl;
      meaning = sym (ok_is (Write path append (join_with_byte 32 front)) command e) ∙ ap (λ (ws : List (List ℕ)). Write path append (join_with_byte 32 ws)) (sym (append-nil front));
    }
write_found front (Redirect append ∷ Word path ∷ token ∷ tokens) command e = absurd (cc)

pub write_written : (tokens : List Token) (command : Command) → write_of tokens ≡ Ok command → IsWriteOf tokens command
unfolding write_of
write_written tokens command e =
    let r = write_found [] tokens command e in
    record { words = r.words; append = r.append; path = r.path; written = r.written; meaning = r.meaning }
