-- The first line of what was written to a stream, and of several lines the one that is refused where no byte is done.
use Rattle.std.proofs.Common.{◌≡◌, ◌⊎◌, inl, inr, ℕ, ◌+◌, ◌-◌, ◌<◌, ◌≤◌, ◌==◌, suc, nat_lt, Bool, true, false, not, ◌&&◌, cond, if◌then◌else◌, List, [], ◌∷◌, ◌++◌, length, take, Option, Some, None, unwrap_or, Ok, Err, refl, sym, ap, subst, ◌∙◌, add-one, arith, ltb-true}
use Rattle.std.proofs.Math.Dec.{eqb-suc-zero}
use Rattle.std.proofs.lemmas.Bool.{false≢true}
use Rattle.std.proofs.lemmas.List.Splits.{join_with_byte-slice_split}
use Rattle.std.specs.List.{before_first, join_with_byte, onto_first, position_or_len}
use Rattle.trace_command.specs.Requests.{Request}
use Rattle.trace_command.specs.declared.refusal.Refusal.{Refusal}
use Rattle.trace_command.specs.declared.refusal.Refusal.TheVariants.{Memory}
use Rattle.file_list.specs.FileKinds.{takes_lines}
use Rattle.file_list.specs.declared.file.File.{File}
use Rattle.mount_replies.proofs.AnswerLemmas.{may-line}
use Rattle.mount_replies.proofs.KeptLines.{neither}
use Rattle.mount_replies.proofs.KeptTexts.{either}
use Rattle.mount_replies.specs.Lines.{command_lines, has_newline, is_blank_line, is_newline, line_at_once, lines_of, most_kept, one_command, pieces_of, stream_lines, without_newline}
use Rattle.mount_replies.specs.Mounted.{IsLineRun, IsRun, MayAnswer, MayRun}
use Rattle.mount_replies.specs.ServedErrors.{IsFirstRefused, IsRefusedFor}
use Rattle.mount_replies.specs.Services.{Terms}
use Rattle.mount_replies.specs.Steps.{Asking, AsksFor, AsksNothing, IsTooLong, IsWrongLine, LineAsked, LineRefused, Ran}
use Rattle.mount_replies.specs.declared.fault.LineFault.{LineFault}
use Rattle.mount_replies.specs.declared.fault.LineFault.TheVariants.{NoCommand, Refused, TooLong}

-- ---- the first line of bytes

abbrev pub first_of : List (List ℕ) → List ℕ
first_of [] = []
first_of (piece ∷ pieces) = piece

onto-first : (b : ℕ) (pieces : List (List ℕ)) → first_of (onto_first b pieces) ≡ b ∷ first_of pieces
onto-first b [] = refl
onto-first b (piece ∷ pieces) = refl

take-one : (n b : ℕ) (bytes : List ℕ) → take (1 + n) (b ∷ bytes) ≡ b ∷ take n bytes
take-one n b bytes = let e : 1 + n ≡ suc n = omega arith in rw e refl

first-more : (b : ℕ) (bytes : List ℕ) → is_newline b ≡ false → before_first is_newline (b ∷ bytes) ≡ b ∷ before_first is_newline bytes
first-more b bytes is = by (is_newline b) is
  where
    n : ℕ
    n = position_or_len is_newline bytes

    by : (t : Bool) → t ≡ false → take (cond (not t) (1 + n) 0) (b ∷ bytes) ≡ b ∷ take n bytes
    by true h = absurd (false≢true (sym h))
    by false h = take-one n b bytes

first-none : (b : ℕ) (bytes : List ℕ) → is_newline b ≡ true → before_first is_newline (b ∷ bytes) ≡ []
first-none b bytes is = by (is_newline b) is
  where
    by : (t : Bool) → t ≡ true → take (cond (not t) (1 + position_or_len is_newline bytes) 0) (b ∷ bytes) ≡ []
    by true h = refl
    by false h = absurd (false≢true h)

-- the first piece is what comes before the first newline
pub piece-first : (bytes : List ℕ) → first_of (pieces_of bytes) ≡ before_first is_newline bytes
piece-first [] = refl
piece-first (b ∷ bytes) = by (is_newline b) refl (piece-first bytes)
  where
    by : (t : Bool) → is_newline b ≡ t → first_of (pieces_of bytes) ≡ before_first is_newline bytes
        → first_of (cond t ([] ∷ pieces_of bytes) (onto_first b (pieces_of bytes))) ≡ before_first is_newline (b ∷ bytes)
    by true is rest = sym (first-none b bytes is)
    by false is rest = onto-first b (pieces_of bytes) ∙ ap (λ (l : List ℕ). b ∷ l) rest ∙ sym (first-more b bytes is)

-- all of it, where there is none
pub all-first : (bytes : List ℕ) → has_newline bytes ≡ false → before_first is_newline bytes ≡ bytes
all-first [] none = refl
all-first (b ∷ bytes) none =
    let both = neither (is_newline b) (has_newline bytes) none in first-more b bytes both.0 ∙ ap (λ (l : List ℕ). b ∷ l) (all-first bytes both.1)

-- it begins with bytes that have none
pub begins-with : (rest bytes : List ℕ) → has_newline rest ≡ false → length rest ≤ length (before_first is_newline (rest ++ bytes))
begins-with [] bytes none = omega arith
begins-with (b ∷ rest) bytes none =
    let both = neither (is_newline b) (has_newline rest) none in
    let more : length rest ≤ length (before_first is_newline (rest ++ bytes)) = begins-with rest bytes both.1 in
    subst (λ (l : List ℕ). suc (length rest) ≤ length l) (sym (first-more b (rest ++ bytes) both.0)) (omega (arith, more))

one-piece : (bytes rest : List ℕ) → pieces_of bytes ≡ rest ∷ [] → rest ≡ bytes
one-piece bytes rest is = ap (λ (l : List (List ℕ)). join_with_byte 10 l) (sym is) ∙ join_with_byte-slice_split 10 bytes

-- ---- where the first line is refused

-- each line but the last ends after a byte
abbrev pub EndLater : List LineAsked → Type 0
EndLater [] = Unit {0}
EndLater (line ∷ lines) = (((line.end == 0) ≡ false) ⊎ (lines ≡ [])) × EndLater lines

none-after : {A : Type 0} (past : List Request) (done : ℕ) (ran : Ran) (line : LineRefused) → ran ≡ record { past = past; done = done; refused = None }
    → ran.refused ≡ Some line → A
none-after past done ran line is refused = absurd (let no : None ≡ Some line = sym (ap (λ (r : Ran). r.refused) is) ∙ refused in cc)

-- lines that follow others are not the first
some-were-done : (g : Terms) (past : List Request) (done : ℕ) (lines : List LineAsked) (ran : Ran) (line : LineRefused) → EndLater lines → IsRun g past done lines ran
    → ran.refused ≡ Some line → ((done == 0) ≡ false) ⊎ (lines ≡ []) → (ran.done == 0) ≡ false
some-were-done g past done [] ran line ends runs refused later = none-after past done ran line runs refused
some-were-done g past done (first ∷ lines) ran line ends runs refused (inr none) = absurd (let no : first ∷ lines ≡ [] = none in cc)
some-were-done g past done (first ∷ lines) ran line ends runs refused (inl some) =
    by first.asking (λ now run. some-were-done g now first.end lines ran line ends.1 run refused ends.0) runs
  where
    stops : (now : List Request) (text : List ℕ) (fault : LineFault) → ran ≡ record { past = now; done = done; refused = Some (record { text = text; fault = fault }) }
        → (ran.done == 0) ≡ false
    stops now text fault is = ap (λ (r : Ran). r.done == 0) is ∙ some

    by : (asking : Asking) → ((now : List Request) → IsRun g now first.end lines ran → (ran.done == 0) ≡ false)
        → IsLineRun g past done first.text (λ (now : List Request). IsRun g now first.end lines ran) ran asking → (ran.done == 0) ≡ false
    by AsksNothing more run = more past run
    by IsWrongLine more (inl is) = stops past first.text NoCommand is
    by IsWrongLine more (inr is) = stops past first.text (Refused Memory) is
    by IsTooLong more (inl is) = stops past first.text TooLong is
    by IsTooLong more (inr is) = stops past first.text (Refused Memory) is
    by (AsksFor request) more (Ok answer, answered, run) = more (request ∷ past) run
    by (AsksFor request) more (Err refusal, answered, is) = stops past first.text (Refused refusal) is

-- where no byte is done, no command is, and the first line is refused, or memory
abbrev pub FirstStops : Terms → List Request → List LineAsked → List ℕ → LineFault → Type 0
FirstStops g past lines text fault = (fault ≡ Refused Memory) ⊎ IsFirstRefused g past lines text fault

refused-first : (g : Terms) (past : List Request) (first : LineAsked) (lines : List LineAsked) (fault : LineFault) → IsRefusedFor g past fault first.asking
    → FirstStops g past (first ∷ lines) first.text fault
refused-first g past first lines fault refused = inr (record { first = first; more = lines; lines_are = refl; text_is = refl; refused = refused })

command-first : (g : Terms) (past : List Request) (first : LineAsked) (lines : List LineAsked) (command : Request) (refusal : Refusal) → first.asking ≡ AsksFor command
    → MayAnswer g past command (Err refusal) → FirstStops g past (first ∷ lines) first.text (Refused refusal)
command-first g past first lines command Memory asks answered = inl refl
command-first g past first lines command refusal asks answered =
    refused-first g past first lines (Refused refusal)
    (subst (λ (a : Asking). IsRefusedFor g past (Refused refusal) a) (sym asks) (answered (λ same. absurd (cc))))

stops-so : (g : Terms) (past : List Request) (lines : List LineAsked) (ran : Ran) (line : LineRefused) (text : List ℕ) (fault : LineFault)
    → ran ≡ record { past = past; done = 0; refused = Some (record { text = text; fault = fault }) } → ran.refused ≡ Some line → FirstStops g past lines text fault
    → (ran.past ≡ past) × FirstStops g past lines line.text line.fault
stops-so g past lines ran line text fault is refused stops =
    let same : record { text = text; fault = fault } ≡ line =
    ap (λ (o : Option LineRefused). unwrap_or o line) (sym (ap (λ (r : Ran). r.refused) is) ∙ refused) in
    (ap (λ (r : Ran). r.past) is, subst (λ (l : LineRefused). FirstStops g past lines l.text l.fault) same stops)

pub first-refused : (g : Terms) (past : List Request) (lines : List LineAsked) (ran : Ran) (line : LineRefused) → EndLater lines → MayRun g past lines ran
    → ran.refused ≡ Some line → (ran.done == 0) ≡ true → (ran.past ≡ past) × FirstStops g past lines line.text line.fault
first-refused g past lines ran line ends (inr is) refused none = stops-so g past lines ran line [] (Refused Memory) is.0 refused (inl refl)
first-refused g past [] ran line ends (inl runs) refused none = none-after past 0 ran line runs refused
first-refused g past (first ∷ lines) ran line ends (inl runs) refused none = by first.asking refl runs
  where
    more : (now : List Request) → IsRun g now first.end lines ran → (ran.past ≡ past) × FirstStops g past (first ∷ lines) line.text line.fault
    more now run = absurd (let no : true ≡ false = sym none ∙ some-were-done g now first.end lines ran line ends.1 run refused ends.0 in cc)

    wrong : (asking : Asking) (fault : LineFault) → first.asking ≡ asking → IsRefusedFor g past fault asking → FirstStops g past (first ∷ lines) first.text fault
    wrong asking fault is holds = refused-first g past first lines fault (subst (λ (a : Asking). IsRefusedFor g past fault a) (sym is) holds)

    by : (asking : Asking) → first.asking ≡ asking → IsLineRun g past 0 first.text (λ (now : List Request). IsRun g now first.end lines ran) ran asking
        → (ran.past ≡ past) × FirstStops g past (first ∷ lines) line.text line.fault
    by AsksNothing is run = more past run
    by IsWrongLine is (inl stopped) = stops-so g past (first ∷ lines) ran line first.text NoCommand stopped refused (wrong IsWrongLine NoCommand is tt)
    by IsWrongLine is (inr stopped) = stops-so g past (first ∷ lines) ran line first.text (Refused Memory) stopped refused (inl refl)
    by IsTooLong is (inl stopped) = stops-so g past (first ∷ lines) ran line first.text TooLong stopped refused (wrong IsTooLong TooLong is tt)
    by IsTooLong is (inr stopped) = stops-so g past (first ∷ lines) ran line first.text (Refused Memory) stopped refused (inl refl)
    by (AsksFor request) is (Ok answer, answered, run) = more (request ∷ past) run
    by (AsksFor request) is (Err refusal, answered, stopped) =
        stops-so g past (first ∷ lines) ran line first.text (Refused refusal) stopped refused (command-first g past first lines request refusal is (may-line g past request (Err refusal) answered))

-- ---- of commands

commands-end : (asking : Bool → List ℕ → Asking) (append : Bool) (size start : ℕ) (pieces : List (List ℕ)) → EndLater (command_lines asking append size start pieces)
unfolding command_lines
commands-end asking append size start [] = tt
commands-end asking append size start (line ∷ []) =
    either EndLater (is_blank_line line) [] (one_command asking append size line) tt (inr refl, tt)
commands-end asking append size start (line ∷ next ∷ more) =
    either EndLater (is_blank_line line) (command_lines asking append size (start + length line + 1) (next ∷ more))
    (record { text = line; asking = asking append line; end = start + length line + 1 } ∷ command_lines asking true size (start + length line + 1) (next ∷ more))
    (commands-end asking append size (start + length line + 1) (next ∷ more))
    (inl (rw add-one (eqb-suc-zero (start + length line))), commands-end asking true size (start + length line + 1) (next ∷ more))

pub lines-end : (asking : Bool → List ℕ → Asking) (file : File) (append : Bool) (bytes : List ℕ) → EndLater (lines_of asking file append bytes)
lines-end asking file append bytes =
    either EndLater (takes_lines file && has_newline (without_newline bytes)) (command_lines asking append (length bytes) 0 (pieces_of bytes))
    (one_command asking append (length bytes) (without_newline bytes)) (commands-end asking append (length bytes) 0 (pieces_of bytes)) (inr refl, tt)

-- ---- of a stream

some-end : (at kept : ℕ) → kept ≤ at → (at + 1 - kept == 0) ≡ false
some-end at kept below = let e : at + 1 - kept ≡ suc (at - kept) = omega arith in rw e (eqb-suc-zero (at - kept))

-- where what was kept is of the first line
stream-end : (asking : List ℕ → Asking) (kept size start : ℕ) (pieces : List (List ℕ)) → kept ≤ start + length (first_of pieces)
    → EndLater (stream_lines asking kept size start pieces)
unfolding stream_lines
stream-end asking kept size start [] below = tt
stream-end asking kept size start (rest ∷ []) below =
    either EndLater (nat_lt most_kept (length rest)) (record { text = rest; asking = IsTooLong; end = size } ∷ []) [] (inr refl, tt) tt
stream-end asking kept size start (line ∷ next ∷ more) below = (
  inl (some-end (start + length line) kept below),
  stream-end asking kept size (start + length line + 1) (next ∷ more) (omega (arith, below)),
)

pub stream-ends : (asking : List ℕ → Asking) (size : ℕ) (rest bytes : List ℕ) → has_newline rest ≡ false
    → EndLater (stream_lines asking (length rest) size 0 (pieces_of (rest ++ bytes)))
stream-ends asking size rest bytes none =
    stream-end asking (length rest) size 0 (pieces_of (rest ++ bytes))
    (let first : length rest ≤ length (first_of (pieces_of (rest ++ bytes))) =
    subst (λ (l : List ℕ). length rest ≤ length l) (sym (piece-first (rest ++ bytes))) (begins-with rest bytes none) in omega (arith, first))

-- what is refused first of these bytes: their first line, or, if they are one that has not ended, for its length
abbrev pub IsStreamRefused : Terms → List Request → (List ℕ → Asking) → List ℕ → List ℕ → LineFault → Type 0
IsStreamRefused g past asking bytes text TooLong = (text ≡ before_first is_newline bytes) × (text ≡ bytes) × (most_kept < length text)
IsStreamRefused g past asking bytes text fault = (text ≡ before_first is_newline bytes) × IsRefusedFor g past fault (asking text)

-- none of the lines that have ended is too long
abbrev pub NoneIsTooLong : (List ℕ → Asking) → Type 0
NoneIsTooLong asking = (line : List ℕ) → asking line ≡ IsTooLong → ⊥

line-refused : (g : Terms) (past : List Request) (asking : List ℕ → Asking) (bytes text line : List ℕ) (fault : LineFault) → NoneIsTooLong asking
    → text ≡ line → line ≡ before_first is_newline bytes → IsRefusedFor g past fault (asking line) → IsStreamRefused g past asking bytes text fault
line-refused g past asking bytes text line NoCommand never same first refused =
    (same ∙ first, subst (λ (l : List ℕ). IsRefusedFor g past NoCommand (asking l)) (sym same) refused)
line-refused g past asking bytes text line (Refused refusal) never same first refused =
    (same ∙ first, subst (λ (l : List ℕ). IsRefusedFor g past (Refused refusal) (asking l)) (sym same) refused)
line-refused g past asking bytes text line TooLong never same first refused = absurd (by (asking line) refl refused)
  where
    by : (a : Asking) → asking line ≡ a → IsRefusedFor g past TooLong a → ⊥
    by IsTooLong is h = never line is
    by AsksNothing is h = h
    by IsWrongLine is h = h
    by (AsksFor command) is h = h

long-refused : (g : Terms) (past : List Request) (asking : List ℕ → Asking) (bytes text rest : List ℕ) (fault : LineFault) → pieces_of bytes ≡ rest ∷ []
    → text ≡ rest → most_kept < length rest → IsRefusedFor g past fault IsTooLong → IsStreamRefused g past asking bytes text fault
long-refused g past asking bytes text rest NoCommand is same long refused = absurd refused
long-refused g past asking bytes text rest (Refused refusal) is same long refused = absurd refused
long-refused g past asking bytes text rest TooLong is same long refused = (
  same ∙ sym (ap first_of is) ∙ piece-first bytes,
  same ∙ one-piece bytes rest is,
  subst (λ (l : List ℕ). most_kept < length l) (sym same) long,
)

pub stream-refused : (g : Terms) (past : List Request) (asking : List ℕ → Asking) (kept size : ℕ) (bytes text : List ℕ) (fault : LineFault) → NoneIsTooLong asking
    → IsFirstRefused g past (stream_lines asking kept size 0 (pieces_of bytes)) text fault → IsStreamRefused g past asking bytes text fault
unfolding stream_lines
stream-refused g past asking kept size bytes text fault never first = by (pieces_of bytes) refl first.lines_are
  where
    by : (pieces : List (List ℕ)) → pieces_of bytes ≡ pieces → stream_lines asking kept size 0 pieces ≡ first.first ∷ first.more
        → IsStreamRefused g past asking bytes text fault
    by [] is lines = absurd (cc)
    by (rest ∷ []) is lines = long (nat_lt most_kept (length rest)) refl lines
      where
        one : LineAsked
        one = record { text = rest; asking = IsTooLong; end = size }

        long : (t : Bool) → nat_lt most_kept (length rest) ≡ t → (if t then one ∷ [] else []) ≡ first.first ∷ first.more → IsStreamRefused g past asking bytes text fault
        long true at all =
            let same : one ≡ first.first = cc in
            long-refused g past asking bytes text rest fault is (first.text_is ∙ ap (λ (l : LineAsked). l.text) (sym same)) (ltb-true most_kept (length rest) at)
            (subst (λ (l : LineAsked). IsRefusedFor g past fault l.asking) (sym same) first.refused)
        long false at all = absurd (let no : [] ≡ first.first ∷ first.more = all in cc)
    by (line ∷ next ∷ more) is lines =
        let one : LineAsked = record { text = line; asking = asking line; end = 0 + length line + 1 - kept } in
        let all : one ∷ stream_lines asking kept size (0 + length line + 1) (next ∷ more) ≡ first.first ∷ first.more = lines in
        let same : one ≡ first.first = cc in
        line-refused g past asking bytes text line fault never (first.text_is ∙ ap (λ (l : LineAsked). l.text) (sym same)) (sym (ap first_of is) ∙ piece-first bytes)
        (subst (λ (l : LineAsked). IsRefusedFor g past fault l.asking) (sym same) first.refused)

-- one line at once, of bytes of which it is the first
pub once-refused : (g : Terms) (past : List Request) (asking : List ℕ → Asking) (line bytes text : List ℕ) (fault : LineFault) → NoneIsTooLong asking
    → line ≡ before_first is_newline bytes → IsFirstRefused g past (line_at_once asking line) text fault → IsStreamRefused g past asking bytes text fault
once-refused g past asking line bytes text fault never first refused =
    let one : LineAsked = record { text = line; asking = asking line; end = length line } in
    let all : one ∷ [] ≡ refused.first ∷ refused.more = refused.lines_are in
    let same : one ≡ refused.first = cc in
    line-refused g past asking bytes text line fault never (refused.text_is ∙ ap (λ (l : LineAsked). l.text) (sym same)) first
    (subst (λ (l : LineAsked). IsRefusedFor g past fault l.asking) (sym same) refused.refused)
