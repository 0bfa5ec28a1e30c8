-- Lines that are commands, one after another.
use Rattle.std.proofs.Common.{◌≡◌, ℕ, ◌+◌, ◌<◌, ◌≤◌, ◌&&◌, Bool, true, false, if◌then◌else◌, List, [], ◌∷◌, length, drop, take, get_or, Some, None, refl, sym, ap, subst, ◌∙◌, arith}
use Rattle.std.specs.List.{onto_first, position, position_or_len, slice_split}
use Rattle.std.proofs.lemmas.List.{length-take-le}
use Rattle.std.proofs.lemmas.List.Quantifiers.{position-Some}
use Rattle.std.proofs.lemmas.List.Splits.{slice_split_first, slice_split_none}
use Rattle.std.proofs.lemmas.List.Sums.{fails_before_first, position_or_len_is}
use Rattle.trace_command.specs.Requests.{Request, request_of}
use Rattle.trace_command.specs.declared.command.CommandOf.TheVariants as commands
use Rattle.file_list.specs.FileKinds.{takes_lines}
use Rattle.file_list.specs.declared.file.File.{File}
use Rattle.mount_tree.specs.Scenes.{SceneSeen}
use Rattle.mount_tree.specs.declared.node.Owner.{Owner}
use Rattle.mount_replies.specs.Lines.{command_lines, command_text, has_newline, is_blank_line, is_newline, lines_of, one_command, pieces_of, without_newline}
use Rattle.mount_replies.specs.Mounted.{HasLedTo, IsRun, MountSeen, all_done, stopped_at, terms_of}
use Rattle.mount_replies.specs.Services.{Terms}
use Rattle.mount_replies.specs.Steps.{Asking, AsksFor, LineAsked, Ran}
use Rattle.mount_replies.specs.declared.fault.LineFault.{LineFault}
use Rattle.mount_replies.specs.declared.fault.Progress.{Progress}
use Rattle.mount_replies.specs.declared.fault.Stop.{Stop}
use Rattle.mount_replies.specs.declared.writing.Target.{Target}
use Rattle.mount_replies.specs.private.LineRuns.{IsKept, IsLineDone, IsLineStopped, RunsFrom, RunsTo, StaysThere, refused_line, target_command}

-- ---- one line

-- nothing was done
pub kept-none : (old : MountSeen) → IsKept old old
kept-none old = record { terms = refl; files = refl; parked = refl; errors = refl; counted = refl }

pub kept-more : (old mid new : MountSeen) → IsKept old mid → IsKept mid new → IsKept old new
kept-more old mid new first second = record {
  terms = second.terms ∙ first.terms;
  files = second.files ∙ first.files;
  parked = second.parked ∙ first.parked;
  errors = second.errors ∙ first.errors;
  counted = second.counted ∙ first.counted;
}

-- no line is there
pub none-runs : (past : List Request) (done : ℕ) (old : MountSeen) → HasLedTo past old
    → RunsFrom past done old old [] (record { done = done; stop = None })
none-runs past done old mounted = record { after = past; mounted = mounted; kept = kept-none old; runs = refl }

-- it is the last one, and was done
pub last-done : (past : List Request) (done : ℕ) (old new : MountSeen) (line : LineAsked) → IsLineDone past old new line.asking
    → RunsFrom past done old new (line ∷ []) (record { done = line.end; stop = None })
last-done past done old new line is = record {
  after = is.after;
  mounted = is.mounted;
  kept = is.kept;
  runs = is.runs done line [] (all_done is.after line.end) refl refl;
}

-- it was not done
pub one-stopped : (past : List Request) (done : ℕ) (old new : MountSeen) (line : LineAsked) (lines : List LineAsked) (stop : Stop)
    → IsLineStopped past old new line.asking stop.fault → stop.line.now ≡ line.text
    → RunsFrom past done old new (line ∷ lines) (record { done = done; stop = Some stop })
one-stopped past done old new line lines stop is text = record {
  after = past;
  mounted = is.mounted;
  kept = is.kept;
  runs = subst (λ (t : List ℕ). IsRun (terms_of old) past done (line ∷ lines) (stopped_at past done t stop.fault)) (sym text) (is.runs done line lines refl);
}

-- ---- lines one after another

-- these lines are under way: so many bytes were done, and what doing the ones that are left comes to is what doing all does
pub record IsUnderWay (past : List Request) (old new : MountSeen) (all : List LineAsked) (done : ℕ) (left : List LineAsked) : Type 0 where
  pub now : List Request
  pub mounted : HasLedTo now new
  pub kept : IsKept old new
  pub runs : (ran : Ran) → IsRun (terms_of old) now done left ran → IsRun (terms_of old) past 0 all ran

-- the lines that are left, written otherwise
pub way-same : (past : List Request) (old new : MountSeen) (all : List LineAsked) (done : ℕ) (left other : List LineAsked) → left ≡ other
    → IsUnderWay past old new all done left → IsUnderWay past old new all done other
way-same past old new all done left other is way = subst (λ (lines : List LineAsked). IsUnderWay past old new all done lines) is way

-- the next line was done
pub way-done : (past : List Request) (old mid new : MountSeen) (all : List LineAsked) (done : ℕ) (line : LineAsked) (left : List LineAsked)
    (way : IsUnderWay past old mid all done (line ∷ left)) → IsLineDone way.now mid new line.asking → IsUnderWay past old new all line.end left
way-done past old mid new all done line left way is = record {
  now = is.after;
  mounted = is.mounted;
  kept = kept-more old mid new way.kept is.kept;
  runs = λ ran rest. way.runs ran
      (subst (λ (g : Terms). IsRun g way.now done (line ∷ left) ran) way.kept.terms
      (is.runs done line left ran refl (subst (λ (g : Terms). IsRun g is.after line.end left ran) (sym way.kept.terms) rest)));
}

-- the others were done as far as none was refused
pub way-ends : (past : List Request) (old mid new : MountSeen) (all : List LineAsked) (done : ℕ) (left : List LineAsked) (progress : Progress)
    (way : IsUnderWay past old mid all done left) → RunsFrom way.now done mid new left progress → RunsTo past old new all progress
way-ends past old mid new all done left progress way last = record {
  after = last.after;
  mounted = last.mounted;
  kept = kept-more old mid new way.kept last.kept;
  runs = way.runs (record { past = last.after; done = progress.done; refused = refused_line progress.stop })
      (subst (λ (g : Terms). IsRun g way.now done left (record { past = last.after; done = progress.done; refused = refused_line progress.stop })) way.kept.terms last.runs);
}

-- ---- bytes as lines

beyond : (bytes : List ℕ) → position is_newline bytes ≡ None → length bytes ≤ position_or_len is_newline bytes
beyond bytes none = grind (arith, none)

no-newline : (bytes : List ℕ) → position is_newline bytes ≡ None → (k d : ℕ) → k < length bytes → is_newline (get_or bytes k d) ≡ false
no-newline bytes none k d low = fails_before_first is_newline bytes k d (omega (arith, beyond bytes none, low))

-- there is a piece always
some-piece : (bytes : List ℕ) → (first : List ℕ) × (more : List (List ℕ)) × (pieces_of bytes ≡ first ∷ more)
some-piece [] = ([], [], refl)
some-piece (byte ∷ bytes) = by (is_newline byte) (slice_split is_newline bytes)
  where
    by : (t : Bool) (pieces : List (List ℕ))
        → (first : List ℕ) × (more : List (List ℕ)) × ((if t then [] ∷ pieces else onto_first byte pieces) ≡ first ∷ more)
    by true pieces = ([], pieces, refl)
    by false [] = (byte ∷ [], [], refl)
    by false (piece ∷ pieces) = (byte ∷ piece, pieces, refl)

lines-more : (asking : Bool → List ℕ → Asking) (append : Bool) (size from to : ℕ) (line next : List ℕ) (more : List (List ℕ)) → from + length line + 1 ≡ to
    → command_lines asking append size from (line ∷ next ∷ more)
    ≡ (if is_blank_line line then command_lines asking append size to (next ∷ more)
    else record { text = line; asking = asking append line; end = to } ∷ command_lines asking true size to (next ∷ more))
unfolding command_lines
lines-more asking append size from to line next more is =
    ap (λ (n : ℕ). if is_blank_line line then command_lines asking append size n (next ∷ more)
    else record { text = line; asking = asking append line; end = n } ∷ command_lines asking true size n (next ∷ more)) is

-- the first line of several, and those that follow
pub lines-split : (asking : Bool → List ℕ → Asking) (append : Bool) (size from to at : ℕ) (bytes : List ℕ) → position is_newline bytes ≡ Some at
    → to ≡ from + (at + 1)
    → command_lines asking append size from (pieces_of bytes)
    ≡ (if is_blank_line (take at bytes) then command_lines asking append size to (pieces_of (drop (at + 1) bytes))
    else record { text = take at bytes; asking = asking append (take at bytes); end = to }
    ∷ command_lines asking true size to (pieces_of (drop (at + 1) bytes)))
lines-split asking append size from to at bytes found is =
    let some = position-Some is_newline bytes at 0 found in
    let low : at ≤ length bytes = omega (arith, some.0) in
    let first : position_or_len is_newline bytes ≡ at = position_or_len_is is_newline bytes at 0 low some.2 (λ (l : at < length bytes). some.1) in
    let there : position_or_len is_newline bytes < length bytes = omega (arith, first, some.0) in
    let split : pieces_of bytes ≡ take at bytes ∷ pieces_of (drop (at + 1) bytes) =
    subst (λ (k : ℕ). pieces_of bytes ≡ take k bytes ∷ pieces_of (drop (k + 1) bytes)) first (slice_split_first is_newline bytes 0 there) in
    let long : length (take at bytes) ≡ at = length-take-le at bytes low in
    let end : from + length (take at bytes) + 1 ≡ to = omega (arith, long, is) in
    let piece = some-piece (drop (at + 1) bytes) in
    let rest : pieces_of (drop (at + 1) bytes) ≡ piece.0 ∷ piece.1 = piece.2 in
    ap (λ (p : List (List ℕ)). command_lines asking append size from p) split
    ∙ ap (λ (p : List (List ℕ)). command_lines asking append size from (take at bytes ∷ p)) rest
    ∙ lines-more asking append size from to (take at bytes) piece.0 piece.1 end
    ∙ ap (λ (p : List (List ℕ)). if is_blank_line (take at bytes) then command_lines asking append size to p
    else record { text = take at bytes; asking = asking append (take at bytes); end = to } ∷ command_lines asking true size to p) (sym rest)

one-left : (asking : Bool → List ℕ → Asking) (append : Bool) (size from : ℕ) (line : List ℕ)
    → command_lines asking append size from (line ∷ []) ≡ (if is_blank_line line then [] else one_command asking append size line)
unfolding command_lines
one-left asking append size from line = refl

-- the last one
pub lines-last : (asking : Bool → List ℕ → Asking) (append : Bool) (size from : ℕ) (bytes : List ℕ) → position is_newline bytes ≡ None
    → command_lines asking append size from (pieces_of bytes) ≡ command_lines asking append size 0 (bytes ∷ [])
lines-last asking append size from bytes none =
    ap (λ (p : List (List ℕ)). command_lines asking append size from p) (slice_split_none is_newline bytes (no-newline bytes none))
    ∙ one-left asking append size from bytes ∙ sym (one-left asking append size 0 bytes)

pub last-blank : (asking : Bool → List ℕ → Asking) (append : Bool) (size from : ℕ) (line : List ℕ) → is_blank_line line ≡ true
    → command_lines asking append size from (line ∷ []) ≡ []
last-blank asking append size from line blank =
    one-left asking append size from line ∙ ap (λ (t : Bool). if t then [] else one_command asking append size line) blank

pub last-full : (asking : Bool → List ℕ → Asking) (append : Bool) (size from : ℕ) (line : List ℕ) → is_blank_line line ≡ false
    → command_lines asking append size from (line ∷ []) ≡ one_command asking append size line
last-full asking append size from line full =
    one-left asking append size from line ∙ ap (λ (t : Bool). if t then [] else one_command asking append size line) full

-- ---- the loop

-- the next line is not blank
lines-full : (asking : Bool → List ℕ → Asking) (append : Bool) (size from to at : ℕ) (bytes after : List ℕ) → position is_newline bytes ≡ Some at
    → to ≡ from + (at + 1) → after ≡ drop (at + 1) bytes → is_blank_line (take at bytes) ≡ false
    → command_lines asking append size from (pieces_of bytes)
    ≡ record { text = take at bytes; asking = asking append (take at bytes); end = to } ∷ command_lines asking true size to (pieces_of after)
lines-full asking append size from to at bytes after found is rest full =
    lines-split asking append size from to at bytes found is
    ∙ ap (λ (t : Bool). if t then command_lines asking append size to (pieces_of (drop (at + 1) bytes))
    else record { text = take at bytes; asking = asking append (take at bytes); end = to }
    ∷ command_lines asking true size to (pieces_of (drop (at + 1) bytes))) full
    ∙ ap (λ (b : List ℕ). record { text = take at bytes; asking = asking append (take at bytes); end = to } ∷ command_lines asking true size to (pieces_of b)) (sym rest)

-- or it is
lines-blank : (asking : Bool → List ℕ → Asking) (append : Bool) (size from to at : ℕ) (bytes after : List ℕ) → position is_newline bytes ≡ Some at
    → to ≡ from + (at + 1) → after ≡ drop (at + 1) bytes → is_blank_line (take at bytes) ≡ true
    → command_lines asking append size from (pieces_of bytes) ≡ command_lines asking append size to (pieces_of after)
lines-blank asking append size from to at bytes after found is rest blank =
    lines-split asking append size from to at bytes found is
    ∙ ap (λ (t : Bool). if t then command_lines asking append size to (pieces_of (drop (at + 1) bytes))
    else record { text = take at bytes; asking = asking append (take at bytes); end = to }
    ∷ command_lines asking true size to (pieces_of (drop (at + 1) bytes))) blank
    ∙ ap (λ (b : List ℕ). command_lines asking append size to (pieces_of b)) (sym rest)

-- it was not done
pub next-stopped : (past : List Request) (old mid new : MountSeen) (all : List LineAsked) (asking : Bool → List ℕ → Asking) (append : Bool)
    (size from at done : ℕ) (rest : List ℕ) (stop : Stop)
    → IsUnderWay past old mid all done (command_lines asking append size from (pieces_of rest)) → position is_newline rest ≡ Some at
    → is_blank_line (take at rest) ≡ false → stop.line.now ≡ take at rest
    → ((now : List Request) → HasLedTo now mid → IsLineStopped now mid new (asking append (take at rest)) stop.fault)
    → RunsTo past old new all (record { done = done; stop = Some stop })
next-stopped past old mid new all asking append size from at done rest stop way found full text stopped =
    let line : LineAsked = record { text = take at rest; asking = asking append (take at rest); end = from + (at + 1) } in
    let left : List LineAsked = command_lines asking true size (from + (at + 1)) (pieces_of (drop (at + 1) rest)) in
    let same = way-same past old mid all done (command_lines asking append size from (pieces_of rest)) (line ∷ left)
    (lines-full asking append size from (from + (at + 1)) at rest (drop (at + 1) rest) found refl refl full) way in
    way-ends past old mid new all done (line ∷ left) (record { done = done; stop = Some stop }) same
    (one-stopped same.now done mid new line left stop (stopped same.now same.mounted) text)

-- it was done
pub next-done : (past : List Request) (old mid new : MountSeen) (all : List LineAsked) (asking : Bool → List ℕ → Asking) (append : Bool)
    (size from to at done : ℕ) (rest after : List ℕ)
    → IsUnderWay past old mid all done (command_lines asking append size from (pieces_of rest)) → position is_newline rest ≡ Some at
    → to ≡ from + (at + 1) → after ≡ drop (at + 1) rest → is_blank_line (take at rest) ≡ false
    → ((now : List Request) → HasLedTo now mid → IsLineDone now mid new (asking append (take at rest)))
    → IsUnderWay past old new all to (command_lines asking true size to (pieces_of after))
next-done past old mid new all asking append size from to at done rest after way found is left_is full does =
    let line : LineAsked = record { text = take at rest; asking = asking append (take at rest); end = to } in
    let left : List LineAsked = command_lines asking true size to (pieces_of after) in
    let same = way-same past old mid all done (command_lines asking append size from (pieces_of rest)) (line ∷ left)
    (lines-full asking append size from to at rest after found is left_is full) way in
    way-done past old mid new all done line left same (does same.now same.mounted)

-- nothing is asked of a blank one
pub next-blank : (past : List Request) (old mid : MountSeen) (all : List LineAsked) (asking : Bool → List ℕ → Asking) (append : Bool)
    (size from to at done : ℕ) (rest after : List ℕ)
    → IsUnderWay past old mid all done (command_lines asking append size from (pieces_of rest)) → position is_newline rest ≡ Some at
    → to ≡ from + (at + 1) → after ≡ drop (at + 1) rest → is_blank_line (take at rest) ≡ true
    → IsUnderWay past old mid all done (command_lines asking append size to (pieces_of after))
next-blank past old mid all asking append size from to at done rest after way found is left_is blank =
    way-same past old mid all done (command_lines asking append size from (pieces_of rest)) (command_lines asking append size to (pieces_of after))
    (lines-blank asking append size from to at rest after found is left_is blank) way

-- the last one is left
pub last-runs : (past : List Request) (old mid new : MountSeen) (all : List LineAsked) (asking : Bool → List ℕ → Asking) (append : Bool)
    (size from done : ℕ) (rest : List ℕ) (progress : Progress)
    → IsUnderWay past old mid all done (command_lines asking append size from (pieces_of rest)) → position is_newline rest ≡ None
    → ((now : List Request) → HasLedTo now mid → RunsFrom now done mid new (command_lines asking append size 0 (rest ∷ [])) progress)
    → RunsTo past old new all progress
last-runs past old mid new all asking append size from done rest progress way none last =
    let same = way-same past old mid all done (command_lines asking append size from (pieces_of rest)) (command_lines asking append size 0 (rest ∷ []))
    (lines-last asking append size from rest none) way in
    way-ends past old mid new all done (command_lines asking append size 0 (rest ∷ [])) progress same (last same.now same.mounted)

-- ---- one command, or one for each line

pub lines-several : (asking : Bool → List ℕ → Asking) (file : File) (append : Bool) (bytes text : List ℕ) → text ≡ without_newline bytes
    → (takes_lines file && has_newline text) ≡ true
    → lines_of asking file append bytes ≡ command_lines asking append (length bytes) 0 (pieces_of bytes)
lines-several asking file append bytes text is several =
    ap (λ (t : Bool). if t then command_lines asking append (length bytes) 0 (pieces_of bytes) else one_command asking append (length bytes) (without_newline bytes))
    (ap (λ (b : List ℕ). takes_lines file && has_newline b) (sym is) ∙ several)

pub lines-one : (asking : Bool → List ℕ → Asking) (file : File) (append : Bool) (bytes text : List ℕ) → text ≡ without_newline bytes
    → (takes_lines file && has_newline text) ≡ false → lines_of asking file append bytes ≡ one_command asking append (length bytes) text
lines-one asking file append bytes text is one =
    ap (λ (t : Bool). if t then command_lines asking append (length bytes) 0 (pieces_of bytes) else one_command asking append (length bytes) (without_newline bytes))
    (ap (λ (b : List ℕ). takes_lines file && has_newline b) (sym is) ∙ one)
    ∙ ap (λ (b : List ℕ). one_command asking append (length bytes) b) (sym is)

-- ---- a file that stays there, so that the same is asked of it

pub stays-more : (old mid new : SceneSeen) (owner : Owner) (file : File) → StaysThere old mid owner file → StaysThere mid new owner file → StaysThere old new owner file
stays-more old mid new owner file first second = record { there = second.there; path = second.path ∙ first.path }

abbrev path_command : List ℕ → File → Bool → List ℕ → Asking
path_command path file append line = AsksFor (request_of (commands.Write path append (command_text file line)))

pub done-same : (past : List Request) (mid new : MountSeen) (scene : SceneSeen) (target : Target) (append : Bool) (line : List ℕ)
    → StaysThere scene mid.scene target.owner target.file → IsLineDone past mid new (target_command mid.scene target append line)
    → IsLineDone past mid new (target_command scene target append line)
done-same past mid new scene target append line stays is =
    subst (λ (p : List ℕ). IsLineDone past mid new (path_command p target.file append line)) stays.path is

pub stopped-same : (past : List Request) (mid new : MountSeen) (scene : SceneSeen) (target : Target) (append : Bool) (line : List ℕ) (fault : LineFault)
    → StaysThere scene mid.scene target.owner target.file → IsLineStopped past mid new (target_command mid.scene target append line) fault
    → IsLineStopped past mid new (target_command scene target append line) fault
stopped-same past mid new scene target append line fault stays is =
    subst (λ (p : List ℕ). IsLineStopped past mid new (path_command p target.file append line) fault) stays.path is

pub runs-same : (past : List Request) (done : ℕ) (mid new : MountSeen) (scene : SceneSeen) (target : Target) (append : Bool) (size : ℕ) (line : List ℕ)
    (progress : Progress) → StaysThere scene mid.scene target.owner target.file
    → RunsFrom past done mid new (command_lines (target_command mid.scene target) append size 0 (line ∷ [])) progress
    → RunsFrom past done mid new (command_lines (target_command scene target) append size 0 (line ∷ [])) progress
runs-same past done mid new scene target append size line progress stays run =
    subst (λ (p : List ℕ). RunsFrom past done mid new (command_lines (path_command p target.file) append size 0 (line ∷ [])) progress) stays.path run
